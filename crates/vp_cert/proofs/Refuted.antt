-- Where the values of a certificate's terms add to 0, no point meets all atoms of its case.
use Rattle.std.proofs.Common.{◌≡◌, ◌≢◌, ℤ, ℕ, zero, suc, ◌-◌, ◌<◌, ◌==◌, Bool, true, false, List, [], ◌∷◌, ◌++◌, map, pos, ◌*◌, ◌+◌, Option, Some, None, slice_get, option_and_then, refl, sym, ap, ◌∙◌, subst, arith, nat_lt}
use Rattle.std.specs.Prelude.{not}
use Rattle.std.specs.List.{list_all}
use Rattle.std.specs.Option.{option_map_or}
use Rattle.std.specs.declared.cmp.Ordering.TheVariants.{Less}
use Rattle.std.proofs.lemmas.Bool.Decides.{nat_tests}
use Rattle.std.proofs.lemmas.List.{map-append}
use Rattle.vp_terms.specs.Certificates.{begins_with_one_pos, is_pos}
use Rattle.vp_terms.specs.Rational.{Rational, whole, Equals, sum, product}
use Rattle.vp_terms.specs.declared.expr.Places.{Places}
use Rattle.vp_terms.specs.declared.package.CertTerm.{CertTerm}
use Rattle.vp_terms.specs.declared.package.CertTerm.TheVariants.{Pos, Sum, Eq}
use Rattle.vp_terms.proofs.Agreeing.{both}
use Rattle.vp_terms.proofs.RationalLaws.{Equals-sym}
use Rattle.vp_poly.specs.declared.mono.Mono.{Mono}
use Rattle.vp_poly.specs.declared.mono.Term.{Term}
use Rattle.vp_poly.specs.Poly.{IsPoly, coef, mono_cmp}
use Rattle.vp_poly.specs.Times.{HasCoefficients, IsTimes}
use Rattle.vp_poly.specs.Value.{Point, value_at}
use Rattle.vp_logic.specs.declared.norm.Atom.{Atom}
use Rattle.vp_logic.specs.declared.norm.Rel.{Rel}
use Rattle.vp_logic.specs.declared.norm.Rel.TheVariants as rel
use Rattle.vp_logic.specs.Cases.{case_holds}
use Rattle.vp_logic.specs.Truth.{atom_holds, rel_holds}
use Rattle.vp_cert.specs.Certificate.{Refutes, TermFactor, LabelAtoms, labelled, label_factor, labels_fit, labels_pass, is_strict, is_equation, is_inequality, begins_strict, factors, combined, squared, expression_factor, total_coefficients}
use Rattle.vp_cert.specs.Refusals.{IsFirstLeft}
use Rattle.vp_cert.proofs.Combining.{combined-append}
use Rattle.vp_cert.proofs.FactorLaws.{once_is}
use Rattle.vp_cert.proofs.Signs.{IsNatural, IsPositive, EachIs, natural, positive_products, natural_products, natural_squares, positive_sums, natural_zero, positive_of, natural_of, zero_of, not_zero}

-- the value of a product of factors, and of the sum of all terms
abbrev pub product_value : List TermFactor → Point → Rational
product_value fs x = combined product (whole (pos 1)) (map (λ f. f.value x) fs)

abbrev pub total_value : Places → LabelAtoms → List CertTerm → Point → Rational
total_value p h ts x = combined sum (whole (pos 0)) (map (λ t. product_value (factors p h t) x) ts)

-- all atoms that have a label hold
record Meets (h : LabelAtoms) (x : Point) : Type 0 where
  each : (l : ℕ) (a : Atom) → h l ≡ Some a → atom_holds a x ≡ true

strict_here : (o : Option Atom) (x : Point) → ((a : Atom) → o ≡ Some a → atom_holds a x ≡ true) → option_map_or (λ (a : Atom). is_strict a.rel) o false ≡ true → IsPositive (value_at (option_map_or (λ (a : Atom). a.poly) o []) x)
strict_here None x f g = absurd (cc)
strict_here (Some a) x f g = by a.rel refl
  where
    by : (r : Rel) → a.rel ≡ r → IsPositive (value_at a.poly x)
    by rel.Ge e = absurd (let i : is_strict a.rel ≡ true = g in let j : false ≡ true = ap is_strict (sym e) ∙ i in cc)
    by rel.Gt e = positive_of (value_at a.poly x) (ap (λ (r : Rel). rel_holds r (value_at a.poly x)) (sym e) ∙ f a refl)
    by rel.Eq e = absurd (let i : is_strict a.rel ≡ true = g in let j : false ≡ true = ap is_strict (sym e) ∙ i in cc)

natural_here : (o : Option Atom) (x : Point) → ((a : Atom) → o ≡ Some a → atom_holds a x ≡ true) → option_map_or (λ (a : Atom). is_inequality a.rel) o false ≡ true → IsNatural (value_at (option_map_or (λ (a : Atom). a.poly) o []) x)
natural_here None x f g = absurd (cc)
natural_here (Some a) x f g = by a.rel refl
  where
    by : (r : Rel) → a.rel ≡ r → IsNatural (value_at a.poly x)
    by rel.Ge e = natural_of (value_at a.poly x) (ap (λ (r : Rel). rel_holds r (value_at a.poly x)) (sym e) ∙ f a refl)
    by rel.Gt e = natural _ (positive_of (value_at a.poly x) (ap (λ (r : Rel). rel_holds r (value_at a.poly x)) (sym e) ∙ f a refl))
    by rel.Eq e = absurd (let i : is_inequality a.rel ≡ true = g in let j : false ≡ true = ap is_inequality (sym e) ∙ i in cc)

zero_here : (o : Option Atom) (x : Point) → ((a : Atom) → o ≡ Some a → atom_holds a x ≡ true) → option_map_or (λ (a : Atom). is_equation a.rel) o false ≡ true → (value_at (option_map_or (λ (a : Atom). a.poly) o []) x).num ≡ pos 0
zero_here None x f g = absurd (cc)
zero_here (Some a) x f g = by a.rel refl
  where
    by : (r : Rel) → a.rel ≡ r → (value_at a.poly x).num ≡ pos 0
    by rel.Ge e = absurd (let i : is_equation a.rel ≡ true = g in let j : false ≡ true = ap is_equation (sym e) ∙ i in cc)
    by rel.Gt e = absurd (let i : is_equation a.rel ≡ true = g in let j : false ≡ true = ap is_equation (sym e) ∙ i in cc)
    by rel.Eq e = zero_of (value_at a.poly x) (ap (λ (r : Rel). rel_holds r (value_at a.poly x)) (sym e) ∙ f a refl)

strict_labels : (h : LabelAtoms) (x : Point) (ls : List ℕ) → Meets h x → labels_pass h is_strict ls ≡ true → EachIs IsPositive (map (λ (f : TermFactor). f.value x) (map (label_factor h) ls))
strict_labels h x [] m g = tt
strict_labels h x (l ∷ ls) m g = let s = both _ _ g in (strict_here (h l) x (m.each l) s.0, strict_labels h x ls m s.1)

natural_labels : (h : LabelAtoms) (x : Point) (ls : List ℕ) → Meets h x → labels_pass h is_inequality ls ≡ true → EachIs IsNatural (map (λ (f : TermFactor). f.value x) (map (label_factor h) ls))
natural_labels h x [] m g = tt
natural_labels h x (l ∷ ls) m g = let s = both _ _ g in (natural_here (h l) x (m.each l) s.0, natural_labels h x ls m s.1)

map_squared : {A B : Type 0} (f : A → B) (xs : List A) → map f (squared xs) ≡ squared (map f xs)
map_squared f [] = refl
map_squared f (x ∷ xs) = ap (λ l. f x ∷ f x ∷ l) (map_squared f xs)

later_term : (p : Places) (h : LabelAtoms) (x : Point) (t : CertTerm) → Meets h x → labels_fit h t ≡ true → not (is_pos t) ≡ true → IsNatural (product_value (factors p h t) x)
later_term p h x (Pos n ls) m g i = absurd (cc)
later_term p h x (Eq l e) m g i = natural_zero (whole (pos 1)) ((label_factor h l).value x) ((expression_factor p e).value x) (zero_here (h l) x (m.each l) g)
later_term p h x (Sum n es ls) m g i =
    subst IsNatural (sym (ap (λ (l : List Rational). combined product (product (whole (pos n)) (whole (pos 1))) l) split ∙ combined-append product (product (whole (pos n)) (whole (pos 1))) (squared (map (λ (f : TermFactor). f.value x) (map (expression_factor p) es))) (map (λ (f : TermFactor). f.value x) (map (label_factor h) ls))))
    (natural_products _ _ (natural_squares (product (whole (pos n)) (whole (pos 1))) (map (λ (f : TermFactor). f.value x) (map (expression_factor p) es)) (record { size = n * 1; is = refl })) (natural_labels h x ls m g))
  where
    split : map (λ (f : TermFactor). f.value x) (squared (map (expression_factor p) es) ++ map (label_factor h) ls) ≡ squared (map (λ (f : TermFactor). f.value x) (map (expression_factor p) es)) ++ map (λ (f : TermFactor). f.value x) (map (label_factor h) ls)
    split = map-append (λ (f : TermFactor). f.value x) (squared (map (expression_factor p) es)) (map (label_factor h) ls) ∙ ap (λ l. l ++ map (λ (f : TermFactor). f.value x) (map (label_factor h) ls)) (map_squared (λ (f : TermFactor). f.value x) (map (expression_factor p) es))

first_term : (p : Places) (h : LabelAtoms) (x : Point) (n : ℕ) (ls : List ℕ) → Meets h x → 0 < n → labels_pass h is_strict ls ≡ true → IsPositive (product_value (factors p h (Pos n ls)) x)
first_term p h x n ls m some g = positive_products (product (whole (pos n)) (whole (pos 1))) _ (record { size = n * 1; is = refl; some = omega arith }) (strict_labels h x ls m g)

later_terms : (p : Places) (h : LabelAtoms) (x : Point) (ts : List CertTerm) → Meets h x → list_all (labels_fit h) ts ≡ true → list_all (λ u. not (is_pos u)) ts ≡ true → EachIs IsNatural (map (λ (t : CertTerm). product_value (factors p h t) x) ts)
later_terms p h x [] m g i = tt
later_terms p h x (t ∷ ts) m g i = let a = both _ _ g in let b = both _ _ i in (later_term p h x t m a.0 b.0, later_terms p h x ts m a.1 b.1)

positive_total : (p : Places) (h : LabelAtoms) (x : Point) (ts : List CertTerm) → Meets h x → begins_with_one_pos ts ≡ true → list_all (labels_fit h) ts ≡ true → begins_strict h ts ≡ true → IsPositive (total_value p h ts x)
positive_total p h x [] m f g s = absurd (cc)
positive_total p h x (Sum n es ls ∷ ts) m f g s = absurd (cc)
positive_total p h x (Eq l e ∷ ts) m f g s = absurd (cc)
positive_total p h x (Pos n ls ∷ ts) m f g s =
    let b = both (nat_lt 0 n) (labels_pass h is_strict ls) s in
    let i = both (labels_fit h (Pos n ls)) (list_all (labels_fit h) ts) g in
    let some : 0 < n = grind (arith, nat_tests, b.0) in
    let first = first_term p h x n ls m some b.1 in
    positive_sums (sum (product_value (factors p h (Pos n ls)) x) (whole (pos 0))) _ (turned _ first) (later_terms p h x ts m i.1 f)
  where
    turned : (q : Rational) → IsPositive q → IsPositive (sum q (whole (pos 0)))
    turned q h = record { size = h.size * 1 + 0 * q.den; is = rw h.is refl; some = omega (arith, h.some) }

-- ---- a case that holds meets its labels

passed : (p : ℕ → Bool) (ks : List ℕ) (i k : ℕ) → list_all p ks ≡ true → slice_get ks i ≡ Some k → p k ≡ true
passed p [] i k h e = absurd (cc)
passed p (j ∷ ks) zero k h e = let f : j ≡ k = cc in subst (λ (n : ℕ). p n ≡ true) f (both (p j) (list_all p ks) h).0
passed p (j ∷ ks) (suc i) k h e = passed p ks i k (both (p j) (list_all p ks) h).1 e

found : (o : Option Atom) (a : Atom) (x : Point) → o ≡ Some a → option_map_or (λ (b : Atom). atom_holds b x) o false ≡ true → atom_holds a x ≡ true
found o a x e h = subst (λ (q : Option Atom). option_map_or (λ (b : Atom). atom_holds b x) q false ≡ true) e h

none_is : (a : Atom) (o : Option Atom) → o ≡ None → o ≡ Some a → ⊥
none_is a o e f = cc

meets : (atoms : List Atom) (places : List ℕ) (x : Point) → case_holds atoms x places ≡ true → Meets (labelled atoms places) x
meets atoms places x h = record { each = by }
  where
    through : (l : ℕ) (a : Atom) (o : Option ℕ) → slice_get places (l - 1) ≡ o → option_and_then (slice_get atoms) o ≡ Some a → atom_holds a x ≡ true
    through l a None f e = absurd (cc)
    through l a (Some k) f e = found (slice_get atoms k) a x e (passed (λ (j : ℕ). option_map_or (λ (b : Atom). atom_holds b x) (slice_get atoms j) false) places (l - 1) k h f)

    zero_or : (l : ℕ) (b : Bool) → (l == 0) ≡ b → (a : Atom) → labelled atoms places l ≡ Some a → atom_holds a x ≡ true
    zero_or l true f a e = absurd (none_is a (labelled atoms places l) (rw f refl) e)
    zero_or l false f a e = through l a (slice_get places (l - 1)) refl (sym (rw f refl) ∙ e)

    by : (l : ℕ) (a : Atom) → labelled atoms places l ≡ Some a → atom_holds a x ≡ true
    by l a e = zero_or l (l == 0) refl a e

pub refuted : (p : Places) (atoms : List Atom) (places : List ℕ) (ts : List CertTerm) (x : Point) → begins_with_one_pos ts ≡ true → list_all (labels_fit (labelled atoms places)) ts ≡ true → begins_strict (labelled atoms places) ts ≡ true →
    Equals (whole (pos 0)) (total_value p (labelled atoms places) ts x) → case_holds atoms x places ≡ false
refuted p atoms places ts x f g s e = by (case_holds atoms x places) refl
  where
    by : (b : Bool) → case_holds atoms x places ≡ b → case_holds atoms x places ≡ false
    by false h = h
    by true h = absurd (not_zero (total_value p (labelled atoms places) ts x) (positive_total p (labelled atoms places) x ts (meets atoms places x h) f g s) e)

-- ---- what is left of a sum

pub refutes_of : (p : Places) (h : LabelAtoms) (ts : List CertTerm) (zs : List Term) → list_all (labels_fit h) ts ≡ true → begins_strict h ts ≡ true → zs ≡ [] → HasCoefficients 1 zs (total_coefficients p h ts) → Refutes p h ts
refutes_of p h ts zs l s e k = record {
  labels = l;
  strict = s;
  zero = λ m. Equals-sym _ _ (once_is (whole (pos 0)) (total_coefficients p h ts m) (subst (λ (us : List Term). IsTimes 1 (whole (coef us m)) (total_coefficients p h ts m)) e (k.each m)));
}

-- what the law on the order of polynomials says
abbrev pub OrderLaw : Type 0
OrderLaw = (t : Term) (ts : List Term) (m : Mono) → IsPoly (t ∷ ts) → mono_cmp m t.mono ≡ Less → coef (t ∷ ts) m.powers ≡ pos 0

pub first_left : OrderLaw → (p : Places) (h : LabelAtoms) (ts : List CertTerm) (zs : List Term) (t : Term) → IsPoly zs → HasCoefficients 1 zs (total_coefficients p h ts) → slice_get zs 0 ≡ Some t → t.coef ≢ pos 0 → coef zs t.mono.powers ≡ t.coef →
    IsFirstLeft p h ts t.mono t.coef
first_left law p h ts [] t q k e n c = absurd (cc)
first_left law p h ts (u ∷ us) t q k e n c = record {
  some = n;
  coefficient = Equals-sym _ _ (once_is (whole t.coef) (total_coefficients p h ts t.mono.powers) (subst (λ (z : ℤ). IsTimes 1 (whole z) (total_coefficients p h ts t.mono.powers)) c (k.each t.mono.powers)));
  before = λ m l. Equals-sym _ _ (once_is (whole (pos 0)) (total_coefficients p h ts m.powers) (subst (λ (z : ℤ). IsTimes 1 (whole z) (total_coefficients p h ts m.powers)) (none m (first m l)) (k.each m.powers)));
}
  where
    same : u ≡ t
    same = cc

    first : (m : Mono) → mono_cmp m t.mono ≡ Less → mono_cmp m u.mono ≡ Less
    first m l = ap (λ (v : Term). mono_cmp m v.mono) same ∙ l

    none : (m : Mono) → mono_cmp m u.mono ≡ Less → coef (u ∷ us) m.powers ≡ pos 0
    none m l = law u us m q l
