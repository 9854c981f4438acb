-- From the definition alone: the terms of a certificate have polynomials, which add to zero, so their values add to 0.
use Rattle.std.proofs.Common.{◌≡◌, ℕ, ◌*◌, ◌+◌, ◌-◌, ◌^◌, ◌<◌, ◌≤◌, ◌==◌, Bool, true, false, IsTrue, List, [], ◌∷◌, ◌++◌, map, max, pos, replicate, length, sum_by, ℤ, Option, Some, None, slice_get, option_and_then, refl, sym, ◌∙◌, subst, arith, nat_le, if◌then◌else◌}
use Rattle.std.specs.Prelude.{⊤, sum as sum_of, unsigned_abs}
use Rattle.std.specs.List.{All, list_all}
use Rattle.std.specs.Option.{option_map_or}
use Rattle.std.proofs.Math.Nat.{mul-le-mul, le-max_left}
use Rattle.std.proofs.lemmas.Bool.Decides.{nat_tests}
use Rattle.std.proofs.lemmas.List.Elements.{All-get_or}
use Rattle.std.proofs.lemmas.List.Sums.{sum_by-cons}
use Rattle.std.proofs.lemmas.Option.{get_or_from_slice_get, slice_get_within}
use Rattle.vp_terms.specs.Certificates.{IsCertificate, has_whole_numbers, term_has_whole_numbers}
use Rattle.vp_terms.specs.Meaning.{Assignment, value}
use Rattle.vp_terms.specs.Places.{has_variable, place_count}
use Rattle.vp_terms.specs.Rational.{Rational, whole, Equals, sum, product}
use Rattle.vp_terms.specs.Variables.{all_variables}
use Rattle.vp_terms.specs.WellFormed.{in_certificate, is_good_cert, is_good_expr, is_good_term}
use Rattle.vp_terms.specs.declared.expr.Places.{Places}
use Rattle.vp_terms.specs.declared.expr.Expr.{Expr}
use Rattle.vp_terms.specs.declared.package.Cert.{Cert}
use Rattle.vp_terms.specs.declared.package.CertTerm.{CertTerm}
use Rattle.vp_terms.specs.declared.package.CertTerm.TheVariants.{Pos, Sum, Eq}
use Rattle.vp_terms.proofs.Agreeing.{both}
use Rattle.vp_terms.proofs.RationalLaws.{Equals-refl, Equals-sum, Equals-product, chain}
use Rattle.vp_poly.specs.declared.mono.Term.{Term}
use Rattle.vp_poly.specs.Canonical.{IsCanonical, IsWeighed, own_weight, values_at, variables}
use Rattle.vp_poly.specs.Coefficient.{Coefficients, coefficients, constant, times}
use Rattle.vp_poly.specs.Points.{IsAt}
use Rattle.vp_poly.specs.Poly.{Powers, IsPoly, IsWithin, coef, norm, degree, only_at, unless_zero}
use Rattle.vp_poly.specs.Product.{IsProduct, IsTotal}
use Rattle.vp_poly.specs.Times.{HasCoefficients, IsTimes}
use Rattle.vp_poly.specs.Value.{Point, powers_value, value_at}
use Rattle.vp_poly.specs.Weights.{fits}
use Rattle.vp_logic.specs.declared.norm.Atom.{Atom}
use Rattle.vp_logic.specs.Cases.{case_holds}
use Rattle.vp_cert.specs.Bounds.{expressions_fit, is_within_bounds, size_of_term, size_product}
use Rattle.vp_cert.specs.Certificate.{LabelAtoms, Refutes, Size, TermFactor, coefficient_sum, combined, expression_factor, factor_product, factors, label_factor, labelled, number_factor, polynomial_factor, squared, total_coefficients}
use Rattle.vp_cert.proofs.Adding.{SumLaw, WithinBounds, within_bounds}
use Rattle.vp_cert.proofs.Combining.{combined_grows}
use Rattle.vp_cert.proofs.FactorLaws.{Allowed, model_variables, number_coefficients, number_values, once_is, polynomial_coefficients}
use Rattle.vp_cert.proofs.Products.{ProductLaw}
use Rattle.vp_cert.proofs.Refuted.{product_value, refuted, total_value}
use Rattle.vp_cert.proofs.Signs.{one_right}
use Rattle.vp_cert.proofs.Whole.{den_is_one}

-- what the law on single terms says
pub record SingleLaw : Type 0 where
  pub poly : (t : Term) → length t.mono.powers ≡ 32 → sum_of t.mono.powers ≤ 48 → unsigned_abs t.coef < 2 ^ 126 → IsPoly (unless_zero t)
  pub coefficients : (t : Term) (m : Powers) → coef (unless_zero t) m ≡ only_at t.mono.powers m t.coef
  pub values : (t : Term) (x : Point) → Equals (value_at (unless_zero t) x) (product (whole t.coef) (powers_value 0 t.mono.powers x))
  pub sizes : (t : Term) → IsWithin (unless_zero t) (unsigned_abs t.coef) (sum_of t.mono.powers) 1

-- what the laws of polynomials say
pub record PolyLaws : Type 0 where
  pub allowed : Allowed
  pub single : SingleLaw
  pub some : (p : Places) → place_count p ≤ 32 → (e : Expr) → IsTrue (all_variables (has_variable p) e) → fits (own_weight p e) ≡ true → (ts : List Term) × IsCanonical (own_weight p e).den ts (coefficients (variables p) e)
  pub values : (p : Places) → place_count p ≤ 32 → (e : Expr) → IsTrue (all_variables (has_variable p) e) → fits (own_weight p e) ≡ true → (ts : List Term) → IsCanonical (own_weight p e).den ts (coefficients (variables p) e) →
      (x : Point) (a : Assignment) → IsAt p x a → (0 < (own_weight p e).den) × IsTimes (own_weight p e).den (value_at ts x) (value e a)
  pub weighed : (p : Places) → place_count p ≤ 32 → (e : Expr) → IsTrue (all_variables (has_variable p) e) → fits (own_weight p e) ≡ true → (ts : List Term) → IsCanonical (own_weight p e).den ts (coefficients (variables p) e) →
      IsWeighed ts (own_weight p e)
  pub own : (p : Places) (x : Point) → IsAt p x (values_at p x)
  pub totals : (xs ys : List Term) → IsPoly xs → IsPoly ys → norm xs + norm ys < 2 ^ 126 → length xs + length ys < 2 ^ 32 → (zs : List Term) × IsTotal xs ys zs
  pub multiples : (xs ys : List Term) → IsPoly xs → IsPoly ys → norm xs * norm ys < 2 ^ 126 → length xs * length ys < 2 ^ 32 → degree xs + degree ys ≤ 48 → (zs : List Term) × IsProduct xs ys zs
  pub add : SumLaw
  pub multiply : ProductLaw
  pub unique : (xs ys : List Term) → IsPoly xs → IsPoly ys → ((m : Powers) → coef xs m ≡ coef ys m) → xs ≡ ys

-- ---- the factors

-- a polynomial with these coefficients and values, within this size
record IsMade (f : Coefficients) (v : Point → Rational) (z : Size) (ts : List Term) : Type 0 where
  poly : IsPoly ts
  coefs : HasCoefficients 1 ts f
  values : (x : Point) → Equals (value_at ts x) (v x)
  within : IsWithin ts z.norm z.degree z.terms

-- a factor has a polynomial
record HasPoly (f : TermFactor) : Type 0 where
  terms : List Term
  made : IsMade f.coefficients f.value f.size terms

abbrev EachHasPoly : List TermFactor → Type 0
EachHasPoly [] = ⊤
EachHasPoly (f ∷ fs) = HasPoly f × EachHasPoly fs

EachHasPoly-append : (fs gs : List TermFactor) → EachHasPoly fs → EachHasPoly gs → EachHasPoly (fs ++ gs)
EachHasPoly-append [] gs h k = k
EachHasPoly-append (f ∷ fs) gs h k = (h.0, EachHasPoly-append fs gs h.1 k)

number_term : ℕ → Term
number_term n = record { mono = record { powers = replicate 32 0 }; coef = pos n }

number_made : SingleLaw → (n : ℕ) → n < 2 ^ 126 → HasPoly (number_factor n)
unfolding number_term
number_made law n h = record {
  terms = unless_zero (number_term n);
  made = record {
    poly = law.poly (number_term n) refl (omega arith) h;
    coefs = number_coefficients n (unless_zero (number_term n)) (law.coefficients (number_term n));
    values = λ x. number_values n (unless_zero (number_term n)) x (law.values (number_term n) x);
    within = law.sizes (number_term n);
  };
}

polynomial_made : (ts : List Term) → IsPoly ts → HasPoly (polynomial_factor ts)
polynomial_made ts p = record {
  terms = ts;
  made = record {
    poly = p;
    coefs = polynomial_coefficients ts;
    values = λ x. Equals-refl (value_at ts x);
    within = record { norm_le = omega arith; degree_le = omega arith; length_le = omega arith };
  };
}

expression_made : PolyLaws → (p : Places) → place_count p ≤ 32 → (e : Expr) → IsTrue (has_whole_numbers e) → IsTrue (is_good_expr in_certificate p e) → fits (own_weight p e) ≡ true → HasPoly (expression_factor p e)
expression_made law p few e g h f =
    let v = model_variables law.allowed p e h in
    let s = law.some p few e v f in
    let one = den_is_one p e g in
    record {
      terms = s.0;
      made = record {
        poly = s.1.poly;
        coefs = subst (λ (d : ℕ). HasCoefficients d s.0 (coefficients (variables p) e)) one s.1.coefficients;
        values = λ x. once_is (value_at s.0 x) (value e (values_at p x)) (subst (λ (d : ℕ). IsTimes d (value_at s.0 x) (value e (values_at p x))) one (law.values p few e v f s.0 s.1 x (values_at p x) (law.own p x)).1);
        within = (law.weighed p few e v f s.0 s.1).within;
      };
    }

-- ---- the labels

none_poly : IsPoly []
none_poly = record { ordered = tt; small = omega arith; few = omega arith }

-- the polynomial of each label
abbrev LabelsHavePolys : LabelAtoms → Type 0
LabelsHavePolys h = (l : ℕ) → IsPoly (option_map_or (λ (a : Atom). a.poly) (h l) [])

poly_at : (atoms : List Atom) → All (λ (a : Atom). IsPoly a.poly) atoms → (o : Option ℕ) → IsPoly (option_map_or (λ (a : Atom). a.poly) (option_and_then (slice_get atoms) o) [])
poly_at atoms h None = none_poly
poly_at atoms h (Some k) = by (slice_get atoms k) refl
  where
    by : (o : Option Atom) → slice_get atoms k ≡ o → IsPoly (option_map_or (λ (a : Atom). a.poly) o [])
    by None e = none_poly
    by (Some a) e = subst (λ (b : Atom). IsPoly b.poly) (get_or_from_slice_get atoms k a a e) (All-get_or (λ (b : Atom). IsPoly b.poly) atoms k a (slice_get_within atoms k a e) h)

labels_have_polys : (atoms : List Atom) (places : List ℕ) → All (λ (a : Atom). IsPoly a.poly) atoms → LabelsHavePolys (labelled atoms places)
labels_have_polys atoms places h l = by (l == 0)
  where
    by : (b : Bool) → IsPoly (option_map_or (λ (a : Atom). a.poly) (if b then None else option_and_then (slice_get atoms) (slice_get places (l - 1))) [])
    by true = none_poly
    by false = poly_at atoms h (slice_get places (l - 1))

labels_made : (h : LabelAtoms) → LabelsHavePolys h → (ls : List ℕ) → EachHasPoly (map (label_factor h) ls)
labels_made h g [] = tt
labels_made h g (l ∷ ls) = (polynomial_made (option_map_or (λ (a : Atom). a.poly) (h l) []) (g l), labels_made h g ls)

-- ---- the terms

module _ (law : PolyLaws) (p : Places) (few : place_count p ≤ 32) where
  squares_made : (es : List Expr) → IsTrue (list_all has_whole_numbers es) → IsTrue (list_all (is_good_expr in_certificate p) es) → list_all (λ (e : Expr). fits (own_weight p e)) es ≡ true → EachHasPoly (squared (map (expression_factor p) es))
  squares_made [] g h f = tt
  squares_made (e ∷ es) g h f =
      let a = both (has_whole_numbers e) (list_all has_whole_numbers es) g in
      let b = both (is_good_expr in_certificate p e) (list_all (is_good_expr in_certificate p) es) h in
      let c = both (fits (own_weight p e)) (list_all (λ (e : Expr). fits (own_weight p e)) es) f in
      let one = expression_made law p few e a.0 b.0 c.0 in
      (one, (one, squares_made es a.1 b.1 c.1))

  number_small : (n : ℕ) (zs : List Size) → (combined size_product (size_product (record { norm = n; terms = 1; degree = 0 }) (record { norm = 1; terms = 1; degree = 0 })) zs).norm < 2 ^ 126 → n < 2 ^ 126
  number_small n zs h = let r = combined_grows (size_product (record { norm = n; terms = 1; degree = 0 }) (record { norm = 1; terms = 1; degree = 0 })) zs in omega (arith, r.norm, h, le-max_left n 1)

  factors_made : (h : LabelAtoms) → LabelsHavePolys h → (t : CertTerm) → IsTrue (term_has_whole_numbers t) → IsTrue (is_good_term p t) → expressions_fit p t ≡ true → (size_of_term p h t).norm < 2 ^ 126 → EachHasPoly (factors p h t)
  factors_made h g (Pos n ls) w k f s = (number_made law.single n (number_small n (map (λ (j : TermFactor). j.size) (map (label_factor h) ls)) s), labels_made h g ls)
  factors_made h g (Sum n es ls) w k f s = (
    number_made law.single n (number_small n (map (λ (j : TermFactor). j.size) (squared (map (expression_factor p) es) ++ map (label_factor h) ls)) s),
    EachHasPoly-append (squared (map (expression_factor p) es)) (map (label_factor h) ls) (squares_made es w k f) (labels_made h g ls),
  )
  factors_made h g (Eq l e) w k f s = (polynomial_made (option_map_or (λ (a : Atom). a.poly) (h l) []) (g l), (expression_made law p few e w k f, tt))

  -- the product of the polynomials of these factors with one before them
  products_made : (fs : List TermFactor) → EachHasPoly fs → (f : Coefficients) (v : Point → Rational) (z : Size) (ps : List Term) → IsMade f v z ps →
      (combined size_product z (map (λ (j : TermFactor). j.size) fs)).norm < 2 ^ 126 → (combined size_product z (map (λ (j : TermFactor). j.size) fs)).terms ≤ 65536 → (combined size_product z (map (λ (j : TermFactor). j.size) fs)).degree ≤ 48 →
      (qs : List Term) × IsMade (combined times f (map (λ (j : TermFactor). j.coefficients) fs)) (λ x. combined product (v x) (map (λ (j : TermFactor). j.value x) fs)) (combined size_product z (map (λ (j : TermFactor). j.size) fs)) qs
  products_made [] e f v z ps m a b c = (ps, m)
  products_made (k ∷ fs) e f v z ps m a b c =
      let ts = e.0.terms in
      let i = e.0.made in
      let grows = combined_grows (size_product k.size z) (map (λ (j : TermFactor). j.size) fs) in
      let n : norm ts * norm ps ≤ max k.size.norm 1 * z.norm = mul-le-mul (let r : norm ts ≤ max k.size.norm 1 = omega (arith, i.within.norm_le, le-max_left k.size.norm 1) in r) m.within.norm_le in
      let l : length ts * length ps ≤ max k.size.terms 1 * z.terms = mul-le-mul (let r : length ts ≤ max k.size.terms 1 = omega (arith, i.within.length_le, le-max_left k.size.terms 1) in r) m.within.length_le in
      let small : norm ts * norm ps < 2 ^ 126 = omega (arith, n, grows.norm, a) in
      let short : length ts * length ps < 2 ^ 32 = omega (arith, l, grows.terms, b) in
      let low : degree ts + degree ps ≤ 48 = omega (arith, i.within.degree_le, m.within.degree_le, grows.degree, c) in
      let made = law.multiples ts ps i.poly m.poly small short low in
      let w = made.1 in
      products_made fs e.1 (times k.coefficients f) (λ x. product (k.value x) (v x)) (size_product k.size z) made.0 (record {
        poly = w.poly;
        coefs = law.multiply 1 1 ts ps made.0 k.coefficients f i.coefs m.coefs w.coefficients;
        values = λ x. chain (w.values x) (Equals-product (value_at ts x) (k.value x) (value_at ps x) (v x) (i.values x) (m.values x));
        within = record {
          norm_le = omega (arith, w.sizes.norm_le, n);
          degree_le = omega (arith, w.sizes.degree_le, i.within.degree_le, m.within.degree_le);
          length_le = omega (arith, w.sizes.length_le, l);
        };
      }) a b c

  -- a term has a polynomial
  record TermHasPoly (h : LabelAtoms) (t : CertTerm) : Type 0 where
    terms : List Term
    made : IsMade (factor_product (factors p h t)) (product_value (factors p h t)) (size_of_term p h t) terms

  term_made : (h : LabelAtoms) → LabelsHavePolys h → (t : CertTerm) → IsTrue (term_has_whole_numbers t) → IsTrue (is_good_term p t) → expressions_fit p t ≡ true →
      (size_of_term p h t).norm < 2 ^ 126 → (size_of_term p h t).terms ≤ 65536 → (size_of_term p h t).degree ≤ 48 → TermHasPoly h t
  term_made h g t w k f a b c =
      let one = number_made law.single 1 (omega arith) in
      let r = products_made (factors p h t) (factors_made h g t w k f a) (constant (whole (pos 1))) (λ x. whole (pos 1)) (record { norm = 1; terms = 1; degree = 0 }) one.terms one.made a b c in
      record { terms = r.0; made = r.1 }

  abbrev EachTermHasPoly : LabelAtoms → List CertTerm → Type 0
  EachTermHasPoly h [] = ⊤
  EachTermHasPoly h (t ∷ ts) = TermHasPoly h t × EachTermHasPoly h ts

  low_enough : (d : ℕ) → nat_le d 48 ≡ true → d ≤ 48
  low_enough d h = grind (arith, nat_tests)

  terms_made : (h : LabelAtoms) → LabelsHavePolys h → (ts : List CertTerm) → list_all term_has_whole_numbers ts ≡ true → list_all (is_good_term p) ts ≡ true → list_all (expressions_fit p) ts ≡ true →
      sum_by (λ (t : CertTerm). (size_of_term p h t).norm) ts < 2 ^ 126 → sum_by (λ (t : CertTerm). (size_of_term p h t).terms) ts ≤ 65536 → list_all (λ (t : CertTerm). nat_le (size_of_term p h t).degree 48) ts ≡ true → EachTermHasPoly h ts
  terms_made h g [] w k f a b c = tt
  terms_made h g (t ∷ ts) w k f a b c =
      let w' = both (term_has_whole_numbers t) (list_all term_has_whole_numbers ts) w in
      let k' = both (is_good_term p t) (list_all (is_good_term p) ts) k in
      let f' = both (expressions_fit p t) (list_all (expressions_fit p) ts) f in
      let c' = both (nat_le (size_of_term p h t).degree 48) (list_all (λ (t : CertTerm). nat_le (size_of_term p h t).degree 48) ts) c in
      let n = sum_by-cons (λ (t : CertTerm). (size_of_term p h t).norm) t ts in
      let l = sum_by-cons (λ (t : CertTerm). (size_of_term p h t).terms) t ts in
      let a0 : (size_of_term p h t).norm < 2 ^ 126 = omega (arith, a, n) in
      let a1 : sum_by (λ (t : CertTerm). (size_of_term p h t).norm) ts < 2 ^ 126 = omega (arith, a, n) in
      let b0 : (size_of_term p h t).terms ≤ 65536 = omega (arith, b, l) in
      let b1 : sum_by (λ (t : CertTerm). (size_of_term p h t).terms) ts ≤ 65536 = omega (arith, b, l) in
      (term_made h g t w'.0 k'.0 f'.0 a0 b0 (low_enough (size_of_term p h t).degree c'.0), terms_made h g ts w'.1 k'.1 f'.1 a1 b1 c'.1)

  -- ---- the sum

  -- a polynomial with these coefficients and values
  record IsKnown (f : Coefficients) (v : Point → Rational) (ts : List Term) : Type 0 where
    poly : IsPoly ts
    coefs : HasCoefficients 1 ts f
    values : (x : Point) → Equals (value_at ts x) (v x)

  -- the sum of the polynomials of these terms and one before them
  sums_made : (h : LabelAtoms) (ts : List CertTerm) → EachTermHasPoly h ts → (f : Coefficients) (v : Point → Rational) (n k : ℕ) (zs : List Term) → IsKnown f v zs → norm zs ≤ n → length zs ≤ k →
      n + sum_by (λ (t : CertTerm). (size_of_term p h t).norm) ts < 2 ^ 126 → k + sum_by (λ (t : CertTerm). (size_of_term p h t).terms) ts ≤ 65536 →
      (ws : List Term) × IsKnown (combined coefficient_sum f (map (λ (t : CertTerm). factor_product (factors p h t)) ts)) (λ x. combined sum (v x) (map (λ (t : CertTerm). product_value (factors p h t) x) ts)) ws
  sums_made h [] e f v n k zs m c d a b = (zs, m)
  sums_made h (t ∷ ts) e f v n k zs m c d a b =
      let qs = e.0.terms in
      let i = e.0.made in
      let norms = sum_by-cons (λ (t : CertTerm). (size_of_term p h t).norm) t ts in
      let counts = sum_by-cons (λ (t : CertTerm). (size_of_term p h t).terms) t ts in
      let small : norm qs + norm zs < 2 ^ 126 = omega (arith, i.within.norm_le, c, a, norms) in
      let short : length qs + length zs < 2 ^ 32 = omega (arith, i.within.length_le, d, b, counts) in
      let made = law.totals qs zs i.poly m.poly small short in
      let w = made.1 in
      let c' : norm made.0 ≤ (size_of_term p h t).norm + n = omega (arith, w.sizes.norm_le, i.within.norm_le, c) in
      let d' : length made.0 ≤ (size_of_term p h t).terms + k = omega (arith, w.sizes.length_le, i.within.length_le, d) in
      let a' : (size_of_term p h t).norm + n + sum_by (λ (t : CertTerm). (size_of_term p h t).norm) ts < 2 ^ 126 = omega (arith, a, norms) in
      let b' : (size_of_term p h t).terms + k + sum_by (λ (t : CertTerm). (size_of_term p h t).terms) ts ≤ 65536 = omega (arith, b, counts) in
      sums_made h ts e.1 (coefficient_sum (factor_product (factors p h t)) f) (λ x. sum (product_value (factors p h t) x) (v x)) ((size_of_term p h t).norm + n) ((size_of_term p h t).terms + k) made.0 (record {
        poly = w.poly;
        coefs = law.add 1 qs zs made.0 (factor_product (factors p h t)) f i.coefs m.coefs w.coefficients;
        values = λ x. chain (w.values x) (Equals-sum (value_at qs x) (product_value (factors p h t) x) (value_at zs x) (v x) (i.values x) (m.values x));
      }) c' d' a' b'

  none_known : IsKnown (λ m. whole (pos 0)) (λ x. whole (pos 0)) []
  none_known = record { poly = none_poly; coefs = polynomial_coefficients []; values = λ x. Equals-refl (whole (pos 0)) }

  nothing : (z : ℤ) → Equals (whole z) (whole (pos 0)) → z ≡ pos 0
  nothing z e = sym (one_right z) ∙ e.crossed

  -- the values of the terms of a certificate that refutes a case add to 0
  zero_total : (h : LabelAtoms) → LabelsHavePolys h → (ts : List CertTerm) → list_all term_has_whole_numbers ts ≡ true → list_all (is_good_term p) ts ≡ true → Refutes p h ts → is_within_bounds p h ts ≡ true → (x : Point) → Equals (whole (pos 0)) (total_value p h ts x)
  zero_total h g ts w k r b x =
      let s : WithinBounds p h ts = within_bounds p h ts b in
      let norms : 0 + sum_by (λ (t : CertTerm). (size_of_term p h t).norm) ts < 2 ^ 126 = omega (arith, s.norms) in
      let counts : 0 + sum_by (λ (t : CertTerm). (size_of_term p h t).terms) ts ≤ 65536 = omega (arith, s.counts) in
      let made = sums_made h ts (terms_made h g ts w k s.fit s.norms s.counts s.low) (λ m. whole (pos 0)) (λ x. whole (pos 0)) 0 0 [] none_known (omega arith) (omega arith) norms counts in
      let zs = made.0 in
      let m = made.1 in
      let none : zs ≡ [] = law.unique zs [] m.poly none_poly (λ n. nothing (coef zs n) (chain (once_is (whole (coef zs n)) (total_coefficients p h ts n) (m.coefs.each n)) (r.zero n))) in
      subst (λ (l : List Term). Equals (value_at l x) (total_value p h ts x)) none (m.values x)

  pub never_holds : (atoms : List Atom) → All (λ (a : Atom). IsPoly a.poly) atoms → (places : List ℕ) (c : Cert) → IsCertificate c → IsTrue (is_good_cert p c) → Refutes p (labelled atoms places) c.terms →
      is_within_bounds p (labelled atoms places) c.terms ≡ true → (x : Point) → case_holds atoms x places ≡ false
  never_holds atoms h places c i g r b x =
      refuted p atoms places c.terms x i.begins r.labels r.strict (zero_total (labelled atoms places) (labels_have_polys atoms places h) c.terms i.whole g r b x)
