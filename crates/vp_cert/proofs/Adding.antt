-- The sum of the terms of a certificate, one after the other.
use Rattle.std.proofs.Common.{◌≡◌, ℕ, ◌+◌, ◌^◌, ◌<◌, ◌≤◌, ◌&&◌, Bool, true, false, List, [], ◌∷◌, ◌++◌, map, max, min, pos, length, take, drop, get_or, sum_by, nat_lt, nat_le, refl, sym, ap, ◌∙◌, subst, arith, ◌+ℤ◌}
use Rattle.std.specs.List.{list_all}
use Rattle.std.proofs.lemmas.List.Folds.{list_all-append, list_all_at}
use Rattle.std.proofs.lemmas.List.{take_more, take-append-drop}
use Rattle.std.proofs.lemmas.List.Sums.{sum_by-append, sum_by-cons}
use Rattle.std.proofs.lemmas.Bool.Decides.{nat_tests}
use Rattle.vp_terms.specs.Rational.{whole, sum}
use Rattle.vp_terms.specs.declared.expr.Places.{Places}
use Rattle.vp_terms.specs.declared.package.CertTerm.{CertTerm}
use Rattle.vp_poly.specs.declared.mono.Term.{Term}
use Rattle.vp_poly.specs.Poly.{Powers, IsPoly, IsWithin, coef, norm, degree}
use Rattle.vp_poly.specs.Coefficient.{Coefficients}
use Rattle.vp_poly.specs.Times.{HasCoefficients}
use Rattle.vp_poly.specs.declared.scaled.Scaled.{Scaled}
use Rattle.vp_cert.specs.Bounds.{product_size, expressions_fit, size_of_term, is_within_bounds}
use Rattle.vp_cert.specs.Capped.{greatest, scaled_size}
use Rattle.vp_cert.specs.Certificate.{LabelAtoms, Size, factors, coefficient_sum, factor_product, total_coefficients}
use Rattle.vp_cert.specs.Factors.{AreTermFactors}
use Rattle.vp_cert.specs.Sums.{IsPartialSum, norm_total, count_total}
use Rattle.vp_cert.proofs.Combining.{combined-more, sizes_are}
use Rattle.vp_cert.proofs.FactorLaws.{times_once}

-- what the law on coefficients says of sums
abbrev pub SumLaw : Type 0
SumLaw = (d : ℕ) (xs ys zs : List Term) (f g : Coefficients) → HasCoefficients d xs f → HasCoefficients d ys g → ((m : Powers) → coef zs m ≡ coef xs m +ℤ coef ys m) → HasCoefficients d zs (λ m. sum (f m) (g m))

pub IsPartialSum-none : (p : Places) (h : LabelAtoms) (zs : List Term) → zs ≡ [] → IsPartialSum p h [] 0 0 zs
IsPartialSum-none p h zs e = rw e (record {
  poly = record { ordered = tt; small = omega arith; few = omega arith };
  coefficients = record { each = λ m. times_once (whole (pos 0)) };
  norms_are = refl;
  counts_are = refl;
  fit = refl;
  low = refl;
  small = omega arith;
  few = omega arith;
  norm_within = omega arith;
  length_within = omega arith;
})

last_true : {X : Type 0} (f : X → Bool) (ts : List X) (t : X) → list_all f ts ≡ true → f t ≡ true → list_all f (ts ++ t ∷ []) ≡ true
last_true f ts t h k = list_all-append f ts (t ∷ []) ∙ rw (h, k) refl

-- the product ps of a term's factors, added to the sum so far
pub record Adds (p : Places) (h : LabelAtoms) (t : CertTerm) (n k n' k' : ℕ) (ps zs ws : List Term) : Type 0 where
  pub product_coefficients : HasCoefficients 1 ps (factor_product (factors p h t))
  pub product_within : IsWithin ps (size_of_term p h t).norm (size_of_term p h t).degree (size_of_term p h t).terms
  pub coefficients : (m : Powers) → coef ws m ≡ coef ps m +ℤ coef zs m
  pub poly : IsPoly ws
  pub within : IsWithin ws (norm ps + norm zs) (max (degree ps) (degree zs)) (length ps + length zs)
  pub fits : expressions_fit p t ≡ true
  pub low : nat_le (size_of_term p h t).degree 48 ≡ true
  pub norms_are : n' ≡ n + (size_of_term p h t).norm
  pub counts_are : k' ≡ k + (size_of_term p h t).terms
  pub small : n' < 2 ^ 126
  pub few : k' ≤ 65536

IsPartialSum-more : SumLaw → (p : Places) (h : LabelAtoms) (ts : List CertTerm) (t : CertTerm) (n k n' k' : ℕ) (ps zs ws : List Term) → IsPartialSum p h ts n k zs → Adds p h t n k n' k' ps zs ws → IsPartialSum p h (ts ++ t ∷ []) n' k' ws
IsPartialSum-more law p h ts t n k n' k' ps zs ws s a = record {
  poly = a.poly;
  coefficients = rw (combined-more coefficient_sum (λ m. whole (pos 0)) (λ (u : CertTerm). factor_product (factors p h u)) ts t) (law 1 ps zs ws (factor_product (factors p h t)) (total_coefficients p h ts) a.product_coefficients s.coefficients a.coefficients);
  norms_are = let e = sum_by-append (λ (u : CertTerm). (size_of_term p h u).norm) ts (t ∷ []) in omega (arith, a.norms_are, s.norms_are);
  counts_are = let e = sum_by-append (λ (u : CertTerm). (size_of_term p h u).terms) ts (t ∷ []) in omega (arith, a.counts_are, s.counts_are);
  fit = last_true (expressions_fit p) ts t s.fit a.fits;
  low = last_true (λ (u : CertTerm). nat_le (size_of_term p h u).degree 48) ts t s.low a.low;
  small = a.small;
  few = a.few;
  norm_within = omega (arith, a.within.norm_le, a.product_within.norm_le, s.norm_within, a.norms_are);
  length_within = omega (arith, a.within.length_le, a.product_within.length_le, s.length_within, a.counts_are);
}

pub IsPartialSum-within : (p : Places) (h : LabelAtoms) (ts : List CertTerm) (n k : ℕ) (zs : List Term) → IsPartialSum p h ts n k zs → is_within_bounds p h ts ≡ true
IsPartialSum-within p h ts n k zs s = tests _ _ _ _ s.fit s.low (omega (arith, s.norms_are, s.small)) (omega (arith, s.counts_are, s.few))
  where
    tests : (a d : Bool) (m l : ℕ) → a ≡ true → d ≡ true → m < 2 ^ 126 → l ≤ 65536 → (a && nat_lt m (2 ^ 126) && nat_le l 65536 && d) ≡ true
    tests a d m l f g i j = rw (f, g) (both (nat_lt m (2 ^ 126)) (nat_le l 65536) (grind (arith, nat_tests)) (grind (arith, nat_tests)))
      where
        both : (b c : Bool) → b ≡ true → c ≡ true → (true && b && c && true) ≡ true
        both b c f g = rw (f, g) refl

-- ---- as the loop goes

all_at : {X : Type 0} (f : X → Bool) (ts : List X) (i : ℕ) (t : X) → i < length ts → list_all f ts ≡ true → f (get_or ts i t) ≡ true
all_at f ts i t l h = by (f (get_or ts i t)) refl
  where
    by : (b : Bool) → f (get_or ts i t) ≡ b → f (get_or ts i t) ≡ true
    by true e = e
    by false e = absurd (let g = list_all_at f ts i t l e in let q : true ≡ false = sym h ∙ g in cc)

pub IsPartialSum-next : SumLaw → (p : Places) (h : LabelAtoms) (ts : List CertTerm) (i : ℕ) (t : CertTerm) (n k n' k' : ℕ) (ps zs ws : List Term) → i < length ts → t ≡ get_or ts i t →
    IsPartialSum p h (take i ts) n k zs → Adds p h t n k n' k' ps zs ws → IsPartialSum p h (take (i + 1) ts) n' k' ws
IsPartialSum-next law p h ts i t n k n' k' ps zs ws l e s a =
    subst (λ (us : List CertTerm). IsPartialSum p h us n' k' ws) (sym (take_more ts i t l ∙ ap (λ (u : CertTerm). take i ts ++ u ∷ []) (sym e))) (IsPartialSum-more law p h (take i ts) t n k n' k' ps zs ws s a)

-- a part of a sum is at most the whole
part_of : {X : Type 0} (f : X → ℕ) (ts : List X) (i : ℕ) (t : X) → i < length ts → t ≡ get_or ts i t → sum_by f (take i ts) + f t ≤ sum_by f ts
part_of f ts i t l e =
    let one : sum_by f (take (i + 1) ts) ≡ sum_by f (take i ts) + sum_by f (t ∷ []) = ap (sum_by f) (take_more ts i t l ∙ ap (λ u. take i ts ++ u ∷ []) (sym e)) ∙ sum_by-append f (take i ts) (t ∷ []) in
    let all : sum_by f ts ≡ sum_by f (take (i + 1) ts) + sum_by f (drop (i + 1) ts) = ap (sum_by f) (sym (take-append-drop (i + 1) ts)) ∙ sum_by-append f (take (i + 1) ts) (drop (i + 1) ts) in
    let last = sum_by-cons f t [] in
    omega (arith, one, all, last)

four : (a b c d : Bool) → (a && b && c && d) ≡ true → (b ≡ true) × (c ≡ true) × (d ≡ true)
four true true true true h = (refl, refl, refl)
four true true true false h = absurd (cc)
four true true false d h = absurd (cc)
four true false c d h = absurd (cc)
four false b c d h = absurd (cc)

first_of : (a b c d : Bool) → (a && b && c && d) ≡ true → a ≡ true
first_of true b c d h = refl
first_of false b c d h = absurd (cc)

below_test : (a b : ℕ) → nat_lt a b ≡ true → a < b
below_test a b h = grind (arith, nat_tests)

most_test : (a b : ℕ) → nat_le a b ≡ true → a ≤ b
most_test a b h = grind (arith, nat_tests)

small_tests : (n k d : ℕ) → n < 2 ^ 126 → k ≤ 65536 → d ≤ 48 → (nat_lt n (2 ^ 126) && nat_le k 65536 && nat_le d 48) ≡ true
small_tests n k d f g h =
    let a : nat_lt n (2 ^ 126) ≡ true = grind (arith, nat_tests) in
    let b : nat_le k 65536 ≡ true = grind (arith, nat_tests) in
    let c : nat_le d 48 ≡ true = grind (arith, nat_tests) in
    rw (a, b, c) refl

pub small_parts : (n k d : ℕ) → (nat_lt n (2 ^ 126) && nat_le k 65536 && nat_le d 48) ≡ true → (n < 2 ^ 126) × (k ≤ 65536) × (d ≤ 48)
small_parts n k d h =
    let s = four true (nat_lt n (2 ^ 126)) (nat_le k 65536) (nat_le d 48) h in
    (below_test n (2 ^ 126) s.0, most_test k 65536 s.1, most_test d 48 s.2)

-- the next term passes a bound: so do all terms
pub not_within : (p : Places) (h : LabelAtoms) (ts : List CertTerm) (i : ℕ) (t : CertTerm) (n k n' k' d : ℕ) (zs : List Term) → i < length ts → t ≡ get_or ts i t → IsPartialSum p h (take i ts) n k zs →
    n' ≡ min (n + min (size_of_term p h t).norm greatest) greatest → k' ≡ min (k + min (size_of_term p h t).terms greatest) greatest → d ≡ min (size_of_term p h t).degree greatest →
    (nat_lt n' (2 ^ 126) && nat_le k' 65536 && nat_le d 48) ≡ false → is_within_bounds p h ts ≡ false
not_within p h ts i t n k n' k' d zs l e s f g j wide = by (is_within_bounds p h ts) refl
  where
    fits : is_within_bounds p h ts ≡ true → (nat_lt n' (2 ^ 126) && nat_le k' 65536 && nat_le d 48) ≡ true
    fits y =
        let q = four (list_all (expressions_fit p) ts) (nat_lt (norm_total p h ts) (2 ^ 126)) (nat_le (count_total p h ts) 65536) (list_all (λ u. nat_le (size_of_term p h u).degree 48) ts) y in
        let a = part_of (λ u. (size_of_term p h u).norm) ts i t l e in
        let b = part_of (λ u. (size_of_term p h u).terms) ts i t l e in
        let m = below_test (norm_total p h ts) (2 ^ 126) q.0 in
        let r = most_test (count_total p h ts) 65536 q.1 in
        let w : nat_le (size_of_term p h t).degree 48 ≡ true = subst (λ (u : CertTerm). nat_le (size_of_term p h u).degree 48 ≡ true) (sym e) (all_at (λ u. nat_le (size_of_term p h u).degree 48) ts i t l q.2) in
        let v = most_test (size_of_term p h t).degree 48 w in
        small_tests n' k' d (omega (arith, f, s.norms_are, a, m)) (omega (arith, g, s.counts_are, b, r)) (omega (arith, j, v))

    by : (b : Bool) → is_within_bounds p h ts ≡ b → is_within_bounds p h ts ≡ false
    by false y = y
    by true y = absurd (let z = fits y in let q : true ≡ false = sym z ∙ wide in cc)

-- an expression of the next term is over
pub not_fitting : (p : Places) (h : LabelAtoms) (ts : List CertTerm) (i : ℕ) (t : CertTerm) → i < length ts → t ≡ get_or ts i t → expressions_fit p t ≡ false → is_within_bounds p h ts ≡ false
not_fitting p h ts i t l e f =
    let g = list_all_at (expressions_fit p) ts i t l (ap (expressions_fit p) (sym e) ∙ f) in
    rw g refl

pub size_is : (p : Places) (h : LabelAtoms) (t : CertTerm) (ss us : List Scaled) → us ≡ ss → AreTermFactors (factors p h t) ss → product_size (map scaled_size us) ≡ size_of_term p h t
size_is p h t ss us e f = ap (λ (l : List Scaled). product_size (map scaled_size l)) e ∙ ap product_size (sizes_are (factors p h t) ss f)

-- the next term passes no bound
pub record Keeps (n k n' k' : ℕ) (z : Size) : Type 0 where
  pub low : nat_le z.degree 48 ≡ true
  pub norms_are : n' ≡ n + z.norm
  pub counts_are : k' ≡ k + z.terms
  pub small : n' < 2 ^ 126
  pub few : k' ≤ 65536

pub keeps : (n k n' k' d : ℕ) (z : Size) → n' ≡ min (n + min z.norm greatest) greatest → k' ≡ min (k + min z.terms greatest) greatest → d ≡ min z.degree greatest →
    (nat_lt n' (2 ^ 126) && nat_le k' 65536 && nat_le d 48) ≡ true → Keeps n k n' k' z
keeps n k n' k' d z f g h e =
    let s = small_parts n' k' d e in
    let a = s.0 in
    let b = s.1 in
    let w = s.2 in
    let v : z.degree ≤ 48 = omega (arith, h, w) in
    record { low = at_most z.degree v; norms_are = omega (arith, f, a); counts_are = omega (arith, g, b); small = a; few = b }
  where
    at_most : (x : ℕ) → x ≤ 48 → nat_le x 48 ≡ true
    at_most x v = grind (arith, nat_tests)

-- no bound is passed
pub record WithinBounds (p : Places) (h : LabelAtoms) (ts : List CertTerm) : Type 0 where
  pub fit : list_all (expressions_fit p) ts ≡ true
  pub norms : sum_by (λ (t : CertTerm). (size_of_term p h t).norm) ts < 2 ^ 126
  pub counts : sum_by (λ (t : CertTerm). (size_of_term p h t).terms) ts ≤ 65536
  pub low : list_all (λ (t : CertTerm). nat_le (size_of_term p h t).degree 48) ts ≡ true

pub within_bounds : (p : Places) (h : LabelAtoms) (ts : List CertTerm) → is_within_bounds p h ts ≡ true → WithinBounds p h ts
within_bounds p h ts b =
    let s = four (list_all (expressions_fit p) ts) (nat_lt (norm_total p h ts) (2 ^ 126)) (nat_le (count_total p h ts) 65536) (list_all (λ u. nat_le (size_of_term p h u).degree 48) ts) b in
    record {
      fit = first_of (list_all (expressions_fit p) ts) (nat_lt (norm_total p h ts) (2 ^ 126)) (nat_le (count_total p h ts) 65536) (list_all (λ u. nat_le (size_of_term p h u).degree 48) ts) b;
      norms = below_test (norm_total p h ts) (2 ^ 126) s.0;
      counts = most_test (count_total p h ts) 65536 s.1;
      low = s.2;
    }
