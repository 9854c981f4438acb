-- What numbers stand on.
use Rattle.std.proofs.Common.{◌≡◌, ℕ, zero, suc, ◌<◌, ◌^◌, Bool, true, false, List, [], ◌∷◌, replicate, refl, sym, ap, ◌∙◌, subst, arith, ℤ, pos, unsigned_abs, if◌then◌else◌, ◌&&◌, nat_lt}
use Rattle.std.specs.Ordering.{int_eq}
use Rattle.vp_terms.specs.Rational.{Rational, whole, Equals}
use Rattle.vp_terms.proofs.RationalLaws.{chain, Equals-refl, Equals-sym, Equals-product}
use Rattle.vp_poly.proofs.ProductValues.{product-one, product-comm}
use Rattle.vp_poly.specs.Value.{Point, powers_value, value_at}
use Rattle.vp_poly.specs.declared.mono.Term.{Term}
use Rattle.vp_poly.specs.Poly.{coef, IsWithin, unless_zero}
use Rattle.vp_poly.proofs.PolyLaws.{norm-cons}
use Rattle.vp_poly.proofs.Singles.{coef-unless_zero, value_at-unless_zero}
use Rattle.vp_poly.specs.Coefficient.{constant}
use Rattle.vp_poly.specs.Times.{IsTimes, HasCoefficients}
use Rattle.vp_poly.specs.Weights.{Weights, fits, weight_number}
use Rattle.vp_poly.specs.Canonical.{IsWeighed}
use Rattle.vp_poly.proofs.TimesLaws.{IsTimes-fraction, IsTimes-only_at, IsTimes-same}
use Rattle.std.proofs.lemmas.Bool.Decides.{nat_tests}

abbrev number_term : ℤ → Term
number_term n = record { mono = record { powers = replicate 32 0 }; coef = n }

pub HasCoefficients-number : (n d : ℤ) (ts : List Term) (q : Rational) → ts ≡ unless_zero (record { mono = record { powers = replicate 32 0 }; coef = n }) → q.num ≡ n → q.den ≡ unsigned_abs d → HasCoefficients (unsigned_abs d) ts (constant q)
HasCoefficients-number n d ts q e f g = record {
  each = λ m.
      subst (λ (z : ℤ). IsTimes (unsigned_abs d) (whole z) (constant q m)) (sym (ap (λ (l : List Term). coef l m) e ∙ coef-unless_zero (number_term n) m))
      (IsTimes-only_at (unsigned_abs d) (replicate 32 0) m n q (subst (λ (z : ℤ). IsTimes (unsigned_abs d) (whole z) q) f (IsTimes-fraction (unsigned_abs d) q g)));
}

IsWithin-number : (n : ℤ) → IsWithin (unless_zero (number_term n)) (unsigned_abs n) 0 (if int_eq n (pos 0) then 0 else 1)
IsWithin-number n = case (int_eq n (pos 0))
  where
    case : (b : Bool) → IsWithin (if b then [] else number_term n ∷ []) (unsigned_abs n) 0 (if b then 0 else 1)
    case true = record { norm_le = omega arith; degree_le = omega arith; length_le = omega arith }
    case false = record { norm_le = omega (arith, norm-cons (number_term n) []); degree_le = omega arith; length_le = omega arith }

lt_true : (a b : ℕ) → a < b → nat_lt a b ≡ true
lt_true a b h = grind (arith, nat_tests)

pub fits-number : (n d : ℤ) → unsigned_abs n < 2 ^ 62 → unsigned_abs d < 2 ^ 62 → fits (weight_number n d) ≡ true
fits-number n d h k = case (int_eq n (pos 0))
  where
    case : (b : Bool) → (nat_lt (unsigned_abs n) (2 ^ 62) && nat_lt (unsigned_abs d) (2 ^ 62) && true && nat_lt (if b then 0 else 1) 4097) ≡ true
    case true = rw (lt_true _ _ h, lt_true _ _ k) refl
    case false = rw (lt_true _ _ h, lt_true _ _ k) refl

pub IsWeighed-number : (n d : ℤ) (ts : List Term) → ts ≡ unless_zero (record { mono = record { powers = replicate 32 0 }; coef = n }) → unsigned_abs n < 2 ^ 62 → unsigned_abs d < 2 ^ 62 → IsWeighed ts (weight_number n d)
IsWeighed-number n d ts e h k =
    let w = IsWithin-number n in
    record { fits = fits-number n d h k; within = rw e (record { norm_le = omega (arith, w.norm_le); degree_le = w.degree_le; length_le = w.length_le }) }

pub number-small : (n : ℤ) → unsigned_abs n < 2 ^ 62 → unsigned_abs n < 2 ^ 126
number-small n h = omega arith

pub ruleset numbers = (HasCoefficients-number, IsWeighed-number, number-small)

pub number-coefficients : (n d : ℤ) (ts : List Term) (t : Term) (w : Weights) (q : Rational) → w ≡ weight_number n d → ts ≡ unless_zero t → t ≡ record { mono = record { powers = replicate 32 0 }; coef = n } → q.num ≡ n → q.den ≡ unsigned_abs d → HasCoefficients w.den ts (constant q)
number-coefficients n d ts t w q e f g h i =
    subst (λ (u : Weights). HasCoefficients u.den ts (constant q)) (sym e) (HasCoefficients-number n d ts q (f ∙ ap unless_zero g) h i)

pub powers_value-none : (n k : ℕ) (a : Point) → Equals (powers_value k (replicate n 0) a) (whole (pos 1))
powers_value-none zero k a = Equals-refl (whole (pos 1))
powers_value-none (suc n) k a =
    chain (Equals-product _ _ _ _ (Equals-refl (whole (pos 1))) (powers_value-none n (suc k) a)) (Equals-sym _ _ (product-one (whole (pos 1))))

pub number-values : (n d : ℤ) (ts : List Term) (t : Term) (w : Weights) (q : Rational) (a : Point) → w ≡ weight_number n d → ts ≡ unless_zero t → t ≡ record { mono = record { powers = replicate 32 0 }; coef = n } → q.num ≡ n → q.den ≡ unsigned_abs d → IsTimes w.den (value_at ts a) q
number-values n d ts t w q a e f g h i =
    let one = powers_value-none 32 0 a in
    let plain : Equals (value_at (unless_zero (number_term n)) a) (whole n) =
    chain (value_at-unless_zero (number_term n) a)
    (chain (Equals-product _ _ _ _ (Equals-refl (whole n)) one) (chain (product-comm (whole n) (whole (pos 1))) (Equals-sym _ _ (product-one (whole n))))) in
    let times : IsTimes (unsigned_abs d) (whole n) q = subst (λ (z : ℤ). IsTimes (unsigned_abs d) (whole z) q) h (IsTimes-fraction (unsigned_abs d) q i) in
    let all = IsTimes-same (unsigned_abs d) (value_at (unless_zero (number_term n)) a) (whole n) q plain times in
    subst (λ (u : Weights). IsTimes u.den (value_at ts a) q) (sym e) (subst (λ (l : List Term). IsTimes (unsigned_abs d) (value_at l a) q) (sym (f ∙ ap unless_zero g)) all)
