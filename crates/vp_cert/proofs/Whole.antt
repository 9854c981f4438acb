-- Expressions of whole numbers have the denominator 1.
use Rattle.std.proofs.Common.{◌≡◌, ℕ, zero, suc, ◌^◌, true, IsTrue, List, [], ◌∷◌, map, refl, ap, arith, pos, ℤ, min, slice_get, unwrap_or, unsigned_abs}
use Rattle.std.proofs.Math.Nat.{pow-suc}
use Rattle.std.proofs.lemmas.Int.{ints}
use Rattle.std.specs.List.{range_with_len}
use Rattle.std.specs.Ordering.{int_eq}
use Rattle.vp_terms.specs.Certificates.{has_whole_numbers}
use Rattle.vp_terms.specs.Places.{place, place_count}
use Rattle.vp_terms.specs.declared.expr.Places.{Places}
use Rattle.vp_terms.specs.declared.expr.Expr.{Expr}
use Rattle.vp_terms.specs.declared.expr.Expr.TheVariants.{Num, Var as Variable, Add', Sub', Mul', Pow'}
use Rattle.vp_terms.proofs.Agreeing.{both}
use Rattle.vp_poly.specs.Canonical.{itself, own_weight, weights_of}
use Rattle.vp_poly.specs.Lcm.{gcd, lcm}
use Rattle.vp_poly.specs.Weights.{weight_zero, most}

lcm_one : lcm 1 1 ≡ 1
unfolding gcd
lcm_one = refl

ones : (n : ℕ) → 1 ^ n ≡ 1
ones zero = refl
ones (suc n) = omega (arith, pow-suc 1 n, ones n)

power_one : (n : ℕ) → min (1 ^ n) most ≡ 1
power_one n = ap (λ k. min k most) (ones n)

den_there : (ks : List ℕ) (i : ℕ) → (unwrap_or (slice_get (weights_of (map itself ks)) i) weight_zero).den ≡ 1
den_there [] i = refl
den_there (k ∷ ks) zero = refl
den_there (k ∷ ks) (suc i) = den_there ks i

same_one : (z : ℤ) → int_eq z (pos 1) ≡ true → z ≡ pos 1
same_one z h = grind (arith, ints)

pub den_is_one : (p : Places) (e : Expr) → IsTrue (has_whole_numbers e) → (own_weight p e).den ≡ 1
den_is_one p (Num r) h = ap unsigned_abs (same_one r.den h)
den_is_one p (Variable v) h = den_there (range_with_len 0 (place_count p)) (place p v)
den_is_one p (Add' l e r f) h = let s = both _ _ h in rw (den_is_one p e s.0, den_is_one p f s.1, lcm_one) refl
den_is_one p (Sub' l e r f) h = let s = both _ _ h in rw (den_is_one p e s.0, den_is_one p f s.1, lcm_one) refl
den_is_one p (Mul' l e r f) h = let s = both _ _ h in rw (den_is_one p e s.0, den_is_one p f s.1) refl
den_is_one p (Pow' l e n) h = rw (den_is_one p e h) (power_one n)
