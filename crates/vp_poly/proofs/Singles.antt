-- Polynomials of one term.
use Rattle.std.proofs.Common.{◌≡◌, ◌≢◌, ◌<◌, ◌≤◌, ◌^◌, Bool, true, false, [], ◌∷◌, length, sum, refl, sym, ap, ◌∙◌, arith, ℤ, pos, unsigned_abs, if◌then◌else◌}
use Rattle.std.specs.Ordering.{int_eq}
use Rattle.std.proofs.lemmas.Int.{ints}
use Rattle.vp_poly.specs.declared.mono.Term.{Term}
use Rattle.vp_poly.specs.Poly.{Powers, only_at, coef, IsPoly, IsWithin, unless_zero}
use Rattle.vp_poly.specs.Value.{Point, powers_value, value_at}
use Rattle.vp_terms.specs.Rational.{whole, Equals}
use Rattle.vp_terms.proofs.RationalLaws.{Equals-sym, sum-zero, chain, sum-no_product}
use Rattle.vp_poly.proofs.PolyLaws.{norm-cons}
use Rattle.vp_poly.proofs.MergeLaws.{only_at-zero, int_eq_same}
use Rattle.vp_poly.proofs.ValueLaws.{term_value}
use Rattle.vp_poly.proofs.BelowLaws.{AreBelow-unless_zero, HaveOnly-unless_zero}

other : (a b : ℤ) → int_eq a b ≡ false → a ≢ b
other a b e = grind (arith, ints)

pub coef-unless_zero : (t : Term) (m : Powers) → coef (unless_zero t) m ≡ only_at t.mono.powers m t.coef
coef-unless_zero t m = case (int_eq t.coef (pos 0)) refl
  where
    case : (v : Bool) → int_eq t.coef (pos 0) ≡ v → coef (if v then [] else t ∷ []) m ≡ only_at t.mono.powers m t.coef
    case true e = let z : t.coef ≡ pos 0 = int_eq_same _ _ e in sym (ap (only_at t.mono.powers m) z ∙ only_at-zero t.mono.powers m)
    case false e = omega (arith, ints)

pub value_at-unless_zero : (t : Term) (a : Point) → Equals (value_at (unless_zero t) a) (term_value t a)
value_at-unless_zero t a = case (int_eq t.coef (pos 0)) refl
  where
    case : (v : Bool) → int_eq t.coef (pos 0) ≡ v → Equals (value_at (if v then [] else t ∷ []) a) (term_value t a)
    case true e = chain (sum-no_product t.coef (powers_value 0 t.mono.powers a) (whole (pos 0)) (int_eq_same _ _ e)) (Equals-sym _ _ (sum-zero (term_value t a)))
    case false e = Equals-sym _ _ (sum-zero (term_value t a))

pub IsPoly-unless_zero : (t : Term) → length t.mono.powers ≡ 32 → sum t.mono.powers ≤ 48 → unsigned_abs t.coef < 2 ^ 126 → IsPoly (unless_zero t)
IsPoly-unless_zero t places low small = case (int_eq t.coef (pos 0)) refl
  where
    case : (v : Bool) → int_eq t.coef (pos 0) ≡ v → IsPoly (if v then [] else t ∷ [])
    case true e = record { ordered = tt; small = omega arith; few = omega arith }
    case false e = record { ordered = (record { not_zero = other _ _ e; low = low; places = places; before = tt }, tt); small = omega (arith, norm-cons t []); few = omega arith }

pub IsWithin-unless_zero : (t : Term) → IsWithin (unless_zero t) (unsigned_abs t.coef) (sum t.mono.powers) 1
IsWithin-unless_zero t = case (int_eq t.coef (pos 0))
  where
    case : (c : Bool) → IsWithin (if c then [] else t ∷ []) (unsigned_abs t.coef) (sum t.mono.powers) 1
    case true = record { norm_le = omega arith; degree_le = omega arith; length_le = omega arith }
    case false = record { norm_le = omega (arith, norm-cons t []); degree_le = omega arith; length_le = omega arith }

pub ruleset singles = (coef-unless_zero, value_at-unless_zero, IsPoly-unless_zero, AreBelow-unless_zero, HaveOnly-unless_zero, IsWithin-unless_zero)
