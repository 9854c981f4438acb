-- Whole multiples of rational numbers.
use Rattle.std.specs.Prelude.{ℕ, pos, neg_ℤ, List}
use Rattle.vp_terms.specs.Rational.{Rational, whole, product, Equals}
use Rattle.vp_poly.specs.declared.mono.Term.{Term}
use Rattle.vp_poly.specs.Poly.{Powers, coef}

-- v is d times q
pub record IsTimes (d : ℕ) (v q : Rational) : Type 0 where
  pub same : Equals v (product (whole (pos d)) q)

-- each coefficient is d times that of f
pub record HasCoefficients (d : ℕ) (ts : List Term) (f : Powers → Rational) : Type 0 where
  pub each : (m : Powers) → IsTimes d (whole (coef ts m)) (f m)

-- a rational with the other sign
abbrev pub negation : Rational → Rational
negation q = product (whole (neg_ℤ (pos 1))) q
