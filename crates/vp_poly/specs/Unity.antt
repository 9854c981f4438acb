-- Powers of a polynomial, one factor after the other.
use Rattle.std.specs.Prelude.{ℕ, Bool, ◌*◌, ◌^◌, List, [], ◌∷◌, replicate, pos}
use Rattle.vp_terms.specs.Rational.{Rational, power}
use Rattle.vp_poly.specs.declared.mono.Term.{Term}
use Rattle.vp_poly.specs.Poly.{IsPoly, IsWithin}
use Rattle.vp_poly.specs.Places.{AreBelow, HaveOnly}
use Rattle.vp_poly.specs.Value.{Point, value_at}
use Rattle.vp_poly.specs.Coefficient.{Coefficients, to_power}
use Rattle.vp_poly.specs.Times.{IsTimes, HasCoefficients}
use Rattle.vp_poly.specs.Weights.{Weights}

-- the polynomial 1
abbrev pub unity : List Term
unity = (record { mono = record { powers = replicate 32 0 }; coef = pos 1 }) ∷ []

-- `ps` is the power i of `ts`, whose weight is w
pub record HasPower (ts : List Term) (w : Weights) (i : ℕ) (ps : List Term) : Type 0 where
  pub poly : IsPoly ps
  pub within : IsWithin ps (w.norm ^ i) (i * w.degree) (w.terms ^ i)
  pub places : (v : ℕ) → AreBelow v ts → AreBelow v ps
  pub only : (allowed : ℕ → Bool) → HaveOnly allowed ts → HaveOnly allowed ps
  pub coefficients : (f : Coefficients) → HasCoefficients w.den ts f → HasCoefficients (w.den ^ i) ps (to_power f i)
  pub values : (x : Point) (q : Rational) → IsTimes w.den (value_at ts x) q → IsTimes (w.den ^ i) (value_at ps x) (power q i)
