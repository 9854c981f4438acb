-- The values of flows at points.
use Rattle.std.specs.Prelude.{ℕ, ◌<◌, IfSome, List, slice_get}
use Rattle.vp_terms.specs.Rational.{Rational}
use Rattle.vp_poly.specs.declared.scaled.Scaled.{Scaled}
use Rattle.vp_poly.specs.Coefficient.{Coefficients}
use Rattle.vp_poly.specs.Canonical.{IsCanonical, IsWeighed}
use Rattle.vp_poly.specs.Times.{IsTimes}
use Rattle.vp_poly.specs.Value.{Point, value_at}
use Rattle.vp_flow.specs.Solution.{AreCoefficients}

-- f gives the coefficients of a polynomial that isn't over, before they are multiplied by its denominator, and at the point x the value of that polynomial is the denominator times v
pub record HasValue (f : Coefficients) (x : Point) (v : Rational) : Type 0 where
  pub scaled : Scaled
  pub weighed : IsWeighed scaled.poly scaled.weight
  pub positive : 0 < scaled.weight.den
  pub canonical : IsCanonical scaled.weight.den scaled.poly f
  pub value : IsTimes scaled.weight.den (value_at scaled.poly x) v

-- at each point each of these has a value: that of its polynomial over its denominator
abbrev pub HaveValues : List Scaled → Type 0
HaveValues flows = (f : ℕ → Coefficients) → AreCoefficients flows f → (x : Point) (i : ℕ) → IfSome (slice_get flows i) (λ s. (v : Rational) × IsTimes s.weight.den (value_at s.poly x) v × HasValue (f i) x v)
