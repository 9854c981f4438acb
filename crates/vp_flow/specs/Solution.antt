-- What it is to solve the plant's equations.
use Rattle.std.specs.Prelude.{◌≡◌, ℕ, ◌<◌, IfSome, List, length, slice_get}
use Rattle.vp_terms.specs.Rational.{Equals}
use Rattle.vp_terms.specs.declared.expr.Places.{Places}
use Rattle.vp_terms.specs.declared.expr.Var.{Var}
use Rattle.vp_terms.specs.declared.expr.Var.TheVariants.{Param, State, Control, NextState, NextControl, Tau}
use Rattle.vp_terms.specs.declared.package.Package.{Package}
use Rattle.vp_poly.specs.declared.scaled.Scaled.{Scaled}
use Rattle.vp_poly.specs.Poly.{Powers}
use Rattle.vp_poly.specs.Coefficient.{Coefficients, coefficients}
use Rattle.vp_poly.specs.Canonical.{variables}
use Rattle.vp_poly.specs.Times.{HasCoefficients}
use Rattle.vp_flow.specs.Series.{at_start, by_tau}
use Rattle.vp_flow.specs.Sides.{model}

-- f gives the coefficients of each, before they are multiplied by its denominator
pub record AreCoefficients (flows : List Scaled) (f : ℕ → Coefficients) : Type 0 where
  pub each : (i : ℕ) → IfSome (slice_get flows i) (λ s. HasCoefficients s.weight.den s.poly (f i))

-- what stands for each variable where the states are replaced by f
abbrev pub with_flows : Places → (ℕ → Coefficients) → Var → Coefficients
with_flows p f (Param i) = variables p (Param i)
with_flows p f (State i) = f i
with_flows p f (Control i) = variables p (Control i)
with_flows p f (NextState i) = variables p (NextState i)
with_flows p f (NextControl i) = variables p (NextControl i)
with_flows p f Tau = variables p Tau

-- at `tau` = 0 each is its state
abbrev pub Start : Package → List Scaled → Type 0
Start pkg flows = (f : ℕ → Coefficients) → AreCoefficients flows f → (i : ℕ) → i < length flows → (m : Powers) → length m ≡ 32 → Equals (at_start (model pkg) (f i) m) (variables (model pkg) (State i) m)

-- the derivative of each by `tau` is its right side, the expression that it is, with each state replaced by what it flows to
abbrev pub Solve : Package → List Scaled → Type 0
Solve pkg flows = (f : ℕ → Coefficients) → AreCoefficients flows f → (i : ℕ) → i < length flows → (m : Powers) → length m ≡ 32 → IfSome (slice_get pkg.plant.rates i) (λ e. Equals (by_tau (model pkg) (f i) m) (coefficients (with_flows (model pkg) f) e m))
