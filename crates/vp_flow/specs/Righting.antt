-- The first right sides of a package.
use Rattle.std.specs.Prelude.{◌≡◌, ◌+◌, ◌<◌, ℕ, IfSome, List, length, get_or, slice_get}
use Rattle.vp_words.specs.declared.record.Counts.{Counts}
use Rattle.vp_terms.specs.declared.package.Package.{Package}
use Rattle.vp_poly.specs.declared.scaled.Scaled.{Scaled}
use Rattle.vp_poly.specs.Places.{AreBelow}
use Rattle.vp_flow.specs.Sides.{IsPolynomialOf, model}

-- the polynomials of the first n right sides, which have parameters, states and controls alone
pub record AreFirstSides (pkg : Package) (c : Counts) (n : ℕ) (qs : List Scaled) : Type 0 where
  pub count : length qs ≡ n
  pub each : (i : ℕ) (d : Scaled) → i < n → IfSome (slice_get pkg.plant.rates i) (λ e. IsPolynomialOf (model pkg) e (get_or qs i d))
  pub low : (i : ℕ) (d : Scaled) → i < n → AreBelow (c.params + c.states + c.controls) (get_or qs i d).poly
