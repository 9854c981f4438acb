-- The exact flow of a package's plant, as a function of the values of variables.
use Rattle.std.specs.Prelude.{ℕ, ◌<◌, List, length}
use Rattle.vp_terms.specs.Meaning.{Assignment}
use Rattle.vp_terms.specs.Plant.{Flow}
use Rattle.vp_terms.specs.declared.package.Package.{Package}
use Rattle.vp_poly.specs.declared.scaled.Scaled.{Scaled}
use Rattle.vp_poly.specs.Points.{IsAt}
use Rattle.vp_poly.specs.Value.{Point}
use Rattle.vp_flow.specs.Series.{flow_of}
use Rattle.vp_flow.specs.Sides.{AreHeights, AreRightSides, model, polys, rates_of}
use Rattle.vp_flow.specs.Valued.{HasValue}

-- the flow gives each state, at each point that has the values of an assignment, the value there of the
-- state's Lie series up to its height
pub record IsExactFlow (pkg : Package) (flow : Flow) : Type 0 where
  pub sides : List Scaled
  pub right : AreRightSides pkg sides
  pub heights : ℕ → ℕ
  pub are_heights : AreHeights (model pkg) (polys sides) heights
  pub each : (i : ℕ) → i < length pkg.names.states → (z : Point) (a : Assignment) → IsAt (model pkg) z a →
      HasValue (flow_of (model pkg) (rates_of pkg) i (heights i)) z (flow i a)
