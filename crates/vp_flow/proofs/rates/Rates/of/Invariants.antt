use Rattle.std.proofs.Common.{◌≡◌, ◌<◌, ℕ, length, get_or}
use Rattle.vp_poly.specs.declared.scaled.Scaled.{Scaled}
use Rattle.vp_flow.specs.Sides.{side}
use Rattle.vp_flow.specs.Sharing.{IsSharedOf}
use Rattle.vp_flow.proofs.rates.Rates.of.Given as goal

abbrev pub invariant-loop-side : goal.invariant-loop-side
invariant-loop-side l = (length l.polys.items ≡ l.side-index) × ((i : ℕ) (d : Scaled) → i < l.side-index → IsSharedOf l.bounds (get_or l.sides i d) (side l.polys.items i))
