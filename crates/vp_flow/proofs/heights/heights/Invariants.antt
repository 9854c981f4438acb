use Rattle.vp_flow.specs.Order.{AreFixed}
use Rattle.vp_poly.specs.Places.{places_for}
use Rattle.vp_flow.specs.Sides.{polys}
use Rattle.vp_flow.proofs.heights.heights.Given as goal

abbrev pub invariant-loop-state : goal.invariant-loop-state
invariant-loop-state l = AreFixed (places_for l.counts) (polys l.sides) l.order l.state-index l.heights.items
