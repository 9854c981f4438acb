use Rattle.vp_poly.specs.Places.{places_for}
use Rattle.vp_flow.specs.Sides.{polys, uses}
use Rattle.vp_flow.specs.Matrix.{HasRows}
use Rattle.vp_flow.proofs.uses.uses.Given as goal

abbrev pub invariant-loop-side : goal.invariant-loop-side
invariant-loop-side l = HasRows l.side-index l.counts.states (uses (places_for l.counts) (polys l.sides)) l.rows.items
