use Rattle.vp_poly.specs.Places.{places_for}
use Rattle.vp_flow.specs.Sides.{occurs}
use Rattle.vp_flow.specs.Matrix.{HasCells}
use Rattle.vp_flow.proofs.uses.used.Given as goal

abbrev pub invariant-loop-state : goal.invariant-loop-state
invariant-loop-state l = HasCells l.state (λ j. occurs (places_for l.counts) j l.poly) l.cells.items
