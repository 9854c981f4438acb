use Rattle.vp_flow.specs.Bounds.{bounds_of}
use Rattle.vp_flow.specs.Flows.{AreOfBounds}
use Rattle.vp_flow.proofs.weighing.weights.Given as goal

abbrev pub invariant-loop-height : goal.invariant-loop-height
invariant-loop-height l = AreOfBounds (bounds_of l.sides) l.heights l.height-index l.weights.items
