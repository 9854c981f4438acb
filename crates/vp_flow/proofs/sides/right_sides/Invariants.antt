use Rattle.vp_flow.specs.Righting.{AreFirstSides}
use Rattle.vp_flow.proofs.sides.right_sides.Given as goal

abbrev pub invariant-loop-rate : goal.invariant-loop-rate
invariant-loop-rate l = AreFirstSides l.pkg l.counts l.rate-index l.sides.items
