use Rattle.vp_flow.specs.Weights.{IsGrowth}
use Rattle.vp_flow.proofs.bounds.Bounds.weight.Given as goal

abbrev pub invariant-loop-k : goal.invariant-loop-k
invariant-loop-k l = IsGrowth l.self l.k l.growth
