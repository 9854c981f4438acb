use Rattle.std.proofs.Common.{◌≡◌, ◌*◌, ◌/◌, take}
use Rattle.vp_flow.specs.Bounds.{at_least_one}
use Rattle.vp_flow.proofs.bounds.greatest_norm.Given as goal

abbrev pub invariant-loop-k : goal.invariant-loop-k
invariant-loop-k l = l.greatest ≡ at_least_one (λ q. q.weight.norm * (l.common / q.weight.den)) (take l.k l.sides)
