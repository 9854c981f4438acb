use Rattle.std.proofs.Common.{◌≡◌, ◌-◌, ◌<◌, ◌^◌, drop, length}
use Rattle.vp_flow.specs.Bounds.{common_den}
use Rattle.vp_flow.proofs.bounds.common_den.Given as goal

abbrev pub invariant-loop-k : goal.invariant-loop-k
invariant-loop-k l = (l.common ≡ common_den (drop (length l.sides - l.k) l.sides)) × (0 < l.common) × (l.common < 2 ^ 62)
