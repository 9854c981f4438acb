use Rattle.std.proofs.Common.{◌≡◌, ◌+◌, false, take, slice_index}
use Rattle.std.specs.List.{list_any}
use Rattle.std.specs.Prelude.{nat_lt}
use Rattle.vp_flow.proofs.uses.occurs.Given as goal

abbrev pub invariant-loop-k : goal.invariant-loop-k
invariant-loop-k l = list_any (λ t. nat_lt 0 (slice_index t.mono.powers (l.counts.params + l.state))) (take l.k l.poly) ≡ false
