use Rattle.std.proofs.Common.{◌≡◌, ◌++◌, drop}
use Rattle.vp_logic.specs.Cases.{lists}
use Rattle.vp_logic.proofs.Joining.{with_each}
use Rattle.vp_logic.proofs.splitting.push_each.Given as goal

abbrev pub invariant-loop-tail : goal.invariant-loop-tail
invariant-loop-tail l = lists l.cases.items ++ with_each l.head (lists (drop l.tail-index l.tails)) ≡ lists l.initial.cases.items ++ with_each l.head (lists l.tails)
