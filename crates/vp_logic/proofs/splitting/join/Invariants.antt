use Rattle.std.proofs.Common.{◌≡◌, ◌++◌, drop}
use Rattle.vp_logic.specs.Cases.{joined, lists}
use Rattle.vp_logic.proofs.splitting.join.Given as goal

abbrev pub invariant-loop-head : goal.invariant-loop-head
invariant-loop-head l = lists l.cases.items ++ joined (lists (drop l.head-index l.heads)) (lists l.tails) ≡ joined (lists l.heads) (lists l.tails)
