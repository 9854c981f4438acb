use Rattle.std.proofs.Common.{◌≡◌, ◌++◌, take}
use Rattle.vp_monitor.proofs.standing.add_copies.Given as goal

abbrev pub invariant-loop-scaled : goal.invariant-loop-scaled
invariant-loop-scaled l = l.all.items ≡ l.initial.all.items ++ take l.scaled-index l.more
