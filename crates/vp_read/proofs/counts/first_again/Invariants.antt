use Rattle.std.proofs.Common.{◌++◌}
use Rattle.vp_read.proofs.AgainSteps.{AgainFrom, texts}
use Rattle.vp_read.proofs.counts.first_again.Given as goal

abbrev pub invariant-loop-i : goal.invariant-loop-i
invariant-loop-i l = AgainFrom (texts l.first ++ texts l.second) l.names l.i
