use Rattle.vp_read.proofs.NumberSteps.{NumbersFrom}
use Rattle.vp_read.proofs.numbers.numbers.Given as goal

abbrev pub invariant-loop-i : goal.invariant-loop-i
invariant-loop-i l = NumbersFrom l.names l.i l.found
