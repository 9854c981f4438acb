use Rattle.vp_read.proofs.AgainSteps.{ContainsFrom}
use Rattle.vp_read.proofs.counts.contains.Given as goal

abbrev pub invariant-loop-declared : goal.invariant-loop-declared
invariant-loop-declared l = ContainsFrom l.names l.name l.declared-index
