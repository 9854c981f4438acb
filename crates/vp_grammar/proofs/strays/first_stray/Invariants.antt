use Rattle.std.proofs.Common.{◌≤◌}
use Rattle.vp_grammar.proofs.StraySteps.{StrayFrom}
use Rattle.vp_grammar.proofs.strays.first_stray.Given as goal

abbrev pub invariant-loop-i : goal.invariant-loop-i
invariant-loop-i l = record { found : StrayFrom l.rule l.places l.terminals l.set l.i; small : l.set ≤ l.i }
