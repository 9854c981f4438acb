use Rattle.std.proofs.Common.{length, ◌+◌, ◌*◌}
use Rattle.vp_grammar.proofs.controller.+controller.Given as goal

abbrev pub decreases-statements : goal.decreases-statements
decreases-statements l = 5 * length l.terminals.now + 4

abbrev pub decreases-some_statements : goal.decreases-some_statements
decreases-some_statements l = 5 * length l.terminals.now + 3

abbrev pub decreases-statement : goal.decreases-statement
decreases-statement l = 5 * length l.terminals.now + 2

abbrev pub decreases-choice : goal.decreases-choice
decreases-choice l = 5 * length l.terminals.now + 1

abbrev pub decreases-block : goal.decreases-block
decreases-block l = 5 * length l.terminals.now

abbrev pub decreases-conditional : goal.decreases-conditional
decreases-conditional l = 5 * length l.terminals.now

abbrev pub decreases-otherwise : goal.decreases-otherwise
decreases-otherwise l = 5 * length l.terminals.now
