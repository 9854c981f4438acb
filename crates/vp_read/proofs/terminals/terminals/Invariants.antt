use Rattle.vp_read.proofs.TerminalSteps.{Standing}
use Rattle.vp_read.proofs.terminals.terminals.Given as goal

abbrev pub invariant-loop-token : goal.invariant-loop-token
invariant-loop-token l = Standing l.text l.tokens l.token-index l.found.items
