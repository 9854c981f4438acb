use Rattle.std.proofs.Common.{◌≡◌, map, take}
use Rattle.vp_read.specs.Naming.{known}
use Rattle.vp_read.proofs.naming.known_terminals.Given as goal

abbrev pub invariant-loop-terminal : goal.invariant-loop-terminal
invariant-loop-terminal l = l.found.items ≡ map (known l.text l.scope.names.now) (take l.terminal-index l.terminals)
