use Rattle.std.proofs.Common.{◌≡◌, ◌≤◌, max, drop}
use Rattle.vp_read.specs.Pieces.{greatest_depth}
use Rattle.vp_read.proofs.pieces.greatest_depth.Given as goal

abbrev pub invariant-loop-terminal : goal.invariant-loop-terminal
invariant-loop-terminal l = record {
  greatest : greatest_depth 0 l.terminals ≡ max l.greatest (greatest_depth l.depth (drop l.terminal-index l.terminals));
  reached : l.depth ≤ l.greatest;
  small : l.depth ≤ l.terminal-index;
}
