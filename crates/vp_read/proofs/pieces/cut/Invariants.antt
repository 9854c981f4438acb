use Rattle.std.proofs.Common.{◌≡◌, ◌≤◌, ◌+◌, ◌++◌, length, map, All}
use Rattle.vp_read.specs.Pieces.{cut, items}
use Rattle.vp_read.proofs.pieces.cut.Given as goal

abbrev pub invariant-pieces : goal.invariant-pieces
invariant-pieces l = record {
  cut : cut 0 l.terminals ≡ map items l.found.items ++ cut 0 l.rest;
  few : length l.found.items + length l.rest ≤ length l.terminals;
  short : All (λ p. length p.items ≤ length l.terminals) l.found.items;
}

abbrev pub decreases-pieces : goal.decreases-pieces
decreases-pieces l = length l.rest
