use Rattle.std.proofs.Common.{length, map, ◌≤◌}
use Rattle.vp_terms.specs.Tree.{expr_tree}
use Rattle.vp_grammar.proofs.CertificateSteps.{SquaresSoFar}
use Rattle.vp_grammar.proofs.certificate.squares.Given as goal

abbrev pub invariant-squares : goal.invariant-squares
invariant-squares l = record {
  so_far : SquaresSoFar l.terminals (map expr_tree l.found.items) l.rest;
  no_longer : length l.rest ≤ length l.terminals;
}

abbrev pub decreases-squares : goal.decreases-squares
decreases-squares l = length l.rest
