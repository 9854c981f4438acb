use Rattle.std.proofs.Common.{length, map}
use Rattle.vp_terms.specs.Packages.{term_tree}
use Rattle.vp_grammar.proofs.CertificateSteps.{TermsSoFar}
use Rattle.vp_grammar.proofs.certificate.terms.Given as goal

abbrev pub invariant-terms : goal.invariant-terms
invariant-terms l = record {
  so_far : TermsSoFar l.terminals (map term_tree l.found.items) l.rest;
}

abbrev pub decreases-terms : goal.decreases-terms
decreases-terms l = length l.rest
