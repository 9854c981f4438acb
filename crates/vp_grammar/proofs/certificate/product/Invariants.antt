use Rattle.std.proofs.Common.{length, ◌<◌}
use Rattle.vp_grammar.specs.CertificateReads.{IsLabel}
use Rattle.vp_grammar.proofs.Lists.{ListedSoFar}
use Rattle.vp_grammar.proofs.CertificateSteps.{star}
use Rattle.vp_grammar.proofs.certificate.product.Given as goal

abbrev pub invariant-labels : goal.invariant-labels
invariant-labels l = record {
  so_far : ListedSoFar IsLabel star l.terminals l.found.items l.rest;
  shorter : length l.rest < length l.terminals;
}

abbrev pub decreases-labels : goal.decreases-labels
decreases-labels l = length l.rest
