use Rattle.vp_read.proofs.SectionSteps.{CertsSoFar}
use Rattle.vp_read.proofs.sections.certificates.Given as goal

abbrev pub invariant-loop-i : goal.invariant-loop-i
invariant-loop-i l = CertsSoFar l.pieces l.i l.certs.items
