use Rattle.std.proofs.Common.{◌+◌, sym, subst}
use Rattle.vp_grammar.specs.Reads.{FailsAll}
use Rattle.vp_grammar.specs.Certificates.{SpellsCert}
use Rattle.vp_terms.specs.Packages.{cert_tree}
use Rattle.vp_read.proofs.SectionSteps.{CertsSoFar, cert_on, cert_none}
use Rattle.vp_read.proofs.sections.certificates.Goals as goal

pub returns-in-Err : goal.returns-in-Err
returns-in-Err c =
    cert_none c.args.pieces.now c.loop-i.i c.loop-i.certs.items c.index-pieces-i.result c.in-Err.why c.refusal.result c.loop-i-test.true c.index-pieces-i.is c.loop-i.invariant (subst (λ p. FailsAll (SpellsCert p) c.in-Err.why) c.deref.ensures.value c.in-Err.ensures) c.refusal.ensures

pub loop-i-preserved : goal.loop-i-preserved
loop-i-preserved c =
    subst (λ xs. CertsSoFar c.args.pieces.now (c.loop-i.i + 1) xs) (sym c.in_ok-push-in-Ok.ensures.items) (cert_on c.args.pieces.now c.loop-i.i c.loop-i.certs.items c.index-pieces-i.result c.in-Ok.cert c.loop-i-test.true c.index-pieces-i.is c.loop-i.invariant (subst (λ p. SpellsCert p (cert_tree c.in-Ok.cert)) c.deref.ensures.value c.in-Ok.ensures))
