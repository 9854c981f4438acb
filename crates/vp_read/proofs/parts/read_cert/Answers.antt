use Rattle.vp_terms.specs.declared.package.Cert.{Cert}
use Rattle.std.proofs.Common.{IsTrue}
use Rattle.vp_terms.specs.Certificates.{IsCertificate}
use Rattle.vp_terms.specs.WellFormed.{is_good_cert, places_of}
use Rattle.vp_grammar.specs.Certificates.{SpellsCert}
use Rattle.vp_terms.specs.Packages.{cert_tree}
use Rattle.vp_read.proofs.Parting.{part_reads}
use Rattle.vp_read.proofs.PartLaws.{read_good}
use Rattle.vp_read.proofs.parts.read_cert.Goals as goal

pub returns-clause-exact : goal.returns-clause-exact
returns-clause-exact c =
    part_reads {X = Cert} cert_tree SpellsCert c.args.text.now c.args.tokens.now c.args.names.now c.in_ok-known.known c.deref.result.now c.deref-2.result.now c.whole_certificate-read.result c.declared_part.result c.in_ok-known.ensures.gives c.deref.ensures.value c.deref-2.ensures.value c.whole_certificate-read.ensures c.declared_part.ensures

pub returns-clause-well_formed : goal.returns-clause-well_formed
returns-clause-well_formed c =
    let reads = part_reads {X = Cert} cert_tree SpellsCert c.args.text.now c.args.tokens.now c.args.names.now c.in_ok-known.known c.deref.result.now c.deref-2.result.now c.whole_certificate-read.result c.declared_part.result c.in_ok-known.ensures.gives c.deref.ensures.value c.deref-2.ensures.value c.whole_certificate-read.ensures c.declared_part.ensures in
    read_good {X = Cert} cert_tree SpellsCert c.args.text.now c.args.tokens.now c.args.names.now (λ x. IsTrue (is_good_cert (places_of c.args.names.now) x)) c.declared_part.result reads (λ x h. (c.parts_are_well_formed.ensures.certificates c.args.text.now c.args.tokens.now c.args.names.now x h).0)

pub returns-clause-certificate : goal.returns-clause-certificate
returns-clause-certificate c =
    let reads = part_reads {X = Cert} cert_tree SpellsCert c.args.text.now c.args.tokens.now c.args.names.now c.in_ok-known.known c.deref.result.now c.deref-2.result.now c.whole_certificate-read.result c.declared_part.result c.in_ok-known.ensures.gives c.deref.ensures.value c.deref-2.ensures.value c.whole_certificate-read.ensures c.declared_part.ensures in
    read_good {X = Cert} cert_tree SpellsCert c.args.text.now c.args.tokens.now c.args.names.now IsCertificate c.declared_part.result reads (λ x h. (c.parts_are_well_formed.ensures.certificates c.args.text.now c.args.tokens.now c.args.names.now x h).1)
