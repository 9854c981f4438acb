use Rattle.vp_grammar.proofs.CertificateForms.{unique_cert}
use Rattle.vp_grammar.proofs.entry_laws.one_certificate.Goals as goal

pub returns : goal.returns
returns c = unique_cert
