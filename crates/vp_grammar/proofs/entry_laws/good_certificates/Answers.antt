use Rattle.vp_terms.specs.WellFormed.{in_certificate}
use Rattle.vp_grammar.proofs.GoodEntries.{cert_good}
use Rattle.vp_grammar.proofs.KeptCertificates.{kept_certificate}
use Rattle.vp_grammar.proofs.NoStrays.{all_stand}
use Rattle.vp_grammar.proofs.WholeNumbers.{cert_formed}
use Rattle.vp_grammar.proofs.entry_laws.good_certificates.Goals as goal

pub returns-clause-variables : goal.returns-clause-variables
returns-clause-variables c = λ p d ts s h. cert_good p d ts s (all_stand in_certificate p 0 ts h)

pub returns-clause-form : goal.returns-clause-form
returns-clause-form c = cert_formed

pub returns-clause-kept : goal.returns-clause-kept
returns-clause-kept c = kept_certificate
