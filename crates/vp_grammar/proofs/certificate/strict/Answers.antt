use Rattle.vp_grammar.proofs.CertificateSteps.{no_strict}
use Rattle.vp_grammar.proofs.certificate.strict.Goals as goal

pub returns-in_default : goal.returns-in_default
returns-in_default c = no_strict c.args.terminals.now c.in_default.ensures
