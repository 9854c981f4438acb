use Rattle.vp_grammar.proofs.CertificateSteps.{label_of_whole, no_label}
use Rattle.vp_grammar.proofs.certificate.label.Goals as goal

pub returns-in-Some : goal.returns-in-Some
returns-in-Some c = label_of_whole c.args.terminals.now c.in-Some.number c.min.result c.in-Some.rest.now c.in-Some.ensures c.min.ensures

pub returns-in-None : goal.returns-in-None
returns-in-None c = no_label c.args.terminals.now c.in-None.ensures
