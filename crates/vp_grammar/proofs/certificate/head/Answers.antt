use Rattle.vp_grammar.proofs.CertificateSteps.{no_number, head_of}
use Rattle.vp_grammar.proofs.certificate.head.Goals as goal

pub returns-in_default-label : goal.returns-in_default-label
returns-in_default-label c = no_number c.args.terminals.now c.in-Some.more.now c.in-Some-part.behind.now c.in-Some-part.part c.in-Some.ensures c.in-Some-part.ensures c.in_default-label.ensures

pub returns-in-Some-after_symbol : goal.returns-in-Some-after_symbol
returns-in-Some-after_symbol c = head_of c.args.terminals.now c.in-Some.more.now c.in-Some-part.behind.now c.in-Some-label.last.now c.in-Some-after_symbol.rest.now c.in-Some-part.part c.in-Some-label.number c.in-Some.ensures c.in-Some-part.ensures c.in-Some-label.ensures c.in-Some-after_symbol.ensures
