use Rattle.vp_terms.specs.Packages.{term_tree}
use Rattle.vp_grammar.proofs.CertificateSteps.{reads_sum, reads_equation}
use Rattle.vp_grammar.proofs.certificate.later.Goals as goal

pub returns-in-Some-clause-reads : goal.returns-in-Some-clause-reads
returns-in-Some-clause-reads c = reads_sum (λ x. term_tree x.0) (λ x. x.1.now) c.args.terminals.now c.in-Some.more.now c.sum.result c.in-Some.ensures c.sum.ensures.reads

pub returns-in-Some-after_word-clause-reads : goal.returns-in-Some-after_word-clause-reads
returns-in-Some-after_word-clause-reads c = reads_equation (λ x. term_tree x.0) (λ x. x.1.now) c.args.terminals.now c.in-Some-after_word.more.now c.equation.result c.in-Some-after_word.ensures c.equation.ensures.reads
