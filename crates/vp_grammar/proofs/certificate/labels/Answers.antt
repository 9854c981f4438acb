use Rattle.vp_grammar.proofs.CertificateSteps.{reads_of}
use Rattle.vp_grammar.proofs.certificate.labels.Goals as goal

pub returns-in-Some-after_word-clause-reads : goal.returns-in-Some-after_word-clause-reads
returns-in-Some-after_word-clause-reads c = reads_of (λ x. x.0.items) (λ x. x.1.now) c.args.terminals.now c.in-Some-after_word.more.now c.product.result c.in-Some-after_word.ensures c.product.ensures.reads
