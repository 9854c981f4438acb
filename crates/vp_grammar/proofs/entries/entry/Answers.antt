use Rattle.vp_terms.specs.Tree.{expr_tree}
use Rattle.vp_grammar.proofs.EntrySteps.{reads_entry, no_entry}
use Rattle.vp_grammar.proofs.entries.entry.Goals as goal

pub returns-in-Some-clause-reads : goal.returns-in-Some-clause-reads
returns-in-Some-clause-reads c = reads_entry (λ x. expr_tree x.0) (λ x. x.1.now) c.args.mark c.args.terminals.now c.in-Some.more.now c.expression.result c.in-Some.ensures c.expression.ensures.reads

pub returns-in-None-clause-reads : goal.returns-in-None-clause-reads
returns-in-None-clause-reads c = no_entry c.args.mark c.args.terminals.now c.in-None.ensures
