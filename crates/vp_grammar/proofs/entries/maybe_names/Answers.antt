use Rattle.vp_grammar.proofs.EntrySteps.{reads_maybe}
use Rattle.vp_grammar.proofs.entries.maybe_names.Goals as goal

pub returns-in-None : goal.returns-in-None
returns-in-None c = reads_maybe (λ x. x.0.items) (λ x. x.1.now) c.args.terminals.now c.some_names.result c.in-None.ensures c.some_names.ensures
