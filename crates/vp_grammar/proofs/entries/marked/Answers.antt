use Rattle.vp_grammar.specs.Entries.{mark_then}
use Rattle.vp_grammar.proofs.entries.marked.Goals as goal

pub returns-in-None : goal.returns-in-None
returns-in-None c = λ rest h. c.in-None.ensures h.0 (mark_then c.args.mark rest) (h.1, h.2)
