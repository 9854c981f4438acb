use Rattle.std.proofs.Common.{◌∷◌}
use Rattle.vp_lex.specs.declared.word.ReservedWord.TheVariants as word
use Rattle.vp_grammar.specs.declared.terminal.Terminal.TheVariants as terminal
use Rattle.vp_grammar.proofs.entries.bounded.Goals as goal

pub returns-in-None : goal.returns-in-None
returns-in-None c = λ rest h. c.in-None.ensures h.0 (terminal.Word word.From ∷ rest) (h.1, h.2)
