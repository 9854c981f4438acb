use Rattle.std.proofs.Common.{[]}
use Rattle.vp_lex.specs.declared.word.ReservedWord.TheVariants as word
use Rattle.vp_grammar.specs.EntryReads.{Listed, IsBound}
use Rattle.vp_grammar.proofs.Lists.{one_piece}
use Rattle.vp_grammar.proofs.EntrySteps.{comma, bound_list_once, bounds_piece}
use Rattle.vp_grammar.proofs.entry_laws.one_list_of_bounds.Goals as goal

pub returns : goal.returns
returns c = λ ts a b s t. one_piece word.Slack (Listed IsBound comma) bound_list_once [] ts a b (bounds_piece ts a s) (bounds_piece ts b t)
