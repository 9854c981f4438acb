use Rattle.std.proofs.Common.{[]}
use Rattle.vp_grammar.specs.EntryReads.{Listed, IsEntry}
use Rattle.vp_grammar.proofs.Lists.{one_piece}
use Rattle.vp_grammar.proofs.EntrySteps.{comma, entry_list_once, entries_piece}
use Rattle.vp_grammar.proofs.entry_laws.one_list_of_entries.Goals as goal

pub returns : goal.returns
returns c = λ w m ts a b s t. one_piece w (Listed (IsEntry m) comma) (entry_list_once m) [] ts a b (entries_piece w m ts a s) (entries_piece w m ts b t)
