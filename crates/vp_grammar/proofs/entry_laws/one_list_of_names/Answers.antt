use Rattle.std.proofs.Common.{[]}
use Rattle.vp_grammar.specs.EntryReads.{MaybeNames}
use Rattle.vp_grammar.proofs.Lists.{one_piece}
use Rattle.vp_grammar.proofs.EntrySteps.{names_once, names_piece}
use Rattle.vp_grammar.proofs.entry_laws.one_list_of_names.Goals as goal

pub returns : goal.returns
returns c = λ w least ts a b s t. one_piece w MaybeNames names_once [] ts a b (names_piece w least ts a s).0 (names_piece w least ts b t).0
