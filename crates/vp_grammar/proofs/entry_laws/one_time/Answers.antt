use Rattle.std.proofs.Common.{[], ◌∷◌}
use Rattle.vp_lex.specs.declared.word.ReservedWord.TheVariants as word
use Rattle.vp_grammar.specs.EntryReads.{IsPair}
use Rattle.vp_grammar.proofs.Lists.{one_piece}
use Rattle.vp_grammar.proofs.EntrySteps.{semicolon, pair_once, times_piece}
use Rattle.vp_grammar.proofs.entry_laws.one_time.Goals as goal

pub returns : goal.returns
returns c = λ ts a b s t. one_piece word.Time IsPair pair_once (semicolon ∷ []) ts a b (times_piece ts a s) (times_piece ts b t)
