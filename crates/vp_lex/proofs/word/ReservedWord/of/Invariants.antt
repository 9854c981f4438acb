use Rattle.std.proofs.Common.{◌≡◌, ℕ, ◌<◌, Some, slice_get}
use Rattle.vp_lex.specs.Reserved.{word_text}
use Rattle.vp_lex.specs.declared.word.ReservedWord.{ReservedWord}
use Rattle.vp_lex.proofs.word.ReservedWord.of.Given as goal

abbrev pub invariant-loop-word : goal.invariant-loop-word
invariant-loop-word l = (k : ℕ) (w : ReservedWord) → k < l.word-index → slice_get l.word-items k ≡ Some w → l.bytes ≡ word_text w → ⊥
