use Rattle.std.proofs.Common.{IsTrue, take, pos}
use Rattle.std.specs.List.{list_all}
use Rattle.std.specs.Ordering.{int_eq}
use Rattle.vp_words.proofs.record.are_zero.Given as goal

abbrev pub invariant-loop-word : goal.invariant-loop-word
invariant-loop-word l = IsTrue (list_all (λ z. int_eq z (pos 0)) (take l.word-index l.words))
