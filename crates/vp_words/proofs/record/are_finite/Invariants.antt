use Rattle.std.proofs.Common.{IsTrue, take}
use Rattle.std.specs.List.{list_all}
use Rattle.vp_words.specs.Number.{is_finite}
use Rattle.vp_words.proofs.record.are_finite.Given as goal

abbrev pub invariant-loop-word : goal.invariant-loop-word
invariant-loop-word l = IsTrue (list_all is_finite (take l.word-index l.words))
