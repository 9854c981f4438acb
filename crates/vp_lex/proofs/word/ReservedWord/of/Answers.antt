use Rattle.std.proofs.Common.{arith, refl}
use Rattle.vp_lex.proofs.Words.{none_behind, none_spelled, words}
use Rattle.vp_lex.proofs.word.ReservedWord.of.Goals as goal

pub loop-word-preserved : goal.loop-word-preserved
loop-word-preserved c = none_behind c.args.bytes.now words c.loop-word.word-index _ _ refl (λ e. let t = c.is_spelled.ensures.1 e in let f = c.if-is_spelled.false in absurd (cc)) c.loop-word.invariant

pub returns : goal.returns
returns c = none_spelled c.args.bytes.now (λ k w h. c.loop-word.invariant k w (omega (arith, c.loop-word-test.false)))
