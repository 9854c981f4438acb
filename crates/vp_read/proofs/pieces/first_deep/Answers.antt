use Rattle.std.proofs.Common.{ap, sym, ◌∙◌, arith}
use Rattle.vp_read.specs.Pieces.{is_deep, items}
use Rattle.vp_read.proofs.PieceSteps.{deep_here, deep_on, deep_end}
use Rattle.vp_read.proofs.pieces.first_deep.Goals as goal

pub returns-then-is_deep : goal.returns-then-is_deep
returns-then-is_deep c =
    deep_here c.args.pieces.now c.loop-i.i c.index-pieces-i.result c.loop-i-test.true (ap (λ v. is_deep (items v)) (sym c.index-pieces-i.is) ∙ ap is_deep (sym c.deref.ensures.value) ∙ sym c.is_deep.ensures ∙ c.if-is_deep.true) c.loop-i.invariant

pub loop-i-preserved : goal.loop-i-preserved
loop-i-preserved c =
    deep_on c.args.pieces.now c.loop-i.i c.index-pieces-i.result c.loop-i-test.true (ap (λ v. is_deep (items v)) (sym c.index-pieces-i.is) ∙ ap is_deep (sym c.deref.ensures.value) ∙ sym c.is_deep.ensures ∙ c.if-is_deep.false) c.loop-i.invariant

pub returns : goal.returns
returns c = deep_end c.args.pieces.now c.loop-i.i (omega (arith, c.loop-i.auto, c.loop-i-test.false)) c.loop-i.invariant
