use Rattle.std.proofs.Common.{ap, sym, ◌∙◌, arith}
use Rattle.vp_read.specs.Pieces.{depth_behind, ends}
use Rattle.vp_read.proofs.PieceSteps.{piece_ends, piece_goes_on, all_one_piece, depth_small}
use Rattle.vp_read.proofs.pieces.first_len.Goals as goal

pub returns-then-ends-clause-first : goal.returns-then-ends-clause-first
returns-then-ends-clause-first c =
    piece_ends c.args.terminals.now c.loop-i.i c.loop-i.depth c.index-terminals-i.result c.loop-i-test.true c.loop-i.invariant.begun (ap (ends c.loop-i.depth) (sym c.index-terminals-i.is) ∙ sym c.ends.ensures ∙ c.if-ends.true)

pub depth_behind-depth-requires : goal.depth_behind-depth-requires
depth_behind-depth-requires c = omega (arith, c.loop-i.invariant.small, c.loop-i-test.true, c.requires.few)

pub loop-i-preserved : goal.loop-i-preserved
loop-i-preserved c = record {
  begun = piece_goes_on c.args.terminals.now c.loop-i.i c.loop-i.depth c.depth_behind-depth.result c.index-terminals-i.result c.loop-i-test.true c.loop-i.invariant.begun (ap (ends c.loop-i.depth) (sym c.index-terminals-i.is) ∙ sym c.ends.ensures ∙ c.if-ends.false) (c.depth_behind-depth.ensures ∙ ap (depth_behind c.loop-i.depth) c.index-terminals-i.is);
  small = (let s = depth_small c.loop-i.depth c.index-terminals-i.result in omega (arith, s, c.depth_behind-depth.ensures, c.loop-i.invariant.small));
}

pub returns-clause-first : goal.returns-clause-first
returns-clause-first c =
    all_one_piece c.args.terminals.now c.loop-i.i c.loop-i.depth c.requires.some (omega (arith, c.loop-i.auto, c.loop-i-test.false)) c.loop-i.invariant.begun
