use Rattle.std.proofs.Common.{◌≡◌, ap, ◌∙◌, arith}
use Rattle.vp_read.specs.Pieces.{depth_behind}
use Rattle.vp_read.proofs.PieceSteps.{depth_small, depth_step, depth_end}
use Rattle.vp_read.proofs.pieces.greatest_depth.Goals as goal

pub depth_behind-depth-requires : goal.depth_behind-depth-requires
depth_behind-depth-requires c = omega (arith, c.loop-terminal.invariant.small, c.loop-terminal-test.true, c.requires)

pub loop-terminal-preserved : goal.loop-terminal-preserved
loop-terminal-preserved c =
    let e : c.depth_behind-depth.result ≡ depth_behind c.loop-terminal.depth c.terminal-item.result = c.depth_behind-depth.ensures in
    let m = c.greater-greatest.ensures in
    record {
      greatest = rw m (depth_step c.args.terminals.now c.loop-terminal.terminal-index c.loop-terminal.depth c.depth_behind-depth.result c.loop-terminal.greatest c.terminal-item.result c.loop-terminal-test.true (e ∙ ap (depth_behind c.loop-terminal.depth) c.terminal-item.is) c.loop-terminal.invariant.reached c.loop-terminal.invariant.greatest);
      reached = omega (arith, m);
      small = (let s = depth_small c.loop-terminal.depth c.terminal-item.result in omega (arith, s, e, c.loop-terminal.invariant.small));
    }

pub returns : goal.returns
returns c = depth_end c.args.terminals.now c.loop-terminal.terminal-index c.loop-terminal.depth c.loop-terminal.greatest (omega (arith, c.loop-terminal.auto, c.loop-terminal-test.false)) c.loop-terminal.invariant.reached c.loop-terminal.invariant.greatest
