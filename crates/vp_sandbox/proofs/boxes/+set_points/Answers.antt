use Rattle.std.proofs.Common.{refl}
use Rattle.vp_sandbox.proofs.Placing.{point_placed}
use Rattle.vp_sandbox.proofs.boxes.+set_points.Goals as goal

pub returns-in-len1-up-clause-boxes : goal.returns-in-len1-up-clause-boxes
returns-in-len1-up-clause-boxes t c =
    point_placed
    c.args.words.now
    c.word-item.result
    c.args.place
    c.point.result
    c.args.boxes.now
    c.set_points.new.boxes
    c.in-len1-up.len_at_least
    c.word-item.is
    (rw (c.point.ensures.lo, c.point.ensures.hi) refl)
    c.set_points.ensures.boxes
