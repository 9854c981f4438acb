use Rattle.std.proofs.Common.{length}
use Rattle.vp_sandbox.proofs.boxes.+set_points.Given as goal

abbrev pub decreases-set_points : goal.decreases-set_points
decreases-set_points l = length l.words.now
