use Rattle.vp_read.proofs.PieceSteps.{DeepFrom}
use Rattle.vp_read.proofs.pieces.first_deep.Given as goal

abbrev pub invariant-loop-i : goal.invariant-loop-i
invariant-loop-i l = DeepFrom l.pieces l.i
