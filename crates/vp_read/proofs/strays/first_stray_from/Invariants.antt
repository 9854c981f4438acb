use Rattle.vp_read.proofs.StraySteps.{PiecesFrom}
use Rattle.vp_read.proofs.strays.first_stray_from.Given as goal

abbrev pub invariant-loop-i : goal.invariant-loop-i
invariant-loop-i l = PiecesFrom l.places l.pieces l.i
