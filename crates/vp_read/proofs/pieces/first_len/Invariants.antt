use Rattle.std.proofs.Common.{◌≤◌}
use Rattle.vp_read.proofs.PieceSteps.{IsBegun}
use Rattle.vp_read.proofs.pieces.first_len.Given as goal

abbrev pub invariant-loop-i : goal.invariant-loop-i
invariant-loop-i l = record { begun : IsBegun l.terminals l.i l.depth; small : l.depth ≤ l.i }
