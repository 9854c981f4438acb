use Rattle.std.proofs.Common.{◌≡◌, ◌<◌, ◌^◌, slice_index}
use Rattle.vp_flow.specs.Matrix.{at}
use Rattle.vp_flow.specs.Sides.{greatest_where}
use Rattle.vp_flow.proofs.heights.greatest_used.Given as goal

abbrev pub invariant-loop-j : goal.invariant-loop-j
invariant-loop-j l = (l.greatest ≡ greatest_where l.j (at l.row) (slice_index l.heights)) × (l.greatest < 2 ^ 31)
