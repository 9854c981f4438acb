use Rattle.std.proofs.Common.{◌≢◌, ◌<◌, ℕ, Some, slice_get}
use Rattle.vp_monitor.proofs.making.number_of.Given as goal

abbrev pub invariant-loop-k : goal.invariant-loop-k
invariant-loop-k l = (j : ℕ) → j < l.k → slice_get l.names j ≢ Some l.name
