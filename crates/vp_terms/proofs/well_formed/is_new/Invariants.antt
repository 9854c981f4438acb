use Rattle.vp_terms.specs.WellFormed.{all_names}
use Rattle.std.specs.Prelude.{ℕ, ◌<◌, ◌≢◌, slice_get}
use Rattle.vp_terms.proofs.well_formed.is_new.Given as goal

abbrev pub invariant-loop-i : goal.invariant-loop-i
invariant-loop-i l = (k : ℕ) → k < l.i → slice_get (all_names l.names) k ≢ slice_get (all_names l.names) l.j
