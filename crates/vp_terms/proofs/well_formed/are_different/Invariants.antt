use Rattle.vp_terms.specs.WellFormed.{all_names, IsNewName}
use Rattle.std.specs.Prelude.{ℕ, ◌<◌}
use Rattle.vp_terms.proofs.well_formed.are_different.Given as goal

abbrev pub invariant-loop-j : goal.invariant-loop-j
invariant-loop-j l = (k : ℕ) → k < l.j → IsNewName (all_names l.names) k
