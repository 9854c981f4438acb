use Rattle.std.proofs.Common.{◌+◌, ◌<◌, ℕ}
use Rattle.vp_terms.specs.Rational.{Equals}
use Rattle.vp_terms.specs.Evaluation.{value_in}
use Rattle.vp_terms.proofs.running.are_the_controls.Given as goal

abbrev pub invariant-loop-i : goal.invariant-loop-i
invariant-loop-i l = (k : ℕ) → k < l.i → Equals (value_in l.values (l.first + k)) (value_in l.after k)
