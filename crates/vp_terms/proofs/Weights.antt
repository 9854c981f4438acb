-- How many statements are left to run.
use Rattle.std.proofs.Common.{ℕ, ◌+◌}
use Rattle.vp_terms.specs.declared.prog.Prog.{Prog}
use Rattle.vp_terms.specs.declared.prog.Prog.TheVariants.{Skip, Assign, Any, Test, Choice', Seq', If'}
use Rattle.vp_terms.specs.declared.running.Rest.{Rest}
use Rattle.vp_terms.specs.declared.running.Rest.TheVariants.{End, Then'}

abbrev pub prog_weight : Prog → ℕ
prog_weight Skip = 1
prog_weight (Assign c e) = 1
prog_weight (Any c) = 1
prog_weight (Test f) = 1
prog_weight (Choice' l a r b) = prog_weight a + prog_weight b + 1
prog_weight (Seq' l a r b) = prog_weight a + prog_weight b + 1
prog_weight (If' f l a r b) = prog_weight a + prog_weight b + 1

abbrev pub rest_weight : Rest → ℕ
rest_weight End = 0
rest_weight (Then' b l r) = prog_weight b.now + rest_weight r
