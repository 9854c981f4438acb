use Rattle.std.proofs.Common.{◌+◌, ◌-◌, ◌^◌, map, sum_by}
use Rattle.vp_logic.specs.Tree.{tree}
use Rattle.vp_sandbox.specs.Sizes.{form_size}
use Rattle.vp_sandbox.proofs.Saturating.{Adds}
use Rattle.vp_sandbox.proofs.sizing.size_of_forms.Given as goal

abbrev pub invariant-loop-norm : goal.invariant-loop-norm
invariant-loop-norm l = Adds (λ t. form_size t + 8) (map tree l.norms) (2 ^ 64 - 1) (sum_by (λ t. form_size t + 8) (map tree l.norms)) l.norm-index l.size
