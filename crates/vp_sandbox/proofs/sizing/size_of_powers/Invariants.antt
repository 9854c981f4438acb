use Rattle.std.proofs.Common.{◌-◌, ◌^◌, sum_by}
use Rattle.vp_sandbox.specs.Sizes.{power_size}
use Rattle.vp_sandbox.proofs.Saturating.{Adds}
use Rattle.vp_sandbox.proofs.sizing.size_of_powers.Given as goal

abbrev pub invariant-loop-power : goal.invariant-loop-power
invariant-loop-power l = Adds power_size l.powers (2 ^ 64 - 1) (sum_by power_size l.powers) l.power-index l.size
