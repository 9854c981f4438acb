use Rattle.std.proofs.Common.{◌-◌, ◌^◌, sum}
use Rattle.vp_sandbox.specs.Sizes.{degrees}
use Rattle.vp_sandbox.proofs.Saturating.{Adds}
use Rattle.vp_sandbox.proofs.sizing.degrees_of_poly.Given as goal

abbrev pub invariant-loop-k : goal.invariant-loop-k
invariant-loop-k l = Adds (λ t. sum t.mono.powers) l.poly (2 ^ 64 - 1) (degrees l.poly) l.k l.all
