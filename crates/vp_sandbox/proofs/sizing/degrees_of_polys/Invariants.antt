use Rattle.std.proofs.Common.{◌-◌, ◌^◌, sum_by}
use Rattle.vp_sandbox.specs.Sizes.{degrees}
use Rattle.vp_sandbox.proofs.Saturating.{Adds}
use Rattle.vp_sandbox.proofs.sizing.degrees_of_polys.Given as goal

abbrev pub invariant-loop-poly : goal.invariant-loop-poly
invariant-loop-poly l = Adds (degrees) l.polys (2 ^ 64 - 1) (sum_by degrees l.polys) l.poly-index l.all
