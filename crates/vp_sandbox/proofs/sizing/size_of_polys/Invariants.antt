use Rattle.std.proofs.Common.{◌+◌, ◌-◌, ◌^◌, sum_by}
use Rattle.vp_sandbox.specs.Sizes.{poly_size}
use Rattle.vp_sandbox.proofs.Saturating.{Adds}
use Rattle.vp_sandbox.proofs.sizing.size_of_polys.Given as goal

abbrev pub invariant-loop-poly : goal.invariant-loop-poly
invariant-loop-poly l = Adds (λ p. poly_size p + 6) l.polys (2 ^ 64 - 1) (sum_by (λ p. poly_size p + 6) l.polys) l.poly-index l.size
