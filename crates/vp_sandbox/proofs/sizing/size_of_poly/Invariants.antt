use Rattle.std.proofs.Common.{◌+◌, ◌-◌, ◌^◌}
use Rattle.vp_sandbox.specs.Sizes.{poly_size, term_size}
use Rattle.vp_sandbox.proofs.Saturating.{Adds}
use Rattle.vp_sandbox.proofs.sizing.size_of_poly.Given as goal

abbrev pub invariant-loop-k : goal.invariant-loop-k
invariant-loop-k l = Adds (λ t. term_size t + 2) l.poly (2 ^ 64 - 1) (poly_size l.poly) l.k l.size
