use Rattle.vp_poly.specs.Places.{HaveOnly}
use Rattle.vp_sandbox.specs.Scope.{allows}
use Rattle.vp_sandbox.proofs.Passing.{Left}
use Rattle.vp_sandbox.proofs.fit.have_only.Given as goal

abbrev pub invariant-loop-k : goal.invariant-loop-k
invariant-loop-k l = Left (HaveOnly (allows l.scope)) l.poly l.k
