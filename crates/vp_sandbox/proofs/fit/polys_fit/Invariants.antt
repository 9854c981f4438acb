use Rattle.vp_sandbox.specs.Fits.{PolysFit}
use Rattle.vp_sandbox.specs.Scope.{allows}
use Rattle.vp_sandbox.proofs.Passing.{Left}
use Rattle.vp_sandbox.proofs.fit.polys_fit.Given as goal

abbrev pub invariant-loop-poly : goal.invariant-loop-poly
invariant-loop-poly l = Left (PolysFit (allows l.scope)) l.polys l.poly-index
