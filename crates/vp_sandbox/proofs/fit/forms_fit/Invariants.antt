use Rattle.std.proofs.Common.{map}
use Rattle.vp_logic.specs.Tree.{tree}
use Rattle.vp_sandbox.specs.Fits.{EachFits}
use Rattle.vp_sandbox.specs.Scope.{allows}
use Rattle.vp_sandbox.proofs.Passing.{Left}
use Rattle.vp_sandbox.proofs.fit.forms_fit.Given as goal

abbrev pub invariant-loop-norm : goal.invariant-loop-norm
invariant-loop-norm l = Left (EachFits (allows l.scope)) (map tree l.norms) l.norm-index
