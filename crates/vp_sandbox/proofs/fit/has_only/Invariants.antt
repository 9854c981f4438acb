use Rattle.std.proofs.Common.{◌≡◌, ℕ, ◌<◌, false, slice_index}
use Rattle.vp_sandbox.specs.Scope.{allows}
use Rattle.vp_sandbox.proofs.fit.has_only.Given as goal

abbrev pub invariant-loop-place : goal.invariant-loop-place
invariant-loop-place l = (k : ℕ) → k < l.place → allows l.scope k ≡ false → slice_index l.powers k ≡ 0
