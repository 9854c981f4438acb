use Rattle.std.proofs.Common.{◌≡◌, length}
use Rattle.vp_interval_tests.proofs.tests.boxes.Given as goal

abbrev pub invariant-loop-place : goal.invariant-loop-place
invariant-loop-place g l = length l.boxes ≡ 32
