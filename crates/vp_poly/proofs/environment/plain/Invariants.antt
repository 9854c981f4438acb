use Rattle.std.proofs.Common.{◌≡◌, map}
use Rattle.std.specs.List.{range_with_len}
use Rattle.vp_poly.specs.Canonical.{itself}
use Rattle.vp_poly.proofs.environment.plain.Given as goal

abbrev pub invariant-loop-place : goal.invariant-loop-place
invariant-loop-place l = l.env.items ≡ map itself (range_with_len 0 l.place)
