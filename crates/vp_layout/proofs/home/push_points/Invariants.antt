use Rattle.std.proofs.Common.{◌≡◌, ◌++◌}
use Rattle.vp_layout.specs.Homes.{point_homes}
use Rattle.vp_layout.proofs.home.push_points.Given as goal

abbrev pub invariant-loop-i : goal.invariant-loop-i
invariant-loop-i l = l.homes.items ≡ l.fn.homes.items ++ point_homes l.at l.i
