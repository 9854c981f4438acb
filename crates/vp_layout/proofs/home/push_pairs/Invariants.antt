use Rattle.std.proofs.Common.{◌≡◌, ◌++◌}
use Rattle.vp_layout.specs.Homes.{pair_homes}
use Rattle.vp_layout.proofs.home.push_pairs.Given as goal

abbrev pub invariant-loop-i : goal.invariant-loop-i
invariant-loop-i l = l.homes.items ≡ l.fn.homes.items ++ pair_homes l.at l.i
