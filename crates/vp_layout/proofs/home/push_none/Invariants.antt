use Rattle.std.proofs.Common.{◌≡◌, ◌++◌, replicate}
use Rattle.vp_layout.proofs.home.push_none.Given as goal

abbrev pub invariant-loop : goal.invariant-loop
invariant-loop l = l.homes.items ≡ l.fn.homes.items ++ replicate l.counter (record { lo = 64; hi = 64 })
