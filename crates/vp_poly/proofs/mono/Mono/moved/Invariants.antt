use Rattle.std.proofs.Common.{◌≡◌, ◌<◌, ℕ, length, get_or}
use Rattle.vp_poly.proofs.mono.Mono.moved.Given as goal

abbrev pub invariant-loop-k : goal.invariant-loop-k
invariant-loop-k l =
    (length l.powers ≡ 32)
    × ((j : ℕ) → j < l.k → get_or l.powers (get_or l.to j 0) 0 ≡ get_or l.self.powers j 0)
