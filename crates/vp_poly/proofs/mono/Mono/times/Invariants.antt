use Rattle.std.proofs.Common.{◌≡◌, ◌+◌, ◌<◌, ◌≤◌, ℕ, length, get_or}
use Rattle.vp_poly.proofs.mono.Mono.times.Given as goal

abbrev pub invariant-loop-k : goal.invariant-loop-k
invariant-loop-k l =
    (length l.powers ≡ 32)
    × ((j : ℕ) → j < l.k → get_or l.powers j 0 ≡ get_or l.self.powers j 0 + get_or l.other.powers j 0)
    × ((j : ℕ) → l.k ≤ j → get_or l.powers j 0 ≡ get_or l.self.powers j 0)
