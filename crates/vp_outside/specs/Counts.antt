-- Counts that a `u64` holds, which stay at its last value.
use Rattle.std.specs.Prelude.{ℕ, ◌+◌, ◌-◌, ◌^◌, ◌<◌, min}
use Rattle.std.proofs.Math.Nat.{min-le_right, lt_of_le_of_lt, lt-suc_self}

-- a count after one more: it stays at its last value
abbrev pub next_count : ℕ → ℕ
next_count count = min (count + 1) (2 ^ 64 - 1)

-- a number as a `u64` holds it, which is the number itself for each `u64`
abbrev pub held_count : ℕ → ℕ
held_count count = min count (2 ^ 64 - 1)

-- a held count is a `u64`'s
pub held_count-bounded : (count : ℕ) → held_count count < 2 ^ 64
held_count-bounded count = lt_of_le_of_lt (min-le_right count (2 ^ 64 - 1)) (lt-suc_self (2 ^ 64 - 1))
