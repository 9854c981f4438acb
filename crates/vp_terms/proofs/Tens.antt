-- Powers of ten and the bound 2^62.
use Rattle.std.proofs.Common.{ℕ, ◌^◌, ◌<◌, ◌≤◌, arith}
use Rattle.std.proofs.Math.Nat.{pow-le-pow_right}

pub ten_small : (e : ℕ) → e ≤ 18 → 10 ^ e < 2 ^ 62
ten_small e h = let p = pow-le-pow_right {n = 10} (omega arith) {i = e} {j = 18} h in omega arith

pub ten_large : (e : ℕ) → 18 < e → 2 ^ 62 ≤ 10 ^ e
ten_large e h = let p = pow-le-pow_right {n = 10} (omega arith) {i = 19} {j = e} (omega arith) in omega arith

pub ruleset tens = (ten_small, ten_large)
