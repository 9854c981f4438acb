-- Fractions in lowest terms.
use Rattle.std.specs.Prelude.{ℕ, ◌<◌, ◌^◌, ℤ, pos, negsuc, neg_ℤ, ◌<ℤ◌, unsigned_abs}
use Rattle.std.specs.Int.{IsGcd}

-- both parts are below 2^62 in size, the denominator is at least 1, and only 1 divides both
pub record IsLowest (num den : ℤ) : Type 0 where
  pub positive : pos 0 <ℤ den
  pub num_small : unsigned_abs num < 2 ^ 62
  pub den_small : unsigned_abs den < 2 ^ 62
  pub coprime : IsGcd (unsigned_abs num) (unsigned_abs den) 1

-- the number of this size with the sign of z; 0 counts as positive
abbrev pub with_sign_of : ℤ → ℕ → ℤ
with_sign_of (pos m) n = pos n
with_sign_of (negsuc m) n = neg_ℤ (pos n)
