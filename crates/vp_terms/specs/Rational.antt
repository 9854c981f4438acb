-- Rational numbers: a whole number over a denominator of at least 1. All goes by cross multiplication.
use Rattle.std.specs.Prelude.{◌≡◌, ℕ, zero, suc, ◌*◌, ◌<◌, ℤ, pos, negsuc, ◌+ℤ◌, ◌-ℤ◌, ◌*ℤ◌, ◌<ℤ◌, unsigned_abs}
use Rattle.std.specs.Int.Signed.{<ℤ_irrefl}
use Rattle.std.proofs.Math.Nat.{mul-pos, zero-lt-suc}

-- a rational number
pub record Rational : Type 0 where
  pub num : ℤ
  pub den : ℕ
  pub positive : 0 < den

pub size_positive : (z : ℤ) → pos 0 <ℤ z → 0 < unsigned_abs z
size_positive (pos zero) h = absurd (<ℤ_irrefl h)
size_positive (pos (suc n)) h = zero-lt-suc n
size_positive (negsuc n) h = zero-lt-suc n

-- a whole number over a positive one
abbrev pub fraction : (n d : ℤ) → pos 0 <ℤ d → Rational
fraction n d h = record { num = n; den = unsigned_abs d; positive = size_positive d h }

-- a whole number
abbrev pub whole : ℤ → Rational
whole n = record { num = n; den = 1; positive = zero-lt-suc zero }

-- a/b + c/d is (ad + cb) / bd
abbrev pub sum : Rational → Rational → Rational
sum q r = record { num = q.num *ℤ pos r.den +ℤ r.num *ℤ pos q.den; den = q.den * r.den; positive = mul-pos q.positive r.positive }

-- a/b - c/d is (ad - cb) / bd
abbrev pub difference : Rational → Rational → Rational
difference q r = record { num = q.num *ℤ pos r.den -ℤ r.num *ℤ pos q.den; den = q.den * r.den; positive = mul-pos q.positive r.positive }

-- a/b times c/d is ac / bd
abbrev pub product : Rational → Rational → Rational
product q r = record { num = q.num *ℤ r.num; den = q.den * r.den; positive = mul-pos q.positive r.positive }

-- the repeated product; the power 0 is 1
abbrev pub power : Rational → ℕ → Rational
power q zero = whole (pos 1)
power q (suc n) = product q (power q n)

-- a/b is c/d where ad is cb
pub record Equals (q r : Rational) : Type 0 where
  pub crossed : q.num *ℤ pos r.den ≡ r.num *ℤ pos q.den
