-- Sizes of the parts of fractions and of their products.
use Rattle.std.proofs.Common.{◌≡◌, ℕ, zero, suc, ◌-◌, ◌*◌, ◌^◌, ◌<◌, ◌≤◌, ℤ, pos, negsuc, ◌*ℤ◌, ◌<ℤ◌, unsigned_abs, arith}
use Rattle.std.proofs.lemmas.Int.{ints, unsigned_abs-mul, fits_signed_from_abs}
use Rattle.std.proofs.Math.Nat.{mul-le-mul}
use Rattle.std.specs.Prelude.{FitsSigned}
use Rattle.std.specs.Int.{w128}
use Rattle.vp_terms.specs.declared.ratio.Ratio.{Ratio}

below_product : (m n : ℕ) → m < 2 ^ 62 → n < 2 ^ 62 → m * n < 2 ^ 124
below_product m n h k =
    let p : m ≤ 2 ^ 62 - 1 = omega arith in
    let q : n ≤ 2 ^ 62 - 1 = omega arith in
    let r = mul-le-mul p q in
    omega arith

pub product_small : (a b : ℤ) → unsigned_abs a < 2 ^ 62 → unsigned_abs b < 2 ^ 62 → unsigned_abs (a *ℤ b) < 2 ^ 124
product_small a b h k = rw (unsigned_abs-mul a b) (below_product (unsigned_abs a) (unsigned_abs b) h k)

pub product_fits : (a b : ℤ) → unsigned_abs a < 2 ^ 62 → unsigned_abs b < 2 ^ 62 → FitsSigned w128 (a *ℤ b)
product_fits a b h k = let p = product_small a b h k in fits_signed_from_abs w128 (a *ℤ b) (omega arith)

pub num_fits : (r : Ratio) → FitsSigned w128 r.num
num_fits r = let p = r.lowest.num_small in fits_signed_from_abs w128 r.num (omega arith)

pub den_fits : (r : Ratio) → FitsSigned w128 r.den
den_fits r = let p = r.lowest.den_small in fits_signed_from_abs w128 r.den (omega arith)

-- the product of two positive numbers is positive
pub product_positive : (a b : ℤ) → pos 0 <ℤ a → pos 0 <ℤ b → pos 0 <ℤ (a *ℤ b)
product_positive (pos (suc m)) (pos (suc n)) h k = omega (arith, ints)
product_positive (pos zero) b h k = absurd (omega (arith, ints))
product_positive (negsuc m) b h k = absurd (omega (arith, ints))
product_positive a (pos zero) h k = absurd (omega (arith, ints))
product_positive a (negsuc n) h k = absurd (omega (arith, ints))

-- a positive number is its size
pub size_is : (z : ℤ) → pos 0 <ℤ z → pos (unsigned_abs z) ≡ z
size_is z h = omega (arith, ints)
