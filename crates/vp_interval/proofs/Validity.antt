-- Sums and products of valid ends are valid.
use Rattle.std.proofs.Common.{Bool, true, false, if◌then◌else◌, ℤ, pos, ◌*ℤ◌, arith}
use Rattle.std.proofs.lemmas.Int.{ints, clamps}
use Rattle.std.specs.Int.{int_min, int_max}
use Rattle.vp_words.specs.Number.{IsWord, infinity_of, rounded_down, rounded_up, lower_sum, upper_sum, lower_product, upper_product}
use Rattle.vp_words.proofs.Pairs.{sum_pair, product_pair}
use Rattle.vp_interval.specs.Rounding.{IsValid, Ends, sum, product}

lower_sum-word : (a b : ℤ) → IsWord (lower_sum a b)
lower_sum-word a b = (grind (arith, ints), grind (arith, ints))

upper_sum-word : (a b : ℤ) → IsWord (upper_sum a b)
upper_sum-word a b = (grind (arith, ints), grind (arith, ints))

lower_cases : (p q : Bool) (z : ℤ) → IsWord (if p then pos 0 else (if q then infinity_of z else rounded_down z))
lower_cases true q z = (omega (arith, ints), omega (arith, ints))
lower_cases false true z = (grind (arith, ints), grind (arith, ints))
lower_cases false false z = (grind (arith, ints), grind (arith, ints))

upper_cases : (p q : Bool) (z : ℤ) → IsWord (if p then pos 0 else (if q then infinity_of z else rounded_up z))
upper_cases true q z = (omega (arith, ints), omega (arith, ints))
upper_cases false true z = (grind (arith, ints), grind (arith, ints))
upper_cases false false z = (grind (arith, ints), grind (arith, ints))

pub lower_product-word : (a b : ℤ) → IsWord (lower_product a b)
lower_product-word a b = lower_cases _ _ (a *ℤ b)

pub upper_product-word : (a b : ℤ) → IsWord (upper_product a b)
upper_product-word a b = upper_cases _ _ (a *ℤ b)

least-word : (p q r s : ℤ) → IsWord p → IsWord q → IsWord r → IsWord s → IsWord (int_min (int_min p q) (int_min r s))
least-word p q r s hp hq hr hs = (omega (arith, ints, clamps), omega (arith, ints, clamps))

greatest-word : (p q r s : ℤ) → IsWord p → IsWord q → IsWord r → IsWord s → IsWord (int_max (int_max p q) (int_max r s))
greatest-word p q r s hp hq hr hs = (omega (arith, ints, clamps), omega (arith, ints, clamps))

pub valid_sum : (v w : Ends) → IsValid v.lo v.hi → IsValid w.lo w.hi → IsValid (sum v w).lo (sum v w).hi
valid_sum v w h k = record {
  low_word = lower_sum-word v.lo w.lo;
  high_word = upper_sum-word v.hi w.hi;
  enclosed = sum_pair v.lo v.hi w.lo w.hi h.low_word h.high_word k.low_word k.high_word h.enclosed k.enclosed;
}

pub valid_product : (v w : Ends) → IsValid v.lo v.hi → IsValid w.lo w.hi → IsValid (product v w).lo (product v w).hi
valid_product v w h k = record {
  low_word = least-word (lower_product v.lo w.lo) (lower_product v.lo w.hi) (lower_product v.hi w.lo) (lower_product v.hi w.hi)
      (lower_product-word v.lo w.lo) (lower_product-word v.lo w.hi) (lower_product-word v.hi w.lo) (lower_product-word v.hi w.hi);
  high_word = greatest-word (upper_product v.lo w.lo) (upper_product v.lo w.hi) (upper_product v.hi w.lo) (upper_product v.hi w.hi)
      (upper_product-word v.lo w.lo) (upper_product-word v.lo w.hi) (upper_product-word v.hi w.lo) (upper_product-word v.hi w.hi);
  enclosed = product_pair v.lo v.hi w.lo w.hi h.low_word h.high_word k.low_word k.high_word h.enclosed k.enclosed;
}
