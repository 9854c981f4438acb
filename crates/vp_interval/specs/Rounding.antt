-- Pairs of ends, and sums, products and powers of them, rounded outward.
use Rattle.std.specs.Prelude.{◌==◌, ℕ, zero, suc, ◌-◌, ◌%◌, ℤ, pos, neg_ℤ, IsTrue, if◌then◌else◌}
use Rattle.std.specs.Int.{int_max}
use Rattle.vp_words.specs.Ends.{encloses}
use Rattle.vp_words.specs.Number.{IsWord, lower_sum, upper_sum, lower_product, upper_product, least_product, greatest_product}

-- what the ends of an interval are: two words, the low one at most the high one and not `inf`, the high one not `-inf`
pub record IsValid (lo hi : ℤ) : Type 0 where
  pub low_word : IsWord lo
  pub high_word : IsWord hi
  pub enclosed : IsTrue (encloses lo hi)

-- the two ends of an interval
pub record Ends : Type 0 where
  pub lo : ℤ
  pub hi : ℤ

-- a number as both ends
abbrev pub point : ℤ → Ends
point z = record { lo = z; hi = z }

-- low ends are added rounded down, high ends rounded up
abbrev pub sum : Ends → Ends → Ends
sum v w = record { lo = lower_sum v.lo w.lo; hi = upper_sum v.hi w.hi }

-- the least of the four products of ends that are rounded down, and the greatest of those rounded up
abbrev pub product : Ends → Ends → Ends
product v w = record { lo = least_product v.lo v.hi w.lo w.hi; hi = greatest_product v.lo v.hi w.lo w.hi }

-- a, with n further factors a from the left
abbrev pub multiplied : (ℤ → ℤ → ℤ) → ℤ → ℕ → ℤ
multiplied times a zero = a
multiplied times a (suc n) = times (multiplied times a n) a

-- the least size of a number between the ends
abbrev pub least_size : Ends → ℤ
least_size v = int_max (int_max v.lo (neg_ℤ v.hi)) (pos 0)

-- the greatest size of one
abbrev pub greatest_size : Ends → ℤ
greatest_size v = int_max (neg_ℤ v.lo) v.hi

-- an even power: k factors of the least size, and k of the greatest
abbrev pub even_power : Ends → ℕ → Ends
even_power v k = record {
  lo = multiplied lower_product (least_size v) (k - 1);
  hi = multiplied upper_product (greatest_size v) (k - 1);
}

-- the first power is the interval, and an odd power its product with the even one below
abbrev pub power : Ends → ℕ → Ends
power v k =
    if k == 1 then v
    else (if k % 2 == 0 then even_power v k else product v (even_power v (k - 1)))
