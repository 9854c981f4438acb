-- Numbers of 64 bits with two infinities: what directed sums and products give.
use Rattle.std.specs.Prelude.{Bool, ◌||◌, ◌&&◌, ℤ, pos, neg_ℤ, ◌+ℤ◌, ◌*ℤ◌, ◌≤ℤ◌, int_lt, int_le, if◌then◌else◌}
use Rattle.std.specs.Int.{int_min, int_max}
use Rattle.std.specs.Ordering.{int_eq}

-- the greatest finite number, the least, and the infinities
abbrev pub greatest : ℤ
greatest = pos 9_223_372_036_854_775_806

abbrev pub least : ℤ
least = neg_ℤ greatest

abbrev pub inf : ℤ
inf = pos 9_223_372_036_854_775_807

abbrev pub minus_inf : ℤ
minus_inf = neg_ℤ inf

-- what a word holds
abbrev pub IsWord : ℤ → Type 0
IsWord z = (minus_inf ≤ℤ z) × (z ≤ℤ inf)

-- what a word holds that is no infinity
abbrev pub IsFinite : ℤ → Type 0
IsFinite z = (least ≤ℤ z) × (z ≤ℤ greatest)

abbrev pub is_finite : ℤ → Bool
is_finite z = int_le least z && int_le z greatest

-- an infinite number
abbrev pub is_infinite : ℤ → Bool
is_infinite a = int_eq a minus_inf || int_eq a inf

-- the infinity with the sign of z
abbrev pub infinity_of : ℤ → ℤ
infinity_of z = if int_lt z (pos 0) then minus_inf else inf

-- the greatest word at or below z, where `inf` is above each number
abbrev pub rounded_down : ℤ → ℤ
rounded_down z = if int_lt greatest z then greatest else (if int_lt z least then minus_inf else z)

-- the least word at or above z, where `-inf` is below each number
abbrev pub rounded_up : ℤ → ℤ
rounded_up z = if int_lt greatest z then inf else (if int_lt z least then least else z)

-- a sum that is a low end: `-inf` wins over `inf`
abbrev pub lower_sum : ℤ → ℤ → ℤ
lower_sum a b =
    if int_eq a minus_inf || int_eq b minus_inf then minus_inf
    else (if int_eq a inf || int_eq b inf then inf else rounded_down (a +ℤ b))

-- a sum that is a high end: `inf` wins over `-inf`
abbrev pub upper_sum : ℤ → ℤ → ℤ
upper_sum a b =
    if int_eq a inf || int_eq b inf then inf
    else (if int_eq a minus_inf || int_eq b minus_inf then minus_inf else rounded_up (a +ℤ b))

-- a product, rounded where both numbers are finite: 0 times an infinity is 0
abbrev pub directed_product : (ℤ → ℤ) → ℤ → ℤ → ℤ
directed_product rounded a b =
    if int_eq a (pos 0) || int_eq b (pos 0) then pos 0
    else (if is_infinite a || is_infinite b then infinity_of (a *ℤ b) else rounded (a *ℤ b))

-- a product that is a low end
abbrev pub lower_product : ℤ → ℤ → ℤ
lower_product a b = directed_product rounded_down a b

-- a product that is a high end
abbrev pub upper_product : ℤ → ℤ → ℤ
upper_product a b = directed_product rounded_up a b

-- the low end of the products of two pairs of ends, a to b and c to d
abbrev pub least_product : ℤ → ℤ → ℤ → ℤ → ℤ
least_product a b c d =
    int_min (int_min (lower_product a c) (lower_product a d)) (int_min (lower_product b c) (lower_product b d))

-- and their high end
abbrev pub greatest_product : ℤ → ℤ → ℤ → ℤ → ℤ
greatest_product a b c d =
    int_max (int_max (upper_product a c) (upper_product a d)) (int_max (upper_product b c) (upper_product b d))
