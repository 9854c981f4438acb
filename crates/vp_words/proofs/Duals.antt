-- The high ends mirror the low ones.
use Rattle.std.proofs.Common.{◌≡◌, ◌≤◌, negsuc, unsigned_abs, false, ℕ, ◌*◌, ◌≢◌, Bool, true, if◌then◌else◌, ap, ℤ, pos, neg_ℤ, ◌+ℤ◌, ◌*ℤ◌, inl, inr, refl, arith}
use Rattle.std.proofs.lemmas.Int.{ints, unsigned_abs-mul}
use Rattle.std.proofs.Math.Nat.{one-le-mul}
use Rattle.vp_words.proofs.Corners.{zero_or_not}
use Rattle.std.specs.Ordering.{int_eq}
use borrow.Author.Differences.{up, down, neg_is}
use Rattle.vp_words.specs.Number.{lower_sum, upper_sum, lower_product, upper_product, rounded_down, rounded_up, is_infinite, infinity_of, inf, minus_inf}

neg_sum : (a b : ℤ) → neg_ℤ a +ℤ neg_ℤ b ≡ neg_ℤ (a +ℤ b)
neg_sum a b = omega (arith, ints)

pub neg_product : (a b : ℤ) → neg_ℤ a *ℤ b ≡ neg_ℤ (a *ℤ b)
neg_product a b =
    let n = neg_is a in
    omega (
      arith,
      ints,
      ap (λ (k : ℕ). k * up b) n.0,
      ap (λ (k : ℕ). k * down b) n.0,
      ap (λ (k : ℕ). k * up b) n.1,
      ap (λ (k : ℕ). k * down b) n.1,
    )

rounded_neg : (z : ℤ) → rounded_up z ≡ neg_ℤ (rounded_down (neg_ℤ z))
rounded_neg z = grind (arith, ints)

neg_is_inf : (a : ℤ) → int_eq (neg_ℤ a) minus_inf ≡ int_eq a inf
neg_is_inf a = grind (arith, ints)

neg_is_minus_inf : (a : ℤ) → int_eq (neg_ℤ a) inf ≡ int_eq a minus_inf
neg_is_minus_inf a = grind (arith, ints)

neg_is_zero : (a : ℤ) → int_eq (neg_ℤ a) (pos 0) ≡ int_eq a (pos 0)
neg_is_zero a = grind (arith, ints)

neg_is_infinite : (a : ℤ) → is_infinite (neg_ℤ a) ≡ is_infinite a
neg_is_infinite a = grind (arith, ints)

sum_cases : (p q : Bool) (z : ℤ) → (if p then inf else (if q then minus_inf else rounded_up z)) ≡ neg_ℤ (if p then minus_inf else (if q then inf else rounded_down (neg_ℤ z)))
sum_cases true q z = refl
sum_cases false true z = refl
sum_cases false false z = rounded_neg z

pub upper_sum_is : (a b : ℤ) → upper_sum a b ≡ neg_ℤ (lower_sum (neg_ℤ a) (neg_ℤ b))
upper_sum_is a b = rw (neg_is_inf, neg_is_inf b, neg_is_minus_inf, neg_is_minus_inf b, neg_sum) (sum_cases _ _ (a +ℤ b))

-- of a product that is not 0
infinity_neg : (z : ℤ) → z ≢ pos 0 → infinity_of z ≡ neg_ℤ (infinity_of (neg_ℤ z))
infinity_neg z h = grind (arith, ints)

sized : (a : ℤ) → int_eq a (pos 0) ≡ false → 1 ≤ unsigned_abs a
sized (pos n) h = grind (arith, ints)
sized (negsuc n) h = omega arith

nonzero : (a b : ℤ) → int_eq a (pos 0) ≡ false → int_eq b (pos 0) ≡ false → a *ℤ b ≢ pos 0
nonzero a b p q e = let z : unsigned_abs (a *ℤ b) ≡ 0 = ap unsigned_abs e in absurd (omega (arith, one-le-mul (sized a p) (sized b q), unsigned_abs-mul a b))

product_cases : (p : Bool) (z : ℤ) → z ≢ pos 0 → (if p then infinity_of z else rounded_up z) ≡ neg_ℤ (if p then infinity_of (neg_ℤ z) else rounded_down (neg_ℤ z))
product_cases true z h = infinity_neg z h
product_cases false z h = rounded_neg z

pub upper_product_is : (a b : ℤ) → upper_product a b ≡ neg_ℤ (lower_product (neg_ℤ a) b)
upper_product_is a b =
    elim (zero_or_not a) [
      | inl e ↦ rw e refl
      | inr p ↦ elim (zero_or_not b) [
        | inl e ↦ rw (e, neg_is_zero, p) refl
        | inr q ↦ rw (neg_is_zero, p, q, neg_is_infinite, neg_product) (product_cases _ (a *ℤ b) (nonzero a b p q))
      ]
    ]
