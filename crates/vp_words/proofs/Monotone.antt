-- Directed products are monotone where the other factor is at least 0.
use Rattle.std.proofs.Common.{◌≡◌, refl, inl, inr, Bool, true, false, if◌then◌else◌, ℤ, pos, negsuc, neg_ℤ, ◌≤ℤ◌, ◌<ℤ◌, ◌*ℤ◌, arith}
use Rattle.std.proofs.lemmas.Int.{ints}
use Rattle.vp_words.specs.Number.{IsWord, IsFinite, inf, infinity_of, rounded_down, lower_product, upper_product}
use Rattle.vp_words.proofs.Corners.{word_kinds, signs, zero_or_not, not_infinite, product_swap, minus_inf_up, inf_down}
use Rattle.vp_words.proofs.Duals.{upper_product_is}
use Rattle.vp_words.proofs.Products.{mul_pos_le}

-- a product is a word
word_cases : (p q : Bool) (z : ℤ) → IsWord (if p then pos 0 else (if q then infinity_of z else rounded_down z))
word_cases true q z = (omega (arith, ints), omega (arith, ints))
word_cases false true z = (grind (arith, ints), grind (arith, ints))
word_cases false false z = (grind (arith, ints), grind (arith, ints))

product_word : (a c : ℤ) → IsWord (lower_product a c)
product_word a c = word_cases _ _ (a *ℤ c)

inf_up : (c : ℤ) → pos 0 <ℤ c → lower_product inf c ≡ inf
inf_up c h = grind (arith, ints)

-- a product of finite numbers, zeros too
finite_is : (a c : ℤ) → IsFinite a → IsFinite c → lower_product a c ≡ rounded_down (a *ℤ c)
finite_is a c fa fc =
    elim (zero_or_not a) [
      | inl e ↦ rw e (let z : pos 0 *ℤ c ≡ pos 0 = omega (arith, ints) in rw z refl)
      | inr p ↦ elim (zero_or_not c) [
        | inl e ↦ rw e (rw p (let z : a *ℤ pos 0 ≡ pos 0 = omega (arith, ints) in rw z refl))
        | inr q ↦ rw (p, q, not_infinite a fa, not_infinite c fc) refl
      ]
    ]

rounded_order : (y z : ℤ) → y ≤ℤ z → rounded_down y ≤ℤ rounded_down z
rounded_order y z h = grind (arith, ints)

order_finite : (a b c : ℤ) → IsFinite a → IsFinite b → IsFinite c → a ≤ℤ b → pos 0 ≤ℤ c → lower_product a c ≤ℤ lower_product b c
order_finite a b (pos n) fa fb fc h k = rw (finite_is a (pos n) fa fc, finite_is b (pos n) fb fc) (rounded_order _ _ (mul_pos_le a b n h))
order_finite a b (negsuc n) fa fb fc h k = absurd (omega (arith, ints))

-- a factor that is `inf`
order_inf : (a b : ℤ) → a ≤ℤ b → lower_product inf a ≤ℤ lower_product inf b
order_inf a b h =
    elim (signs a) [
      | inl n ↦ rw (inf_down a n) ((product_word inf b).0)
      | inr r ↦ elim r [
        | inl z ↦ elim (signs b) [
          | inl n' ↦ absurd (omega (arith, ints))
          | inr r' ↦ elim r' [
            | inl z' ↦ rw (z, z') (omega (arith, ints))
            | inr p' ↦ rw (z, inf_up b p') (omega (arith, ints))
          ]
        ]
        | inr p ↦ let q : pos 0 <ℤ b = omega (arith, ints) in rw (inf_up b q) ((product_word inf a).1)
      ]
    ]

-- a factor above 0
order_above : (a b c : ℤ) → IsWord a → IsWord b → IsWord c → a ≤ℤ b → pos 0 <ℤ c → lower_product a c ≤ℤ lower_product b c
order_above a b c wa wb wc h k =
    elim (word_kinds c wc) [
      | inl i ↦ absurd (omega (arith, ints))
      | inr r ↦ elim r [
        | inl i ↦ rw (i, product_swap a inf, product_swap b inf) (order_inf a b h)
        | inr fc ↦ elim (word_kinds a wa) [
          | inl ia ↦ rw (ia, minus_inf_up c k) ((product_word b c).0)
          | inr ra ↦ elim (word_kinds b wb) [
            | inl ib ↦ absurd (elim ra [ inl ia ↦ omega (arith, ints) | inr fa ↦ omega (arith, ints) ])
            | inr rb ↦ elim rb [
              | inl ib ↦ rw (ib, inf_up c k) ((product_word a c).1)
              | inr fb ↦ elim ra [
                | inl ia ↦ absurd (omega (arith, ints))
                | inr fa ↦ order_finite a b c fa fb fc h (omega (arith, ints))
              ]
            ]
          ]
        ]
      ]
    ]

pub lower_order : (a b c : ℤ) → IsWord a → IsWord b → IsWord c → a ≤ℤ b → pos 0 ≤ℤ c → lower_product a c ≤ℤ lower_product b c
lower_order a b c wa wb wc h k =
    elim (signs c) [
      | inl n ↦ absurd (omega (arith, ints))
      | inr r ↦ elim r [
        | inl z ↦ rw (z, product_swap a (pos 0), product_swap b (pos 0)) (omega (arith, ints))
        | inr p ↦ order_above a b c wa wb wc h p
      ]
    ]

pub upper_order : (a b c : ℤ) → IsWord a → IsWord b → IsWord c → a ≤ℤ b → pos 0 ≤ℤ c → upper_product a c ≤ℤ upper_product b c
upper_order a b c wa wb wc h k =
    let low = lower_order (neg_ℤ b) (neg_ℤ a) c (omega (arith, ints), omega (arith, ints)) (omega (arith, ints), omega (arith, ints)) wc (omega (arith, ints)) k in
    rw (upper_product_is a c, upper_product_is b c) (omega (arith, ints))
