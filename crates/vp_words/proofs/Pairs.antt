-- Sums and products of valid pairs of ends are valid pairs.
use Rattle.std.proofs.Common.{◌≡◌, ◌≢◌, ◌⊎◌, inl, inr, Bool, true, false, if◌then◌else◌, ℤ, pos, neg_ℤ, ◌≤ℤ◌, ◌*ℤ◌, IsTrue, sym, ◌∙◌, arith, rules}
use Rattle.std.proofs.lemmas.Int.{ints, clamps}
use Rattle.std.specs.Int.{int_max}
use Rattle.vp_words.specs.Ends.{encloses}
use Rattle.vp_words.specs.Number.{IsWord, IsFinite, inf, minus_inf, infinity_of, rounded_down, rounded_up, lower_sum, upper_sum, lower_product, upper_product, least_product, greatest_product}
use Rattle.vp_words.proofs.Corners.{word_kinds, signs, zero_or_not, not_infinite, product_swap, minus_inf_up, inf_down}
use Rattle.vp_words.proofs.Enclosure.{least_of_four, greatest_product_is}

-- a valid pair, taken apart and made
pub pair_parts : (a b : ℤ) → IsTrue (encloses a b) → (a ≤ℤ b) × (a ≢ inf) × (b ≢ minus_inf)
pair_parts a b h = (grind (arith, ints), λ e. grind (arith, ints), λ e. grind (arith, ints))

pair_made : (a b : ℤ) → a ≤ℤ b → a ≢ inf → b ≢ minus_inf → IsTrue (encloses a b)
pair_made a b h p q = grind (arith, ints)

-- sums
sum_left : (a b c : ℤ) → IsWord a → IsWord b → IsWord c → a ≤ℤ b → lower_sum a c ≤ℤ lower_sum b c
sum_left a b c wa wb wc h = search rules

sum_right : (b c d : ℤ) → IsWord b → IsWord c → IsWord d → c ≤ℤ d → lower_sum b c ≤ℤ lower_sum b d
sum_right b c d wb wc wd h = search rules

sum_both : (b d : ℤ) → IsWord b → IsWord d → lower_sum b d ≤ℤ upper_sum b d
sum_both b d wb wd = grind (arith, ints)

sum_order : (a b c d : ℤ) → IsWord a → IsWord b → IsWord c → IsWord d → a ≤ℤ b → c ≤ℤ d → lower_sum a c ≤ℤ upper_sum b d
sum_order a b c d wa wb wc wd h k =
    let p = sum_left a b c wa wb wc h in
    let q = sum_right b c d wb wc wd k in
    let r = sum_both b d wb wd in
    omega (arith, ints)

low_sum_apart : (a c : ℤ) → a ≢ inf → c ≢ inf → lower_sum a c ≢ inf
low_sum_apart a c p q e = grind (arith, ints)

high_sum_apart : (b d : ℤ) → b ≢ minus_inf → d ≢ minus_inf → upper_sum b d ≢ minus_inf
high_sum_apart b d p q e = grind (arith, ints)

pub sum_pair : (a b c d : ℤ) → IsWord a → IsWord b → IsWord c → IsWord d → IsTrue (encloses a b) → IsTrue (encloses c d) → IsTrue (encloses (lower_sum a c) (upper_sum b d))
sum_pair a b c d wa wb wc wd h k =
    let p = pair_parts a b h in
    let q = pair_parts c d k in
    pair_made (lower_sum a c) (upper_sum b d) (sum_order a b c d wa wb wc wd p.0 q.0) (low_sum_apart a c p.1 q.1) (high_sum_apart b d p.2 q.2)

-- a low product is at most the high one
product_order_cases : (p q : Bool) (z : ℤ) → (if p then pos 0 else (if q then infinity_of z else rounded_down z)) ≤ℤ (if p then pos 0 else (if q then infinity_of z else rounded_up z))
product_order_cases true q z = omega (arith, ints)
product_order_cases false true z = omega (arith, ints)
product_order_cases false false z = grind (arith, ints)

product_order : (a c : ℤ) → lower_product a c ≤ℤ upper_product a c
product_order a c = product_order_cases _ _ (a *ℤ c)

greatest_of_four : (p q r s : ℤ) → p ≤ℤ int_max (int_max p q) (int_max r s)
greatest_of_four p q r s = omega (arith, ints, clamps)

products_order : (a b c d : ℤ) → least_product a b c d ≤ℤ greatest_product a b c d
products_order a b c d =
    let low = least_of_four (lower_product a c) (lower_product a d) (lower_product b c) (lower_product b d) in
    let l = low.0 in
    let m = product_order a c in
    let h = greatest_of_four (upper_product a c) (upper_product a d) (upper_product b c) (upper_product b d) in
    omega (arith, ints)

-- no product of finite numbers is `inf`
below_inf : (z : ℤ) → ¬ (inf ≤ℤ rounded_down z)
below_inf z h = grind (arith, ints)

finite_apart : (a c : ℤ) → IsFinite a → IsFinite c → ¬ (inf ≤ℤ lower_product a c)
finite_apart a c fa fc h =
    elim (zero_or_not a) [
      | inl e ↦ let k : inf ≤ℤ pos 0 = rw e at h in absurd (omega (arith, ints))
      | inr p ↦ elim (zero_or_not c) [
        | inl e ↦ let k : inf ≤ℤ pos 0 = rw p at (rw e at h) in absurd (omega (arith, ints))
        | inr q ↦ below_inf (a *ℤ c) (rw (p, q, not_infinite a fa, not_infinite c fc) at h)
      ]
    ]

-- nor are both products with the infinities
one_apart : (c : ℤ) → inf ≤ℤ lower_product minus_inf c → ¬ (inf ≤ℤ lower_product inf c)
one_apart c h k =
    elim (signs c) [
      | inl n ↦ let no : inf ≤ℤ minus_inf = rw (inf_down c n) at k in absurd (omega (arith, ints))
      | inr r ↦ elim r [
        | inl z ↦ let no : inf ≤ℤ pos 0 = rw z at k in absurd (omega (arith, ints))
        | inr p ↦ let no : inf ≤ℤ minus_inf = rw (minus_inf_up c p) at h in absurd (omega (arith, ints))
      ]
    ]

-- where an end of a pair is finite, and where none is
finite_end : (a b : ℤ) → IsWord a → IsWord b → a ≢ inf → b ≢ minus_inf → IsFinite a ⊎ (IsFinite b ⊎ ((a ≡ minus_inf) × (b ≡ inf)))
finite_end a b wa wb p q =
    elim (word_kinds a wa) [
      | inl k ↦ elim (word_kinds b wb) [
        | inl k' ↦ absurd (q k')
        | inr k' ↦ elim k' [ inl i ↦ inr (inr (k, i)) | inr f ↦ inr (inl f) ]
      ]
      | inr k ↦ elim k [ inl i ↦ absurd (p i) | inr f ↦ inl f ]
    ]

not_all : (a b c d : ℤ) → IsWord a → IsWord b → IsWord c → IsWord d → a ≢ inf → b ≢ minus_inf → c ≢ inf → d ≢ minus_inf →
    inf ≤ℤ lower_product a c → inf ≤ℤ lower_product a d → inf ≤ℤ lower_product b c → ¬ (inf ≤ℤ lower_product b d)
not_all a b c d wa wb wc wd na nb nc nd ac ad bc bd =
    elim (finite_end a b wa wb na nb) [
      | inl fa ↦ elim (finite_end c d wc wd nc nd) [
        | inl fc ↦ finite_apart a c fa fc ac
        | inr r ↦ elim r [
          | inl fd ↦ finite_apart a d fa fd ad
          | inr i ↦ one_apart a (rw i.0 at (rw (product_swap a c) at ac)) (rw i.1 at (rw (product_swap a d) at ad))
        ]
      ]
      | inr s ↦ elim s [
        | inl fb ↦ elim (finite_end c d wc wd nc nd) [
          | inl fc ↦ finite_apart b c fb fc bc
          | inr r ↦ elim r [
            | inl fd ↦ finite_apart b d fb fd bd
            | inr i ↦ one_apart b (rw i.0 at (rw (product_swap b c) at bc)) (rw i.1 at (rw (product_swap b d) at bd))
          ]
        ]
        | inr i ↦ one_apart c (rw i.0 at ac) (rw i.1 at bc)
      ]
    ]

low_product_apart : (a b c d : ℤ) → IsWord a → IsWord b → IsWord c → IsWord d → a ≢ inf → b ≢ minus_inf → c ≢ inf → d ≢ minus_inf → least_product a b c d ≢ inf
low_product_apart a b c d wa wb wc wd na nb nc nd e =
    let low = least_of_four (lower_product a c) (lower_product a d) (lower_product b c) (lower_product b d) in
    not_all a b c d wa wb wc wd na nb nc nd (rw e at low.0) (rw e at low.1) (rw e at low.2) (rw e at low.3)

high_product_apart : (a b c d : ℤ) → IsWord a → IsWord b → IsWord c → IsWord d → a ≢ inf → b ≢ minus_inf → c ≢ inf → d ≢ minus_inf → greatest_product a b c d ≢ minus_inf
high_product_apart a b c d wa wb wc wd na nb nc nd e =
    let m = greatest_product_is a b c d in
    low_product_apart (neg_ℤ b) (neg_ℤ a) c d (omega (arith, ints), omega (arith, ints)) (omega (arith, ints), omega (arith, ints)) wc wd
    (λ i. nb (omega (arith, ints))) (λ i. na (omega (arith, ints))) nc nd
    (let k : neg_ℤ (least_product (neg_ℤ b) (neg_ℤ a) c d) ≡ minus_inf = sym m ∙ e in omega (arith, ints))

pub product_pair : (a b c d : ℤ) → IsWord a → IsWord b → IsWord c → IsWord d → IsTrue (encloses a b) → IsTrue (encloses c d) → IsTrue (encloses (least_product a b c d) (greatest_product a b c d))
product_pair a b c d wa wb wc wd h k =
    let p = pair_parts a b h in
    let q = pair_parts c d k in
    pair_made (least_product a b c d) (greatest_product a b c d) (products_order a b c d)
    (low_product_apart a b c d wa wb wc wd p.1 p.2 q.1 q.2)
    (high_product_apart a b c d wa wb wc wd p.1 p.2 q.1 q.2)
