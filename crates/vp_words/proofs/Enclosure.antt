-- A product of fractions lies between the ends of the product of their intervals.
use Rattle.std.proofs.Common.{◌≡◌, ◌≢◌, ℕ, ◌+◌, ◌*◌, ◌≤◌, inl, inr, ℤ, pos, negsuc, neg_ℤ, ◌*ℤ◌, ◌≤ℤ◌, refl, arith, unsigned_abs}
use Rattle.std.proofs.lemmas.Int.{ints, clamps}
use Rattle.std.specs.Int.{int_min, int_max}
use Rattle.vp_words.specs.Ends.{IsBetween, IsFractionLowEnd, IsFractionHighEnd, IsFractionBetween}
use Rattle.vp_words.specs.Number.{IsWord, inf, minus_inf, lower_product, least_product, greatest_product}
use Rattle.vp_words.proofs.Products.{product_ge}
use Rattle.vp_words.proofs.Corners.{corner, StandsFor, word_kinds}
use Rattle.vp_words.proofs.Duals.{neg_product, upper_product_is}

low_stand : (a n : ℤ) (d far : ℕ) → IsWord a → a ≢ inf → IsFractionLowEnd a n d → (x : ℤ) × (x ≤ℤ n) × StandsFor far d a x
low_stand a n d far w apart h =
    elim (word_kinds a w) [
      | inl k ↦ (int_min n (neg_ℤ (pos far)), omega (arith, ints, clamps), (λ f. absurd (omega (arith, ints)), λ _. omega (arith, ints, clamps), λ i. absurd (apart i)))
      | inr k ↦ elim k [
        | inl i ↦ absurd (apart i)
        | inr f ↦ (a *ℤ pos d, h f, (λ _. refl, λ k. absurd (omega (arith, ints)), λ i. absurd (apart i)))
      ]
    ]

high_stand : (b n : ℤ) (d far : ℕ) → IsWord b → b ≢ minus_inf → IsFractionHighEnd b n d → (x : ℤ) × (n ≤ℤ x) × StandsFor far d b x
high_stand b n d far w apart h =
    elim (word_kinds b w) [
      | inl k ↦ absurd (apart k)
      | inr k ↦ elim k [
        | inl i ↦ (int_max n (pos far), omega (arith, ints, clamps), (λ f. absurd (omega (arith, ints)), λ k. absurd (apart k), λ _. omega (arith, ints, clamps)))
        | inr f ↦ (b *ℤ pos d, h f, (λ _. refl, λ k. absurd (apart k), λ i. absurd (omega (arith, ints))))
      ]
    ]

reach : (m : ℤ) (k : ℕ) → (m *ℤ pos k) ≤ℤ pos (unsigned_abs m * k + 1)
reach (pos n) k = omega (arith, ints)
reach (negsuc n) k = omega (arith, ints)

pub least_of_four : (p q r s : ℤ) → let m = int_min (int_min p q) (int_min r s) in (m ≤ℤ p) × (m ≤ℤ q) × (m ≤ℤ r) × (m ≤ℤ s)
least_of_four p q r s = (omega (arith, ints, clamps), omega (arith, ints, clamps), omega (arith, ints, clamps), omega (arith, ints, clamps))

pub product_low_end : (u v : ℤ) (e f : ℕ) (a b c d : ℤ) → 1 ≤ e → 1 ≤ f → IsWord a → IsWord b → IsWord c → IsWord d → a ≢ inf → b ≢ minus_inf → c ≢ inf → d ≢ minus_inf →
    IsFractionLowEnd a u e → IsFractionHighEnd b u e → IsFractionLowEnd c v f → IsFractionHighEnd d v f → IsFractionLowEnd (least_product a b c d) (u *ℤ v) (e * f)
product_low_end u v e f a b c d he hf wa wb wc wd na nb nc nd ua ub vc vd fm =
    let m = least_product a b c d in
    let far = unsigned_abs m * (e * f) + 1 in
    let room = reach m (e * f) in
    let sa = low_stand a u e far wa na ua in
    let sb = high_stand b u e far wb nb ub in
    let sc = low_stand c v f far wc nc vc in
    let sd = high_stand d v f far wd nd vd in
    let least = least_of_four (lower_product a c) (lower_product a d) (lower_product b c) (lower_product b d) in
    let f1 : 1 ≤ far = omega arith in
    product_ge (m *ℤ pos (e * f)) sa.0 sb.0 sc.0 sd.0 u v sa.1 sb.1 sc.1 sd.1
    (corner m a c sa.0 sc.0 e f far fm wa wc least.0 he hf f1 room sa.2 sc.2)
    (corner m a d sa.0 sd.0 e f far fm wa wd least.1 he hf f1 room sa.2 sd.2)
    (corner m b c sb.0 sc.0 e f far fm wb wc least.2 he hf f1 room sb.2 sc.2)
    (corner m b d sb.0 sd.0 e f far fm wb wd least.3 he hf f1 room sb.2 sd.2)

-- the greatest of four negatives is the negative of the least
greatest_of_negatives : (p q r s : ℤ) → int_max (int_max (neg_ℤ p) (neg_ℤ q)) (int_max (neg_ℤ r) (neg_ℤ s)) ≡ neg_ℤ (int_min (int_min r s) (int_min p q))
greatest_of_negatives p q r s = omega (arith, ints, clamps)

-- the high end of a product is the negative of the low end of a product with one factor's negatives
pub greatest_product_is : (a b c d : ℤ) → greatest_product a b c d ≡ neg_ℤ (least_product (neg_ℤ b) (neg_ℤ a) c d)
greatest_product_is a b c d =
    rw (upper_product_is a c, upper_product_is a d, upper_product_is b c, upper_product_is b d)
    (greatest_of_negatives (lower_product (neg_ℤ a) c) (lower_product (neg_ℤ a) d) (lower_product (neg_ℤ b) c) (lower_product (neg_ℤ b) d))

-- an end of a fraction mirrors one of its negative
pub negative_low_end : (b n : ℤ) (d : ℕ) → IsFractionHighEnd b n d → IsFractionLowEnd (neg_ℤ b) (neg_ℤ n) d
negative_low_end b n d h f = let k = h (omega (arith, ints), omega (arith, ints)) in rw neg_product (omega (arith, ints))

pub negative_high_end : (a n : ℤ) (d : ℕ) → IsFractionLowEnd a n d → IsFractionHighEnd (neg_ℤ a) (neg_ℤ n) d
negative_high_end a n d h f = let k = h (omega (arith, ints), omega (arith, ints)) in rw neg_product (omega (arith, ints))

back : (m u v : ℤ) (k : ℕ) → IsFractionLowEnd m (neg_ℤ u *ℤ v) k → IsFractionHighEnd (neg_ℤ m) (u *ℤ v) k
back m u v k h f =
    let low = h (omega (arith, ints), omega (arith, ints)) in
    let same = neg_product u v in
    let other = neg_product m (pos k) in
    omega (arith, ints)

pub product_high_end : (u v : ℤ) (e f : ℕ) (a b c d : ℤ) → 1 ≤ e → 1 ≤ f → IsWord a → IsWord b → IsWord c → IsWord d → a ≢ inf → b ≢ minus_inf → c ≢ inf → d ≢ minus_inf →
    IsFractionLowEnd a u e → IsFractionHighEnd b u e → IsFractionLowEnd c v f → IsFractionHighEnd d v f → IsFractionHighEnd (greatest_product a b c d) (u *ℤ v) (e * f)
product_high_end u v e f a b c d he hf wa wb wc wd na nb nc nd ua ub vc vd =
    rw (greatest_product_is a b c d)
    (back (least_product (neg_ℤ b) (neg_ℤ a) c d) u v (e * f)
    (product_low_end (neg_ℤ u) v e f (neg_ℤ b) (neg_ℤ a) c d he hf
    (omega (arith, ints), omega (arith, ints)) (omega (arith, ints), omega (arith, ints)) wc wd
    (λ i. nb (omega (arith, ints))) (λ i. na (omega (arith, ints))) nc nd
    (negative_low_end b u e ub) (negative_high_end a u e ua) vc vd))

-- a whole number is a fraction over 1
whole_between : (low high x : ℤ) → IsBetween low high x → IsFractionBetween low high x 1
whole_between low high x h = (λ f. let k = h.0 f in omega (arith, ints), λ f. let k = h.1 f in omega (arith, ints))

over_one : (low high x : ℤ) → IsFractionBetween low high x 1 → IsBetween low high x
over_one low high x h = (λ f. let k = h.0 f in omega (arith, ints), λ f. let k = h.1 f in omega (arith, ints))

pub product_between : (x y a b c d : ℤ) → IsWord a → IsWord b → IsWord c → IsWord d → a ≢ inf → b ≢ minus_inf → c ≢ inf → d ≢ minus_inf →
    IsBetween a b x → IsBetween c d y → IsBetween (least_product a b c d) (greatest_product a b c d) (x *ℤ y)
product_between x y a b c d wa wb wc wd na nb nc nd hx hy =
    let p = whole_between a b x hx in
    let q = whole_between c d y hy in
    let one : 1 ≤ 1 = omega arith in
    over_one (least_product a b c d) (greatest_product a b c d) (x *ℤ y) (
      product_low_end x y 1 1 a b c d one one wa wb wc wd na nb nc nd p.0 p.1 q.0 q.1,
      product_high_end x y 1 1 a b c d one one wa wb wc wd na nb nc nd p.0 p.1 q.0 q.1,
    )
