-- Repeated products of a word that is at least 0.
use Rattle.std.proofs.Common.{◌≡◌, Bool, true, false, if◌then◌else◌, refl, ◌∙◌, ℕ, zero, suc, ◌+◌, ◌*◌, ◌≤◌, ℤ, pos, negsuc, ◌*ℤ◌, ◌≤ℤ◌, arith, rules}
use Rattle.std.proofs.lemmas.Int.{ints, clamps}
use Rattle.std.specs.Int.{int_max}
use Rattle.vp_words.specs.Ends.{IsLowEnd, IsFractionHighEnd}
use Rattle.vp_words.specs.Number.{IsWord, IsFinite, is_infinite, infinity_of, rounded_down, rounded_up, lower_product, upper_product, greatest_product, inf}
use Rattle.vp_words.proofs.Corners.{directed_swap, product_swap, not_infinite}
use Rattle.vp_words.proofs.Enclosure.{product_high_end}
use Rattle.vp_words.proofs.Monotone.{lower_order}
use Rattle.vp_words.proofs.Products.{mul_pos_le}
use Rattle.vp_terms.proofs.Gaps.{gap-of, gap-same, gaps}
use Rattle.vp_interval.specs.Rounding.{multiplied}
use Rattle.vp_interval.proofs.Validity.{upper_product-word}

-- products of numbers that are at least 0
product_positive : (a b : ℤ) → pos 0 ≤ℤ a → pos 0 ≤ℤ b → pos 0 ≤ℤ (a *ℤ b)
product_positive a (pos n) h k = omega (arith, ints, mul_pos_le (pos 0) a n h)
product_positive a (negsuc n) h k = absurd (omega (arith, ints))

product_le : (x y z w : ℤ) → pos 0 ≤ℤ z → pos 0 ≤ℤ y → x ≤ℤ y → z ≤ℤ w → (x *ℤ z) ≤ℤ (y *ℤ w)
product_le x (pos m) (pos n) w hz hy h k = omega (arith, ints, mul_pos_le x (pos m) n h, mul_pos_le (pos n) w m k)
product_le x (negsuc m) z w hz hy h k = absurd (omega (arith, ints))
product_le x (pos m) (negsuc n) w hz hy h k = absurd (omega (arith, ints))

-- directed products of such words
lower_sign : (p q : Bool) (z : ℤ) → q ≡ false → pos 0 ≤ℤ z → (pos 0 ≤ℤ (if p then pos 0 else (if q then infinity_of z else rounded_down z))) × IsFinite (if p then pos 0 else (if q then infinity_of z else rounded_down z))
lower_sign true q z e h = (omega (arith, ints), (omega (arith, ints), omega (arith, ints)))
lower_sign false q z e h = rw e (grind (arith, ints), (grind (arith, ints), grind (arith, ints)))

upper_sign : (p q : Bool) (z : ℤ) → pos 0 ≤ℤ z → pos 0 ≤ℤ (if p then pos 0 else (if q then infinity_of z else rounded_up z))
upper_sign true q z h = omega (arith, ints)
upper_sign false true z h = grind (arith, ints)
upper_sign false false z h = grind (arith, ints)

neither : (a b : ℤ) → IsFinite a → IsFinite b → is_infinite a ≡ false
neither a b h k = not_infinite a h

-- a finite number that is at least 0
pub record IsSize (a : ℤ) : Type 0 where
  pub finite : IsFinite a
  pub positive : pos 0 ≤ℤ a

both_finite : (a b : ℤ) → IsFinite a → IsFinite b → (pos 0 ≤ℤ (a *ℤ b)) → (pos 0 ≤ℤ lower_product a b) × IsFinite (lower_product a b)
both_finite a b fa fb h = rw (not_infinite a fa, not_infinite b fb) (lower_sign _ false (a *ℤ b) refl h)

pub lower_size : (a b : ℤ) → IsSize a → IsSize b → IsSize (lower_product a b)
lower_size a b h k =
    let p = both_finite a b h.finite k.finite (product_positive a b h.positive k.positive) in
    record { finite = p.1; positive = p.0 }

upper_positive : (a b : ℤ) → pos 0 ≤ℤ a → pos 0 ≤ℤ b → pos 0 ≤ℤ upper_product a b
upper_positive a b h k = upper_sign _ _ (a *ℤ b) (product_positive a b h k)

lower_le : (a b : ℤ) → IsFinite a → IsFinite b → IsLowEnd (lower_product a b) (a *ℤ b)
lower_le a b fa fb = search rules

-- the low end of a product of two fractions
pub low_product : (a b m n : ℤ) (d e : ℕ) → IsSize a → IsSize b → (a *ℤ pos d) ≤ℤ m → (b *ℤ pos e) ≤ℤ n → (lower_product b a *ℤ pos (d * e)) ≤ℤ (m *ℤ n)
low_product a b m n d e ha hb hm hn =
    let s = lower_size b a hb ha in
    let l = lower_le b a hb.finite ha.finite s.finite in
    let scaled = mul_pos_le (lower_product b a) (b *ℤ a) (d * e) l in
    let be = product_positive b (pos e) hb.positive (omega (arith, ints)) in
    let ad = product_positive a (pos d) ha.positive (omega (arith, ints)) in
    let m0 : pos 0 ≤ℤ m = omega (arith, ints) in
    let both = product_le (a *ℤ pos d) m (b *ℤ pos e) n be m0 hm hn in
    let same = regrouped a b d e in
    omega (arith, ints)
  where
    regrouped : (a b : ℤ) (d e : ℕ) → (b *ℤ a) *ℤ pos (d * e) ≡ (a *ℤ pos d) *ℤ (b *ℤ pos e)
    regrouped a b d e = rw (gap-of a, gap-of b) (simp gaps (gap-same _ _ _ _ (omega arith)))

-- the high end
upper_zero : (b : ℤ) → upper_product b (pos 0) ≡ pos 0
upper_zero b = directed_swap rounded_up b (pos 0)

greatest_is : (a b : ℤ) → pos 0 ≤ℤ upper_product a b → greatest_product (pos 0) a (pos 0) b ≡ upper_product b a
greatest_is a b h = rw (upper_zero a) (largest (upper_product a b) h ∙ directed_swap rounded_up a b)
  where
    largest : (z : ℤ) → pos 0 ≤ℤ z → int_max (int_max (pos 0) (pos 0)) (int_max (pos 0) z) ≡ z
    largest z h = omega (arith, ints, clamps)

pub high_product : (a b m n : ℤ) (d e : ℕ) → 1 ≤ d → 1 ≤ e → IsWord a → IsWord b → pos 0 ≤ℤ a → pos 0 ≤ℤ b → pos 0 ≤ℤ m → pos 0 ≤ℤ n → IsFractionHighEnd a m d → IsFractionHighEnd b n e → IsFractionHighEnd (upper_product b a) (m *ℤ n) (d * e)
high_product a b m n d e hd he wa wb pa pb pm pn ha hb =
    rw (← greatest_is a b (upper_positive a b pa pb))
    (product_high_end m n d e (pos 0) a (pos 0) b hd he zero_word wa zero_word wb apart (λ i. omega (arith, ints)) apart (λ i. omega (arith, ints)) (λ _. omega (arith, ints)) ha (λ _. omega (arith, ints)) hb)
  where
    zero_word : IsWord (pos 0)
    zero_word = (omega (arith, ints), omega (arith, ints))

    apart : pos 0 ≡ inf → ⊥
    apart e = omega (arith, ints)

-- chains
pub lower_chain : (a : ℤ) (n : ℕ) → IsSize a → IsSize (multiplied lower_product a n)
lower_chain a zero h = h
lower_chain a (suc n) h = lower_size (multiplied lower_product a n) a (lower_chain a n h) h

pub upper_chain : (b : ℤ) (n : ℕ) → IsWord b → pos 0 ≤ℤ b → IsWord (multiplied upper_product b n) × (pos 0 ≤ℤ multiplied upper_product b n)
upper_chain b zero w h = (w, h)
upper_chain b (suc n) w h = (upper_product-word (multiplied upper_product b n) b, upper_positive (multiplied upper_product b n) b (upper_chain b n w h).1 h)

order_cases : (p q : Bool) (z : ℤ) → (if p then pos 0 else (if q then infinity_of z else rounded_down z)) ≤ℤ (if p then pos 0 else (if q then infinity_of z else rounded_up z))
order_cases true q z = omega (arith, ints)
order_cases false true z = omega (arith, ints)
order_cases false false z = grind (arith, ints)

product_order : (a b : ℤ) → lower_product a b ≤ℤ upper_product a b
product_order a b = order_cases _ _ (a *ℤ b)

size_word : (a : ℤ) → IsSize a → IsWord a
size_word a h = let f = h.finite in (omega (arith, ints), omega (arith, ints))

pub chain_order : (a b : ℤ) (n : ℕ) → IsSize a → IsWord b → a ≤ℤ b → multiplied lower_product a n ≤ℤ multiplied upper_product b n
chain_order a b zero h w k = k
chain_order a b (suc n) h w k =
    let c = multiplied lower_product a n in
    let d = multiplied upper_product b n in
    let hc = lower_chain a n h in
    let hb : pos 0 ≤ℤ b = let p = h.positive in omega (arith, ints) in
    let hd = upper_chain b n w hb in
    let first = lower_order c d a (size_word c hc) hd.0 (size_word a h) (chain_order a b n h w k) h.positive in
    let second = lower_order a b d (size_word a h) w hd.0 k hd.1 in
    let last = product_order d b in
    let s = product_swap d a in
    let t = product_swap d b in
    omega (arith, ints)

-- one factor more
pub multiplied-more : (times : ℤ → ℤ → ℤ) (a : ℤ) (i j k : ℕ) → j ≡ k + 1 → i ≡ j → multiplied times a i ≡ times (multiplied times a k) a
multiplied-more times a i j k e f = let g : i ≡ suc k = omega arith in rw g refl
