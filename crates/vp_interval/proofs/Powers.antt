-- Powers of intervals are valid, and what they represent.
use Rattle.std.proofs.Common.{◌≡◌, refl, ap, ◌∙◌, Bool, true, false, ◌==◌, if◌then◌else◌, ◌⊎◌, inl, inr, ℕ, zero, suc, ◌+◌, ◌-◌, ◌*◌, ◌/◌, ◌%◌, ◌≤◌, ℤ, pos, negsuc, neg_ℤ, ◌*ℤ◌, ◌≤ℤ◌, unsigned_abs, arith, IsTrue}
use Rattle.std.proofs.lemmas.Bool.Decides.{nat_tests}
use Rattle.std.proofs.lemmas.Int.{ints, clamps}
use Rattle.std.specs.Int.{int_max}
use Rattle.vp_words.specs.Ends.{encloses, IsFractionLowEnd, IsFractionHighEnd}
use Rattle.vp_words.specs.Number.{IsWord, IsFinite, minus_inf, inf, lower_product, upper_product}
use Rattle.vp_words.proofs.Pairs.{pair_parts}
use Rattle.vp_words.proofs.Products.{mul_pos_le}
use Rattle.vp_terms.specs.Rational.{Rational, product as rational_product, power as rational_power}
use Rattle.vp_terms.proofs.Gaps.{gap-of, gap-same, gaps}
use Rattle.vp_interval.specs.Represents.{Represents}
use Rattle.vp_interval.specs.Rounding.{IsValid, Ends, product, multiplied, least_size, greatest_size, even_power, power}
use Rattle.vp_interval.proofs.Validity.{valid_product}
use Rattle.vp_interval.proofs.Represented.{represented_product}
use Rattle.vp_interval.proofs.Chains.{IsSize, lower_chain, upper_chain, chain_order, low_product, high_product}

-- the sizes of the numbers between two ends
least_size-size : (v : Ends) → IsValid v.lo v.hi → IsSize (least_size v)
least_size-size v h =
    let p = pair_parts v.lo v.hi h.enclosed in
    record { finite = finite v.lo v.hi h.low_word h.high_word p.1 p.2; positive = positive v.lo v.hi }
  where
    finite : (a b : ℤ) → IsWord a → IsWord b → (a ≡ inf → ⊥) → (b ≡ minus_inf → ⊥) → IsFinite (int_max (int_max a (neg_ℤ b)) (pos 0))
    finite a b wa wb na nb = (omega (arith, ints, clamps), omega (arith, ints, clamps))

    positive : (a b : ℤ) → pos 0 ≤ℤ int_max (int_max a (neg_ℤ b)) (pos 0)
    positive a b = omega (arith, ints, clamps)

greatest_size-word : (a b : ℤ) → IsWord a → IsWord b → IsWord (int_max (neg_ℤ a) b)
greatest_size-word a b wa wb = (omega (arith, ints, clamps), omega (arith, ints, clamps))

sizes_order : (a b : ℤ) → a ≤ℤ b → int_max (int_max a (neg_ℤ b)) (pos 0) ≤ℤ int_max (neg_ℤ a) b
sizes_order a b h = omega (arith, ints, clamps)

valid_made : (a b : ℤ) → IsSize a → IsWord b → a ≤ℤ b → IsValid a b
valid_made a b h w k = let f = h.finite in let p = h.positive in record { low_word = (omega (arith, ints), omega (arith, ints)); high_word = w; enclosed = enclosed a b f.0 f.1 p k }
  where
    enclosed : (a b : ℤ) → neg_ℤ (pos 9_223_372_036_854_775_806) ≤ℤ a → a ≤ℤ pos 9_223_372_036_854_775_806 → pos 0 ≤ℤ a → a ≤ℤ b → IsTrue (encloses a b)
    enclosed a b f g p k = grind (arith, ints)

pub valid_even_power : (v : Ends) (k : ℕ) → IsValid v.lo v.hi → IsValid (even_power v k).lo (even_power v k).hi
valid_even_power v k h =
    let p = pair_parts v.lo v.hi h.enclosed in
    let size = least_size-size v h in
    let word = greatest_size-word v.lo v.hi h.low_word h.high_word in
    let order = sizes_order v.lo v.hi p.0 in
    let low = size.positive in
    let positive : pos 0 ≤ℤ greatest_size v = omega (arith, ints) in
    valid_made (even_power v k).lo (even_power v k).hi (lower_chain (least_size v) (k - 1) size) (upper_chain (greatest_size v) (k - 1) word positive).0
    (chain_order (least_size v) (greatest_size v) (k - 1) size word order)

-- the size of a number between the ends, over its denominator
low_size : (a b n : ℤ) (d : ℕ) → IsWord a → IsWord b → (a ≡ inf → ⊥) → (b ≡ minus_inf → ⊥) → IsFractionLowEnd a n d → IsFractionHighEnd b n d →
    (int_max (int_max a (neg_ℤ b)) (pos 0) *ℤ pos d) ≤ℤ pos (unsigned_abs n)
low_size a b n d wa wb na nb low high = elim (greatest_of_three a (neg_ℤ b)) [
  | inl e ↦ rw e (omega (arith, ints))
  | inr r ↦ elim r [
    | inl e ↦ let f : IsFinite a = (omega (arith, ints), omega (arith, ints)) in let l = low f in let s = below_size n in rw e.0 (omega (arith, ints))
    | inr e ↦ let f : IsFinite b = (omega (arith, ints), omega (arith, ints)) in let l = high f in let s = below_size n in let m = mirrored b d in rw e.0 (omega (arith, ints))
  ]
]
  where
    greatest_of_three : (x y : ℤ) → (int_max (int_max x y) (pos 0) ≡ pos 0) ⊎ (((int_max (int_max x y) (pos 0) ≡ x) × (pos 0 ≤ℤ x)) ⊎ ((int_max (int_max x y) (pos 0) ≡ y) × (pos 0 ≤ℤ y)))
    greatest_of_three x y = grind (arith, ints, clamps)

    below_size : (n : ℤ) → (n ≤ℤ pos (unsigned_abs n)) × (neg_ℤ n ≤ℤ pos (unsigned_abs n))
    below_size (pos n) = (omega (arith, ints), omega (arith, ints))
    below_size (negsuc n) = (omega (arith, ints), omega (arith, ints))

    mirrored : (b : ℤ) (d : ℕ) → neg_ℤ b *ℤ pos d ≡ neg_ℤ (b *ℤ pos d)
    mirrored b d = rw (gap-of b) (simp gaps (gap-same _ _ _ _ (omega arith)))

high_size : (a b n : ℤ) (d : ℕ) → IsWord a → IsWord b → (a ≡ inf → ⊥) → (b ≡ minus_inf → ⊥) → IsFractionLowEnd a n d → IsFractionHighEnd b n d →
    IsFractionHighEnd (int_max (neg_ℤ a) b) (pos (unsigned_abs n)) d
high_size a b n d wa wb na nb low high f =
    let fa : IsFinite a = (omega (arith, ints, clamps), omega (arith, ints, clamps)) in
    let fb : IsFinite b = (omega (arith, ints, clamps), omega (arith, ints, clamps)) in
    let l = low fa in
    let h = high fb in
    let m = mul_pos_le (neg_ℤ a) (int_max (neg_ℤ a) b) d (omega (arith, ints, clamps)) in
    let k = mul_pos_le b (int_max (neg_ℤ a) b) d (omega (arith, ints, clamps)) in
    let e = mirrored a d in
    within n (int_max (neg_ℤ a) b *ℤ pos d) (omega (arith, ints)) (omega (arith, ints))
  where
    within : (n z : ℤ) → n ≤ℤ z → neg_ℤ n ≤ℤ z → pos (unsigned_abs n) ≤ℤ z
    within (pos n) z h k = omega (arith, ints)
    within (negsuc n) z h k = omega (arith, ints)

    mirrored : (b : ℤ) (d : ℕ) → neg_ℤ b *ℤ pos d ≡ neg_ℤ (b *ℤ pos d)
    mirrored b d = rw (gap-of b) (simp gaps (gap-same _ _ _ _ (omega arith)))

-- the size of a rational
size_of : Rational → Rational
size_of q = record { num = pos (unsigned_abs q.num); den = q.den; positive = q.positive }

size_positive : (q : Rational) (n : ℕ) → pos 0 ≤ℤ (rational_power (size_of q) n).num
unfolding size_of
size_positive q zero = omega (arith, ints)
size_positive q (suc n) = positive_product (unsigned_abs q.num) (rational_power (size_of q) n).num (size_positive q n)
  where
    positive_product : (m : ℕ) (z : ℤ) → pos 0 ≤ℤ z → pos 0 ≤ℤ (pos m *ℤ z)
    positive_product m (pos n) h = omega (arith, ints)
    positive_product m (negsuc n) h = absurd (omega (arith, ints))

-- powers of a size stand between repeated products of the sizes of the ends
low_powers : (v : Ends) (q : Rational) (n : ℕ) → IsValid v.lo v.hi → Represents v q →
    let p = rational_power (size_of q) (suc n) in (multiplied lower_product (least_size v) n *ℤ pos p.den) ≤ℤ p.num
unfolding size_of
low_powers v q zero h r =
    let p = pair_parts v.lo v.hi h.enclosed in
    let l = low_size v.lo v.hi q.num q.den h.low_word h.high_word p.1 p.2 r.low r.high in
    once (least_size v) (pos (unsigned_abs q.num)) q.den l
  where
    once : (a n : ℤ) (d : ℕ) → (a *ℤ pos d) ≤ℤ n → (a *ℤ pos (d * 1)) ≤ℤ (n *ℤ pos 1)
    once a n d h = omega (arith, ints)
low_powers v q (suc n) h r =
    let p = pair_parts v.lo v.hi h.enclosed in
    let l = low_size v.lo v.hi q.num q.den h.low_word h.high_word p.1 p.2 r.low r.high in
    let size = least_size-size v h in
    let rest = rational_power (size_of q) (suc n) in
    low_product (least_size v) (multiplied lower_product (least_size v) n) (pos (unsigned_abs q.num)) rest.num q.den rest.den size (lower_chain (least_size v) n size) l (low_powers v q n h r)

high_powers : (v : Ends) (q : Rational) (n : ℕ) → IsValid v.lo v.hi → Represents v q →
    let p = rational_power (size_of q) (suc n) in IsFractionHighEnd (multiplied upper_product (greatest_size v) n) p.num p.den
unfolding size_of
high_powers v q zero h r =
    let p = pair_parts v.lo v.hi h.enclosed in
    let l = high_size v.lo v.hi q.num q.den h.low_word h.high_word p.1 p.2 r.low r.high in
    once (greatest_size v) (pos (unsigned_abs q.num)) q.den l
  where
    once : (b n : ℤ) (d : ℕ) → IsFractionHighEnd b n d → IsFractionHighEnd b (n *ℤ pos 1) (d * 1)
    once b n d h f = let k = h f in omega (arith, ints)
high_powers v q (suc n) h r =
    let p = pair_parts v.lo v.hi h.enclosed in
    let l = high_size v.lo v.hi q.num q.den h.low_word h.high_word p.1 p.2 r.low r.high in
    let word = greatest_size-word v.lo v.hi h.low_word h.high_word in
    let low = (least_size-size v h).positive in
    let order = sizes_order v.lo v.hi p.0 in
    let positive : pos 0 ≤ℤ greatest_size v = omega (arith, ints) in
    let chain = upper_chain (greatest_size v) n word positive in
    let rest = rational_power (size_of q) (suc n) in
    high_product (greatest_size v) (multiplied upper_product (greatest_size v) n) (pos (unsigned_abs q.num)) rest.num q.den rest.den q.positive rest.positive word chain.0 positive chain.1
    (omega (arith, ints)) (size_positive q (suc n)) l (high_powers v q n h r)

-- an even power is that of the size
doubled : ℕ → ℕ
doubled zero = zero
doubled (suc m) = suc (suc (doubled m))

doubled-is : (m : ℕ) → doubled m ≡ m + m
unfolding doubled
doubled-is zero = refl
doubled-is (suc m) = let h = doubled-is m in omega arith

power-den : (q : Rational) (n : ℕ) → (rational_power q n).den ≡ (rational_power (size_of q) n).den
unfolding size_of
power-den q zero = refl
power-den q (suc n) = ap (λ (d : ℕ). q.den * d) (power-den q n)

square : (n z : ℤ) → n *ℤ (n *ℤ z) ≡ pos (unsigned_abs n) *ℤ (pos (unsigned_abs n) *ℤ z)
square (pos n) z = refl
square (negsuc n) z = turned (pos (suc n)) z
  where
    turned : (w z : ℤ) → neg_ℤ w *ℤ (neg_ℤ w *ℤ z) ≡ w *ℤ (w *ℤ z)
    turned w z = rw (gap-of w, gap-of z) (simp gaps (gap-same _ _ _ _ (omega arith)))

power-num : (q : Rational) (m : ℕ) → (rational_power q (doubled m)).num ≡ (rational_power (size_of q) (doubled m)).num
unfolding size_of doubled
power-num q zero = refl
power-num q (suc m) = square q.num (rational_power q (doubled m)).num ∙ ap (λ (z : ℤ). pos (unsigned_abs q.num) *ℤ (pos (unsigned_abs q.num) *ℤ z)) (power-num q m)

pub represented_even : (v : Ends) (q : Rational) (k : ℕ) → 1 ≤ k → k % 2 ≡ 0 → IsValid v.lo v.hi → Represents v q → Represents (even_power v k) (rational_power q k)
represented_even v q k some even h r =
    let e : k ≡ suc (k - 1) = omega arith in
    let half : k ≡ doubled (k / 2) = let d = doubled-is (k / 2) in omega arith in
    let n : (rational_power q k).num ≡ (rational_power (size_of q) k).num = rw half (power-num q (k / 2)) in
    let d = power-den q k in
    let low = low_powers v q (k - 1) h r in
    let high = high_powers v q (k - 1) h r in
    record {
      low = λ f. rw (n, d) (moved_low k (suc (k - 1)) e low);
      high = λ f. rw (n, d) (moved_high k (suc (k - 1)) e high f);
    }
  where
    moved_low : (k j : ℕ) → k ≡ j → (multiplied lower_product (least_size v) (k - 1) *ℤ pos (rational_power (size_of q) j).den) ≤ℤ (rational_power (size_of q) j).num → (multiplied lower_product (least_size v) (k - 1) *ℤ pos (rational_power (size_of q) k).den) ≤ℤ (rational_power (size_of q) k).num
    moved_low k j e l = rw (ap (λ i. (rational_power (size_of q) i).num) e, ap (λ i. (rational_power (size_of q) i).den) e) l

    moved_high : (k j : ℕ) → k ≡ j → IsFractionHighEnd (multiplied upper_product (greatest_size v) (k - 1)) (rational_power (size_of q) j).num (rational_power (size_of q) j).den → IsFractionHighEnd (multiplied upper_product (greatest_size v) (k - 1)) (rational_power (size_of q) k).num (rational_power (size_of q) k).den
    moved_high k j e l = rw (ap (λ i. (rational_power (size_of q) i).num) e, ap (λ i. (rational_power (size_of q) i).den) e) l

-- the first power
pub represented_first : (v : Ends) (q : Rational) (k : ℕ) → k ≡ 1 → Represents v q → Represents v (rational_power q k)
represented_first v q k e h = rw e (record { low = λ f. once v.lo q.num q.den (h.low f); high = λ f. once_above v.hi q.num q.den (h.high f) })
  where
    once : (a n : ℤ) (d : ℕ) → (a *ℤ pos d) ≤ℤ n → (a *ℤ pos (d * 1)) ≤ℤ (n *ℤ pos 1)
    once a n d h = omega (arith, ints)

    once_above : (a n : ℤ) (d : ℕ) → n ≤ℤ (a *ℤ pos d) → (n *ℤ pos 1) ≤ℤ (a *ℤ pos (d * 1))
    once_above a n d h = omega (arith, ints)

-- one factor more
pub represented_more : (v : Ends) (q : Rational) (j k : ℕ) → k ≡ j + 1 → Represents v (rational_product q (rational_power q j)) → Represents v (rational_power q k)
represented_more v q j k e h = let f : k ≡ suc j = omega arith in rw f h

-- any power
odd-below : (k : ℕ) → 1 ≤ k → (k ≡ 1 → ⊥) → (k % 2 ≡ 0 → ⊥) → (1 ≤ k - 1) × ((k - 1) % 2 ≡ 0)
odd-below k h p q = (omega arith, omega arith)

equal_when : (a b : ℕ) → (a == b) ≡ true → a ≡ b
equal_when a b e = grind (arith, nat_tests)

apart_when : (a b : ℕ) → (a == b) ≡ false → a ≡ b → ⊥
apart_when a b e f = grind (arith, nat_tests)

pub valid_power : (v : Ends) (k : ℕ) → IsValid v.lo v.hi → IsValid (power v k).lo (power v k).hi
valid_power v k h = first (k == 1) (k % 2 == 0)
  where
    first : (p q : Bool) → let w = if p then v else (if q then even_power v k else product v (even_power v (k - 1))) in IsValid w.lo w.hi
    first true q = h
    first false true = valid_even_power v k h
    first false false = valid_product v (even_power v (k - 1)) h (valid_even_power v (k - 1) h)

pub represented_power : (v : Ends) (q : Rational) (k : ℕ) → 1 ≤ k → IsValid v.lo v.hi → Represents v q → Represents (power v k) (rational_power q k)
represented_power v q k some h r = first (k == 1) (k % 2 == 0) refl refl
  where
    first : (a b : Bool) → (k == 1) ≡ a → (k % 2 == 0) ≡ b → Represents (if a then v else (if b then even_power v k else product v (even_power v (k - 1)))) (rational_power q k)
    first true b e f = represented_first v q k (equal_when k 1 e) r
    first false true e f = represented_even v q k some (equal_when (k % 2) 0 f) h r
    first false false e f =
        let below = odd-below k some (apart_when k 1 e) (apart_when (k % 2) 0 f) in
        represented_more (product v (even_power v (k - 1))) q (k - 1) k (omega arith)
        (represented_product v (even_power v (k - 1)) q (rational_power q (k - 1)) h (valid_even_power v (k - 1) h) r (represented_even v q (k - 1) below.0 below.1 h r))
