-- A directed product of two ends, over denominators.
use Rattle.std.proofs.Common.{◌≡◌, Bool, false, ◌||◌, if◌then◌else◌, ℕ, ◌*◌, ◌≤◌, ◌⊎◌, inl, inr, ℤ, pos, negsuc, neg_ℤ, ◌*ℤ◌, ◌≤ℤ◌, ◌<ℤ◌, sym, ◌∙◌, arith, ap}
use Rattle.std.proofs.lemmas.Int.{ints}
use Rattle.vp_words.specs.Number.{IsWord, IsFinite, inf, minus_inf, is_infinite, rounded_down, directed_product, lower_product}
use Rattle.std.specs.Ordering.{int_eq}
use Rattle.vp_words.proofs.Products.{mul_assoc, mul_comm, mul_pos_le}

-- e stands for the end a over the denominator d: exact where a is finite, and far out where it is infinite
abbrev pub StandsFor : ℕ → ℕ → ℤ → ℤ → Type 0
StandsFor far d a x = (IsFinite a → x ≡ a *ℤ pos d) × (a ≡ minus_inf → x ≤ℤ neg_ℤ (pos far)) × (a ≡ inf → pos far ≤ℤ x)

pub word_kinds : (a : ℤ) → IsWord a → (a ≡ minus_inf) ⊎ ((a ≡ inf) ⊎ IsFinite a)
word_kinds a h = grind (arith, ints)

pub signs : (c : ℤ) → (c <ℤ pos 0) ⊎ ((c ≡ pos 0) ⊎ (pos 0 <ℤ c))
signs c = grind (arith, ints)

pub zero_or_not : (a : ℤ) → (a ≡ pos 0) ⊎ (int_eq a (pos 0) ≡ false)
zero_or_not a = grind (arith, ints)

pub not_infinite : (a : ℤ) → IsFinite a → is_infinite a ≡ false
not_infinite a h = grind (arith, ints)

rounded_le : (m z : ℤ) → IsFinite m → m ≤ℤ rounded_down z → m ≤ℤ z
rounded_le m z f h = grind (arith, ints)

finite_product : (m a c : ℤ) → IsFinite m → IsFinite a → IsFinite c → m ≤ℤ lower_product a c → m ≤ℤ (a *ℤ c)
finite_product m a c fm fa fc h =
    elim (zero_or_not a) [
      | inl e ↦ let k : m ≤ℤ pos 0 = rw e at h in rw e (omega (arith, ints))
      | inr p ↦ elim (zero_or_not c) [
        | inl e ↦ let k : m ≤ℤ pos 0 = rw p at (rw e at h) in rw e (omega (arith, ints))
        | inr q ↦ rounded_le m (a *ℤ c) fm (rw (p, q, not_infinite a fa, not_infinite c fc) at h)
      ]
    ]

pub minus_inf_up : (c : ℤ) → pos 0 <ℤ c → lower_product minus_inf c ≡ minus_inf
minus_inf_up c h = grind (arith, ints)

pub inf_down : (c : ℤ) → c <ℤ pos 0 → lower_product inf c ≡ minus_inf
inf_down c h = grind (arith, ints)

far_up : (x y : ℤ) (far : ℕ) → pos far ≤ℤ x → pos 1 ≤ℤ y → pos far ≤ℤ (x *ℤ y)
far_up x (pos n) far hx hy = omega (arith, ints, mul_pos_le (pos far) x n hx, mul_pos_le (pos 1) (pos n) far hy)
far_up x (negsuc n) far hx hy = absurd (omega (arith, ints))

far_down : (x y : ℤ) (far : ℕ) → 1 ≤ far → x ≤ℤ neg_ℤ (pos far) → y ≤ℤ neg_ℤ (pos 1) → pos far ≤ℤ (x *ℤ y)
far_down x (pos n) far h hx hy = absurd (omega (arith, ints))
far_down (pos k) (negsuc n) far h hx hy = absurd (omega (arith, ints))
far_down (negsuc k) (negsuc n) far h hx hy = omega (arith, ints)

either : (p q r s : Bool) (u v w : ℤ) → (if p || q then u else (if r || s then v else w)) ≡ (if q || p then u else (if s || r then v else w))
either p q r s u v w = grind arith

pub directed_swap : (rounded : ℤ → ℤ) (a c : ℤ) → directed_product rounded a c ≡ directed_product rounded c a
directed_swap rounded a c =
    let e : a *ℤ c ≡ c *ℤ a = mul_comm a c in
    rw e (either (int_eq a (pos 0)) (int_eq c (pos 0)) (is_infinite a) (is_infinite c) _ _ _)

pub product_swap : (a c : ℤ) → lower_product a c ≡ lower_product c a
product_swap a c = directed_swap rounded_down a c

below : (far e : ℕ) (c y : ℤ) → 1 ≤ far → 1 ≤ e → IsWord c → c <ℤ pos 0 → StandsFor far e c y → y ≤ℤ neg_ℤ (pos 1)
below far e c y hf he w n s =
    elim (word_kinds c w) [
      | inl k ↦ let far_out = s.1 k in omega (arith, ints)
      | inr k ↦ elim k [ inl i ↦ absurd (omega (arith, ints)) | inr f ↦ let is = s.0 f in rw is (omega (arith, ints, mul_pos_le c (neg_ℤ (pos 1)) e (omega (arith, ints)))) ]
    ]

above : (far e : ℕ) (c y : ℤ) → 1 ≤ far → 1 ≤ e → IsWord c → pos 0 <ℤ c → StandsFor far e c y → pos 1 ≤ℤ y
above far e c y hf he w n s =
    elim (word_kinds c w) [
      | inl k ↦ absurd (omega (arith, ints))
      | inr k ↦ elim k [ inl i ↦ let far_out = s.2 i in omega (arith, ints) | inr f ↦ let is = s.0 f in rw is (omega (arith, ints, mul_pos_le (pos 1) c e (omega (arith, ints)))) ]
    ]

at_zero : (far e : ℕ) (c y : ℤ) → c ≡ pos 0 → StandsFor far e c y → y ≡ pos 0
at_zero far e c y z s = let f : IsFinite c = (omega (arith, ints), omega (arith, ints)) in s.0 f ∙ rw z (omega (arith, ints))

-- an infinite end
at_inf : (m c x y : ℤ) (e far k : ℕ) → IsFinite m → IsWord c → m ≤ℤ lower_product inf c → 1 ≤ e → 1 ≤ far → (m *ℤ pos k) ≤ℤ pos far → pos far ≤ℤ x → StandsFor far e c y → (m *ℤ pos k) ≤ℤ (x *ℤ y)
at_inf m c x y e far k fm wc h he hf room hx s =
    elim (signs c) [
      | inl n ↦ let no : m ≤ℤ minus_inf = rw (inf_down c n) at h in absurd (omega (arith, ints))
      | inr r ↦ elim r [
        | inl z ↦ let le : m ≤ℤ pos 0 = rw z at h in rw (at_zero far e c y z s) (omega (arith, ints, mul_pos_le m (pos 0) k le))
        | inr p ↦ omega (arith, ints, far_up x y far hx (above far e c y hf he wc p s))
      ]
    ]

at_minus_inf : (m c x y : ℤ) (e far k : ℕ) → IsFinite m → IsWord c → m ≤ℤ lower_product minus_inf c → 1 ≤ e → 1 ≤ far → (m *ℤ pos k) ≤ℤ pos far → x ≤ℤ neg_ℤ (pos far) → StandsFor far e c y → (m *ℤ pos k) ≤ℤ (x *ℤ y)
at_minus_inf m c x y e far k fm wc h he hf room hx s =
    elim (signs c) [
      | inl n ↦ omega (arith, ints, far_down x y far hf hx (below far e c y hf he wc n s))
      | inr r ↦ elim r [
        | inl z ↦ let le : m ≤ℤ pos 0 = rw z at h in rw (at_zero far e c y z s) (omega (arith, ints, mul_pos_le m (pos 0) k le))
        | inr p ↦ let no : m ≤ℤ minus_inf = rw (minus_inf_up c p) at h in absurd (omega (arith, ints))
      ]
    ]

-- a product over two denominators
regroup : (a c : ℤ) (d e : ℕ) → (a *ℤ c) *ℤ pos (d * e) ≡ (a *ℤ pos d) *ℤ (c *ℤ pos e)
regroup a c d e =
    let inner : c *ℤ (pos d *ℤ pos e) ≡ pos d *ℤ (c *ℤ pos e)
    = sym (mul_assoc c (pos d) (pos e)) ∙ ap (λ (z : ℤ). z *ℤ pos e) (mul_comm c (pos d)) ∙ mul_assoc (pos d) c (pos e)
    in
    mul_assoc a c (pos d *ℤ pos e) ∙ ap (λ (z : ℤ). a *ℤ z) inner ∙ sym (mul_assoc a (pos d) (c *ℤ pos e))

-- two finite ends
at_finite : (m a c : ℤ) (d e : ℕ) → m ≤ℤ (a *ℤ c) → (m *ℤ pos (d * e)) ≤ℤ ((a *ℤ pos d) *ℤ (c *ℤ pos e))
at_finite m a c d e h =
    let same : (a *ℤ c) *ℤ pos (d * e) ≡ (a *ℤ pos d) *ℤ (c *ℤ pos e) = regroup a c d e in
    rw (← same) (mul_pos_le m (a *ℤ c) (d * e) h)

pub corner : (m a c x y : ℤ) (d e far : ℕ) → IsFinite m → IsWord a → IsWord c → m ≤ℤ lower_product a c → 1 ≤ d → 1 ≤ e → 1 ≤ far → (m *ℤ pos (d * e)) ≤ℤ pos far → StandsFor far d a x → StandsFor far e c y → (m *ℤ pos (d * e)) ≤ℤ (x *ℤ y)
corner m a c x y d e far fm wa wc h hd he hf room sx sy =
    elim (word_kinds a wa) [
      | inl k ↦ at_minus_inf m c x y e far (d * e) fm wc (rw k at h) he hf room (sx.1 k) sy
      | inr k ↦ elim k [
        | inl i ↦ at_inf m c x y e far (d * e) fm wc (rw i at h) he hf room (sx.2 i) sy
        | inr f ↦ elim (word_kinds c wc) [
          | inl k' ↦ rw (mul_comm x y) (at_minus_inf m a y x d far (d * e) fm wa (rw k' at (rw (product_swap a c) at h)) hd hf room (sy.1 k') sx)
          | inr k' ↦ elim k' [
            | inl i' ↦ rw (mul_comm x y) (at_inf m a y x d far (d * e) fm wa (rw i' at (rw (product_swap a c) at h)) hd hf room (sy.2 i') sx)
            | inr f' ↦ rw (sx.0 f, sy.0 f') (at_finite m a c d e (finite_product m a c fm f f' h))
          ]
        ]
      ]
    ]
