-- Comparisons of rationals are the same for the same numbers.
use Rattle.std.proofs.Common.{◌≡◌, ℕ, zero, suc, ◌+◌, ◌*◌, ◌<◌, ◌≤◌, ◌⊎◌, Bool, true, false, not, refl, sym, ap, ◌∙◌, arith, ℤ, pos, ◌*ℤ◌, ◌≤ℤ◌, int_le, int_lt, IsTrue}
use Rattle.std.proofs.lemmas.Int.{ints}
use Rattle.std.specs.Ordering.{int_eq}
use Rattle.std.proofs.Math.Nat.{le_of_mul-le-mul_right, mul-le-mul_right}
use borrow.Author.Differences.{up, down}
use Rattle.vp_terms.specs.declared.formula.Cmp.{Cmp}
use Rattle.vp_terms.specs.declared.formula.Cmp.TheVariants.{Le, Lt, Ge, Gt, Eq, Ne}
use Rattle.vp_terms.specs.Order.{orders}
use Rattle.vp_terms.specs.Rational.{Rational, Equals}
use Rattle.vp_terms.specs.Meaning.{compares}
use Rattle.vp_terms.proofs.Gaps.{gap-of, gap-same, gaps}
use Rattle.vp_terms.proofs.RationalLaws.{cancel, swap_right}

same_flag : (a b : Bool) → (a ≡ true → b ≡ true) → (b ≡ true → a ≡ true) → a ≡ b
same_flag true b f g = sym (f refl)
same_flag false true f g = g refl
same_flag false false f g = refl

-- order is kept both ways by a positive factor
scaled_le : (a b : ℤ) (n : ℕ) → a ≤ℤ b → (a *ℤ pos n) ≤ℤ (b *ℤ pos n)
scaled_le a b n h = omega (arith, ints, mul-le-mul_right {m = up a + down b} {n = up b + down a} n (omega (arith, ints)))

unscaled_le : (a b : ℤ) (n : ℕ) → 0 < n → (a *ℤ pos n) ≤ℤ (b *ℤ pos n) → a ≤ℤ b
unscaled_le a b n h k =
    let s : (up a + down b) * n ≤ (up b + down a) * n = omega (arith, ints) in
    let p = le_of_mul-le-mul_right {m = up a + down b} {n = up b + down a} {k = n} s h in
    omega (arith, ints)

le_kept : (a b : ℤ) (n : ℕ) → 0 < n → int_le (a *ℤ pos n) (b *ℤ pos n) ≡ int_le a b
le_kept a b n h =
    same_flag
    (int_le (a *ℤ pos n) (b *ℤ pos n))
    (int_le a b)
    (λ e. let k : (a *ℤ pos n) ≤ℤ (b *ℤ pos n) = grind (arith, ints) in let r = unscaled_le a b n h k in grind (arith, ints))
    (λ e. let k : a ≤ℤ b = grind (arith, ints) in let r = scaled_le a b n k in grind (arith, ints))

lt_is : (a b : ℤ) → int_lt a b ≡ not (int_le b a)
lt_is a b = grind (arith, ints)

lt_kept : (a b : ℤ) (n : ℕ) → 0 < n → int_lt (a *ℤ pos n) (b *ℤ pos n) ≡ int_lt a b
lt_kept a b n h = lt_is (a *ℤ pos n) (b *ℤ pos n) ∙ ap not (le_kept b a n h) ∙ sym (lt_is a b)

eq_kept : (a b : ℤ) (n : ℕ) → 0 < n → int_eq (a *ℤ pos n) (b *ℤ pos n) ≡ int_eq a b
eq_kept a b n h =
    same_flag
    (int_eq (a *ℤ pos n) (b *ℤ pos n))
    (int_eq a b)
    (λ e. let k : a *ℤ pos n ≡ b *ℤ pos n = grind (arith, ints) in let r = cancel a b n h k in grind (arith, ints))
    (λ e. let k : a ≡ b = grind (arith, ints) in rw k (grind (arith, ints)))

orders_kept : (c : Cmp) (a b : ℤ) (n : ℕ) → 0 < n → orders c (a *ℤ pos n) (b *ℤ pos n) ≡ orders c a b
orders_kept Le a b n h = le_kept a b n h
orders_kept Lt a b n h = lt_kept a b n h
orders_kept Ge a b n h = le_kept b a n h
orders_kept Gt a b n h = lt_kept b a n h
orders_kept Eq a b n h = eq_kept a b n h
orders_kept Ne a b n h = ap not (eq_kept a b n h)

moved : (a b : ℤ) (i j k l : ℕ) → a *ℤ pos j ≡ b *ℤ pos i → (a *ℤ pos k) *ℤ pos (j * l) ≡ (b *ℤ pos l) *ℤ pos (i * k)
moved a b i j k l e = apart a j k l ∙ ap (λ z. z *ℤ pos (k * l)) e ∙ sym (apart b i l k ∙ ap (λ (n : ℕ). b *ℤ pos i *ℤ pos n) (omega arith))
  where
    apart : (a : ℤ) (j k l : ℕ) → (a *ℤ pos k) *ℤ pos (j * l) ≡ a *ℤ pos j *ℤ pos (k * l)
    apart a j k l = rw (gap-of a) (simp gaps (gap-same _ _ _ _ (omega arith)))

positive_product : (m n : ℕ) → 0 < m → 0 < n → 0 < m * n
positive_product (suc m) (suc n) h k = omega arith
positive_product zero n h k = absurd (omega arith)
positive_product m zero h k = absurd (omega arith)

swapped : (x : ℤ) (m n : ℕ) → m ≡ n → x *ℤ pos m ≡ x *ℤ pos n
swapped x m n e = ap (λ (k : ℕ). x *ℤ pos k) e

pub same_comparison : (c : Cmp) (q q' r r' : Rational) → Equals q q' → Equals r r' → compares c q r ≡ compares c q' r'
same_comparison c q q' r r' e f =
    let n = q'.den * r'.den in
    let m = q.den * r.den in
    let left = moved q.num q'.num q.den q'.den r.den r'.den e.crossed in
    let right = swapped (r.num *ℤ pos q.den) (q'.den * r'.den) (r'.den * q'.den) (omega arith) ∙ moved r.num r'.num r.den r'.den q.den q'.den f.crossed ∙ swapped (r'.num *ℤ pos q'.den) (r.den * q.den) (q.den * r.den) (omega arith) in
    sym (orders_kept c (q.num *ℤ pos r.den) (r.num *ℤ pos q.den) n (positive_product q'.den r'.den q'.positive r'.positive))
    ∙ ap (λ z. orders c z (r.num *ℤ pos q.den *ℤ pos n)) left
    ∙ ap (λ z. orders c (q'.num *ℤ pos r'.den *ℤ pos m) z) right
    ∙ orders_kept c (q'.num *ℤ pos r'.den) (r'.num *ℤ pos q'.den) m (positive_product q.den r.den q.positive r.positive)

chained : (a b c : ℤ) (i j k : ℕ) → 0 < j → (a *ℤ pos j) ≤ℤ (b *ℤ pos i) → (b *ℤ pos k) ≤ℤ (c *ℤ pos j) → (a *ℤ pos k) ≤ℤ (c *ℤ pos i)
chained a b c i j k h e f =
    let p = scaled_le (a *ℤ pos j) (b *ℤ pos i) k e in
    let q = scaled_le (b *ℤ pos k) (c *ℤ pos j) i f in
    let s = swap_right b (pos i) (pos k) in
    let u = swap_right a (pos k) (pos j) in
    let v = swap_right c (pos i) (pos j) in
    let r : (a *ℤ pos k *ℤ pos j) ≤ℤ (c *ℤ pos i *ℤ pos j) = omega (arith, ints) in
    unscaled_le (a *ℤ pos k) (c *ℤ pos i) j h r

yes_le : (a b : ℤ) → IsTrue (int_le a b) → a ≤ℤ b
yes_le a b h = grind (arith, ints)

le_yes : (a b : ℤ) → a ≤ℤ b → IsTrue (int_le a b)
le_yes a b h = grind (arith, ints)

pub le_chain : (q r s : Rational) → IsTrue (compares Le q r) → IsTrue (compares Le r s) → IsTrue (compares Le q s)
le_chain q r s e f = le_yes _ _ (chained q.num r.num s.num q.den r.den s.den r.positive (yes_le _ _ e) (yes_le _ _ f))

pub le_both : (q r : Rational) → IsTrue (compares Le q r) → IsTrue (compares Le r q) → Equals q r
le_both q r e f =
    let p = yes_le (q.num *ℤ pos r.den) (r.num *ℤ pos q.den) e in
    let s = yes_le (r.num *ℤ pos q.den) (q.num *ℤ pos r.den) f in
    record { crossed = omega (arith, ints) }

one_way : (a b : ℤ) → IsTrue (int_le a b) ⊎ IsTrue (int_lt b a)
one_way a b = grind (arith, ints)

pub le_or_lt : (q r : Rational) → IsTrue (compares Le q r) ⊎ IsTrue (compares Lt r q)
le_or_lt q r = one_way (q.num *ℤ pos r.den) (r.num *ℤ pos q.den)
