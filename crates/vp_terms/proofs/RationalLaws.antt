-- Laws of the rationals by cross multiplication.
use Rattle.std.proofs.Common.{◌≡◌, ℕ, ◌+◌, ◌*◌, ◌<◌, refl, sym, ap, ◌∙◌, arith, zero, suc, ℤ, pos, ◌+ℤ◌, ◌-ℤ◌, ◌*ℤ◌}
use Rattle.std.proofs.lemmas.Int.{ints}
use borrow.Author.Differences.{up, down}
use Rattle.vp_terms.proofs.Lowest.{same_from_scaled}
use Rattle.vp_terms.proofs.Gaps.{gap-of, gap-same, gaps}
use Rattle.vp_terms.specs.Rational.{Rational, whole, sum, difference, product, power, Equals}

-- a common factor that is not 0 cancels
pub cancel : (a b : ℤ) (k : ℕ) → 0 < k → a *ℤ pos k ≡ b *ℤ pos k → a ≡ b
cancel a b k h e =
    let same : (up a + down b) * k ≡ (up b + down a) * k = omega (arith, ints) in
    let here = same_from_scaled (up a + down b) (up b + down a) k h same in
    omega (arith, ints)

pub Equals-refl : (q : Rational) → Equals q q
Equals-refl q = record { crossed = refl }

pub Equals-sym : (q r : Rational) → Equals q r → Equals r q
Equals-sym q r e = record { crossed = sym e.crossed }

pub swap_right : (a b c : ℤ) → a *ℤ b *ℤ c ≡ a *ℤ c *ℤ b
swap_right a b c = rw (gap-of a, gap-of b, gap-of c) (simp gaps (gap-same _ _ _ _ (omega arith)))

trans : (a b c : ℤ) (i j k : ℕ) → 0 < j → a *ℤ pos j ≡ b *ℤ pos i → b *ℤ pos k ≡ c *ℤ pos j → a *ℤ pos k ≡ c *ℤ pos i
trans a b c i j k h e f =
    cancel _ _ j h (swap_right a (pos k) (pos j) ∙ ap (λ z. z *ℤ pos k) e ∙ swap_right b (pos i) (pos k) ∙ ap (λ z. z *ℤ pos i) f ∙ swap_right c (pos j) (pos i))

pub Equals-trans : (q r s : Rational) → Equals q r → Equals r s → Equals q s
Equals-trans q r s e f = record { crossed = trans q.num r.num s.num q.den r.den s.den r.positive e.crossed f.crossed }

sums_apart : (a c : ℤ) (i j k l : ℕ) → (a *ℤ pos k +ℤ c *ℤ pos i) *ℤ pos (j * l) ≡ (a *ℤ pos j) *ℤ pos (k * l) +ℤ (c *ℤ pos l) *ℤ pos (i * j)
sums_apart a c i j k l = rw (gap-of a, gap-of c) (simp gaps (gap-same _ _ _ _ (omega arith)))

sums_joined : (b d : ℤ) (i j k l : ℕ) → (b *ℤ pos i) *ℤ pos (k * l) +ℤ (d *ℤ pos k) *ℤ pos (i * j) ≡ (b *ℤ pos l +ℤ d *ℤ pos j) *ℤ pos (i * k)
sums_joined b d i j k l = rw (gap-of b, gap-of d) (simp gaps (gap-same _ _ _ _ (omega arith)))

sums : (a b c d : ℤ) (i j k l : ℕ) → a *ℤ pos j ≡ b *ℤ pos i → c *ℤ pos l ≡ d *ℤ pos k → (a *ℤ pos k +ℤ c *ℤ pos i) *ℤ pos (j * l) ≡ (b *ℤ pos l +ℤ d *ℤ pos j) *ℤ pos (i * k)
sums a b c d i j k l e f = let p = sums_apart a c i j k l in let q = sums_joined b d i j k l in rw p (rw (e, f) q)

pub Equals-sum : (q q' r r' : Rational) → Equals q q' → Equals r r' → Equals (sum q r) (sum q' r')
Equals-sum q q' r r' e f = record { crossed = sums q.num q'.num r.num r'.num q.den q'.den r.den r'.den e.crossed f.crossed }

differences_apart : (a c : ℤ) (i j k l : ℕ) → (a *ℤ pos k -ℤ c *ℤ pos i) *ℤ pos (j * l) ≡ (a *ℤ pos j) *ℤ pos (k * l) -ℤ (c *ℤ pos l) *ℤ pos (i * j)
differences_apart a c i j k l = rw (gap-of a, gap-of c) (simp gaps (gap-same _ _ _ _ (omega arith)))

differences_joined : (b d : ℤ) (i j k l : ℕ) → (b *ℤ pos i) *ℤ pos (k * l) -ℤ (d *ℤ pos k) *ℤ pos (i * j) ≡ (b *ℤ pos l -ℤ d *ℤ pos j) *ℤ pos (i * k)
differences_joined b d i j k l = rw (gap-of b, gap-of d) (simp gaps (gap-same _ _ _ _ (omega arith)))

differences : (a b c d : ℤ) (i j k l : ℕ) → a *ℤ pos j ≡ b *ℤ pos i → c *ℤ pos l ≡ d *ℤ pos k → (a *ℤ pos k -ℤ c *ℤ pos i) *ℤ pos (j * l) ≡ (b *ℤ pos l -ℤ d *ℤ pos j) *ℤ pos (i * k)
differences a b c d i j k l e f = let p = differences_apart a c i j k l in let q = differences_joined b d i j k l in rw p (rw (e, f) q)

pub Equals-difference : (q q' r r' : Rational) → Equals q q' → Equals r r' → Equals (difference q r) (difference q' r')
Equals-difference q q' r r' e f = record { crossed = differences q.num q'.num r.num r'.num q.den q'.den r.den r'.den e.crossed f.crossed }

products_apart : (a c : ℤ) (j l : ℕ) → (a *ℤ c) *ℤ pos (j * l) ≡ (a *ℤ pos j) *ℤ (c *ℤ pos l)
products_apart a c j l = rw (gap-of a, gap-of c) (simp gaps (gap-same _ _ _ _ (omega arith)))

products : (a b c d : ℤ) (i j k l : ℕ) → a *ℤ pos j ≡ b *ℤ pos i → c *ℤ pos l ≡ d *ℤ pos k → (a *ℤ c) *ℤ pos (j * l) ≡ (b *ℤ d) *ℤ pos (i * k)
products a b c d i j k l e f = products_apart a c j l ∙ ap (λ z. z *ℤ (c *ℤ pos l)) e ∙ ap (λ z. (b *ℤ pos i) *ℤ z) f ∙ sym (products_apart b d i k)

pub Equals-product : (q q' r r' : Rational) → Equals q q' → Equals r r' → Equals (product q r) (product q' r')
Equals-product q q' r r' e f = record { crossed = products q.num q'.num r.num r'.num q.den q'.den r.den r'.den e.crossed f.crossed }

pub Equals-power : (q q' : Rational) (n : ℕ) → Equals q q' → Equals (power q n) (power q' n)
Equals-power q q' zero e = record { crossed = refl }
Equals-power q q' (suc n) e = Equals-product q q' (power q n) (power q' n) e (Equals-power q q' n e)

distributes : (a b c : ℤ) (i j k : ℕ) → (a *ℤ (b *ℤ pos k +ℤ c *ℤ pos j)) *ℤ pos ((i * j) * (i * k)) ≡ ((a *ℤ b) *ℤ pos (i * k) +ℤ (a *ℤ c) *ℤ pos (i * j)) *ℤ pos (i * (j * k))
distributes a b c i j k = rw (gap-of a, gap-of b, gap-of c) (simp gaps (gap-same _ _ _ _ (omega arith)))

pub product-distributes : (q r s : Rational) → Equals (product q (sum r s)) (sum (product q r) (product q s))
product-distributes q r s = record { crossed = distributes q.num r.num s.num q.den r.den s.den }

commutes : (a b : ℤ) (i j : ℕ) → (a *ℤ pos j +ℤ b *ℤ pos i) *ℤ pos (j * i) ≡ (b *ℤ pos i +ℤ a *ℤ pos j) *ℤ pos (i * j)
commutes a b i j = rw (gap-of a, gap-of b) (simp gaps (gap-same _ _ _ _ (omega arith)))

pub sum-comm : (q r : Rational) → Equals (sum q r) (sum r q)
sum-comm q r = record { crossed = commutes q.num r.num q.den r.den }

associates : (a b c : ℤ) (i j k : ℕ) → ((a *ℤ pos j +ℤ b *ℤ pos i) *ℤ pos k +ℤ c *ℤ pos (i * j)) *ℤ pos (i * (j * k)) ≡ (a *ℤ pos (j * k) +ℤ (b *ℤ pos k +ℤ c *ℤ pos j) *ℤ pos i) *ℤ pos ((i * j) * k)
associates a b c i j k = rw (gap-of a, gap-of b, gap-of c) (simp gaps (gap-same _ _ _ _ (omega arith)))

pub sum-assoc : (q r s : Rational) → Equals (sum (sum q r) s) (sum q (sum r s))
sum-assoc q r s = record { crossed = associates q.num r.num s.num q.den r.den s.den }

pub chain : {q r s : Rational} → Equals q r → Equals r s → Equals q s
chain {q} {r} {s} e f = Equals-trans q r s e f

interchanged : (a b c d : ℤ) (i j k l : ℕ) → ((a *ℤ pos j +ℤ b *ℤ pos i) *ℤ pos (k * l) +ℤ (c *ℤ pos l +ℤ d *ℤ pos k) *ℤ pos (i * j)) *ℤ pos ((i * k) * (j * l)) ≡ ((a *ℤ pos k +ℤ c *ℤ pos i) *ℤ pos (j * l) +ℤ (b *ℤ pos l +ℤ d *ℤ pos j) *ℤ pos (i * k)) *ℤ pos ((i * j) * (k * l))
interchanged a b c d i j k l = rw (gap-of a, gap-of b, gap-of c, gap-of d) (simp gaps (gap-same _ _ _ _ (omega arith)))

pub sum-interchange : (q r s t : Rational) → Equals (sum (sum q r) (sum s t)) (sum (sum q s) (sum r t))
sum-interchange q r s t = record { crossed = interchanged q.num r.num s.num t.num q.den r.den s.den t.den }

split : (c d n : ℤ) (i : ℕ) → ((c +ℤ d) *ℤ n) *ℤ pos ((1 * i) * (1 * i)) ≡ ((c *ℤ n) *ℤ pos (1 * i) +ℤ (d *ℤ n) *ℤ pos (1 * i)) *ℤ pos (1 * i)
split c d n i = rw (gap-of c, gap-of d, gap-of n) (simp gaps (gap-same _ _ _ _ (omega arith)))

pub product-whole_sum : (c d : ℤ) (q : Rational) → Equals (product (whole (c +ℤ d)) q) (sum (product (whole c) q) (product (whole d) q))
product-whole_sum c d q = record { crossed = split c d q.num q.den }

none : (n m : ℤ) (i j : ℕ) → m *ℤ pos ((1 * i) * j) ≡ ((pos 0 *ℤ n) *ℤ pos j +ℤ m *ℤ pos (1 * i)) *ℤ pos j
none n m i j = rw (gap-of n, gap-of m, gap-of (pos 0)) (simp gaps (gap-same _ _ _ _ (omega arith)))

pub sum-no_product : (z : ℤ) (q r : Rational) → z ≡ pos 0 → Equals r (sum (product (whole z) q) r)
sum-no_product z q r e = record { crossed = rw e (none q.num r.num q.den r.den) }

zero_right : (n : ℤ) (i : ℕ) → n *ℤ pos (i * 1) ≡ (n *ℤ pos 1 +ℤ pos 0 *ℤ pos i) *ℤ pos i
zero_right n i = rw (gap-of n) (simp gaps (gap-same _ _ _ _ (omega arith)))

pub sum-zero : (q : Rational) → Equals q (sum q (whole (pos 0)))
sum-zero q = record { crossed = zero_right q.num q.den }
