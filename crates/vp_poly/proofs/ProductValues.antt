-- Values of products.
use Rattle.std.proofs.Common.{◌≡◌, ℕ, zero, suc, ◌+◌, ◌*◌, List, [], ◌∷◌, refl, sym, arith, zero-add, subst, ℤ, pos, ◌*ℤ◌}
use Rattle.vp_terms.specs.Rational.{Rational, whole, sum, product, power, Equals}
use Rattle.vp_terms.proofs.Gaps.{gap-of, gap-same, gaps}
use Rattle.vp_terms.proofs.RationalLaws.{chain, Equals-refl, Equals-sym, Equals-sum, Equals-product, sum-assoc, sum-comm, sum-zero, product-distributes}
use Rattle.vp_poly.specs.declared.mono.Term.{Term}
use Rattle.vp_poly.specs.Poly.{Powers, scaled}
use Rattle.vp_poly.specs.Merge.{merged}
use Rattle.vp_poly.specs.Product.{added, term_product, row, with_rows}
use Rattle.vp_poly.specs.Value.{Point, powers_value, value_at}
use Rattle.vp_poly.proofs.ValueLaws.{term_value, value_at-merged}

-- ---- laws of the rationals

assoc : (a b c : ℤ) (i j k : ℕ) → ((a *ℤ b) *ℤ c) *ℤ pos (i * (j * k)) ≡ (a *ℤ (b *ℤ c)) *ℤ pos ((i * j) * k)
assoc a b c i j k = rw (gap-of a, gap-of b, gap-of c) (simp gaps (gap-same _ _ _ _ (omega arith)))

pub product-assoc : (q r s : Rational) → Equals (product (product q r) s) (product q (product r s))
product-assoc q r s = record { crossed = assoc q.num r.num s.num q.den r.den s.den }

comm : (a b : ℤ) (i j : ℕ) → (a *ℤ b) *ℤ pos (j * i) ≡ (b *ℤ a) *ℤ pos (i * j)
comm a b i j = rw (gap-of a, gap-of b) (simp gaps (gap-same _ _ _ _ (omega arith)))

pub product-comm : (q r : Rational) → Equals (product q r) (product r q)
product-comm q r = record { crossed = comm q.num r.num q.den r.den }

one_left : (a : ℤ) (i : ℕ) → a *ℤ pos (1 * i) ≡ (pos 1 *ℤ a) *ℤ pos i
one_left a i = rw (gap-of a) (simp gaps (gap-same _ _ _ _ (omega arith)))

pub product-one : (q : Rational) → Equals q (product (whole (pos 1)) q)
product-one q = record { crossed = one_left q.num q.den }

crossed_over : (a b c d : ℤ) (i j k l : ℕ) → ((a *ℤ b) *ℤ (c *ℤ d)) *ℤ pos ((i * k) * (j * l)) ≡ ((a *ℤ c) *ℤ (b *ℤ d)) *ℤ pos ((i * j) * (k * l))
crossed_over a b c d i j k l = rw (gap-of a, gap-of b, gap-of c, gap-of d) (simp gaps (gap-same _ _ _ _ (omega arith)))

pub product-interchange : (q r s t : Rational) → Equals (product (product q r) (product s t)) (product (product q s) (product r t))
product-interchange q r s t = record { crossed = crossed_over q.num r.num s.num t.num q.den r.den s.den t.den }

nothing : (a : ℤ) (i : ℕ) → (pos 0 *ℤ a) *ℤ pos 1 ≡ pos 0 *ℤ pos (1 * i)
nothing a i = rw (gap-of a, gap-of (pos 0)) (simp gaps (gap-same _ _ _ _ (omega arith)))

pub zero-product : (q : Rational) → Equals (product (whole (pos 0)) q) (whole (pos 0))
zero-product q = record { crossed = nothing q.num q.den }

pub whole-product : (a b : ℤ) → Equals (whole (a *ℤ b)) (product (whole a) (whole b))
whole-product a b = record { crossed = refl }

pub product-distributes_right : (q r s : Rational) → Equals (product (sum q r) s) (sum (product q s) (product r s))
product-distributes_right q r s =
    chain (product-comm (sum q r) s) (chain (product-distributes s q r) (Equals-sum _ _ _ _ (product-comm s q) (product-comm s r)))

pub product-zero : (q : Rational) → Equals (product q (whole (pos 0))) (whole (pos 0))
product-zero q = chain (product-comm q (whole (pos 0))) (zero-product q)

-- ---- powers

pub power-add : (q : Rational) (m n : ℕ) → Equals (power q (m + n)) (product (power q m) (power q n))
power-add q zero n = subst (λ (k : ℕ). Equals (power q k) (product (whole (pos 1)) (power q n))) (sym (zero-add n)) (product-one (power q n))
power-add q (suc m) n =
    subst (λ (k : ℕ). Equals (power q k) (product (product q (power q m)) (power q n))) (let e : suc (m + n) ≡ suc m + n = omega arith in e)
    (chain (Equals-product _ _ _ _ (Equals-refl q) (power-add q m n)) (Equals-sym _ _ (product-assoc q (power q m) (power q n))))

pub powers_value-added : (k : ℕ) (p q : Powers) (a : Point) → Equals (powers_value k (added p q) a) (product (powers_value k p a) (powers_value k q a))
powers_value-added k [] q a = product-one (powers_value k q a)
powers_value-added k (x ∷ p) [] a = chain (product-one (powers_value k (x ∷ p) a)) (product-comm (whole (pos 1)) (powers_value k (x ∷ p) a))
powers_value-added k (x ∷ p) (y ∷ q) a =
    chain (Equals-product _ _ _ _ (power-add (a k) x y) (powers_value-added (suc k) p q a))
    (product-interchange (power (a k) x) (power (a k) y) (powers_value (suc k) p a) (powers_value (suc k) q a))

-- ---- products

term_value-product : (x y : Term) (a : Point) → Equals (term_value (term_product x y) a) (product (term_value x a) (term_value y a))
term_value-product x y a =
    chain (Equals-product _ _ _ _ (whole-product x.coef y.coef) (powers_value-added 0 x.mono.powers y.mono.powers a))
    (product-interchange (whole x.coef) (whole y.coef) (powers_value 0 x.mono.powers a) (powers_value 0 y.mono.powers a))

value_at-row : (x : Term) (ys : List Term) (a : Point) → Equals (value_at (row x ys) a) (product (term_value x a) (value_at ys a))
value_at-row x [] a = Equals-sym _ _ (product-zero (term_value x a))
value_at-row x (y ∷ ys) a =
    chain (Equals-sum _ _ _ _ (term_value-product x y a) (value_at-row x ys a))
    (Equals-sym _ _ (product-distributes (term_value x a) (term_value y a) (value_at ys a)))

-- the value of the rows is the product of the values
pub value_at-with_rows : (out xs ys : List Term) (a : Point) → Equals (value_at (with_rows out xs ys) a) (sum (value_at out a) (product (value_at xs a) (value_at ys a)))
value_at-with_rows out [] ys a =
    chain (sum-zero (value_at out a)) (Equals-sum _ _ _ _ (Equals-refl (value_at out a)) (Equals-sym _ _ (zero-product (value_at ys a))))
value_at-with_rows out (x ∷ xs) ys a =
    chain (value_at-with_rows (merged out (row x ys)) xs ys a)
    (chain (Equals-sum _ _ _ _ (chain (value_at-merged out (row x ys) a) (Equals-sum _ _ _ _ (Equals-refl (value_at out a)) (value_at-row x ys a))) (Equals-refl (product (value_at xs a) (value_at ys a))))
    (chain (sum-assoc (value_at out a) (product (term_value x a) (value_at ys a)) (product (value_at xs a) (value_at ys a)))
    (Equals-sum _ _ _ _ (Equals-refl (value_at out a)) (Equals-sym _ _ (product-distributes_right (term_value x a) (value_at xs a) (value_at ys a))))))

pub value_at-product : (xs ys : List Term) (a : Point) → Equals (value_at (with_rows [] xs ys) a) (product (value_at xs a) (value_at ys a))
value_at-product xs ys a =
    chain (value_at-with_rows [] xs ys a)
    (chain (sum-comm (whole (pos 0)) (product (value_at xs a) (value_at ys a))) (Equals-sym _ _ (sum-zero (product (value_at xs a) (value_at ys a)))))

pub value_at-scaled : (k : ℤ) (ts : List Term) (a : Point) → Equals (value_at (scaled k ts) a) (product (whole k) (value_at ts a))
value_at-scaled k [] a = Equals-sym _ _ (product-zero (whole k))
value_at-scaled k (t ∷ ts) a =
    let q = powers_value 0 t.mono.powers a in
    chain (Equals-sum _ _ _ _ (chain (Equals-product _ _ _ _ (whole-product k t.coef) (Equals-refl q)) (product-assoc (whole k) (whole t.coef) q)) (value_at-scaled k ts a))
    (Equals-sym _ _ (product-distributes (whole k) (term_value t a) (value_at ts a)))
