-- Products of rationals commute, associate, and have 1.
use Rattle.std.proofs.Common.{◌≡◌, ◌*◌, ℕ, ℤ, pos, ◌*ℤ◌, arith}
use Rattle.vp_terms.specs.Rational.{Rational, whole, product, Equals}
use Rattle.vp_terms.proofs.Gaps.{gap-of, gap-same, gaps}

one_right : (n : ℤ) (d : ℕ) → (n *ℤ pos 1) *ℤ pos d ≡ n *ℤ pos (d * 1)
one_right n d = rw (gap-of n) (simp gaps (gap-same _ _ _ _ (omega arith)))

pub product-one : (q : Rational) → Equals (product q (whole (pos 1))) q
product-one q = record { crossed = one_right q.num q.den }

one_left : (n : ℤ) (d : ℕ) → (pos 1 *ℤ n) *ℤ pos d ≡ n *ℤ pos (1 * d)
one_left n d = rw (gap-of n) (simp gaps (gap-same _ _ _ _ (omega arith)))

pub one-product : (q : Rational) → Equals (product (whole (pos 1)) q) q
one-product q = record { crossed = one_left q.num q.den }

swapped : (m n : ℤ) (d e : ℕ) → (m *ℤ n) *ℤ pos (e * d) ≡ (n *ℤ m) *ℤ pos (d * e)
swapped m n d e = rw (gap-of m, gap-of n) (simp gaps (gap-same _ _ _ _ (omega arith)))

pub product-comm : (q r : Rational) → Equals (product q r) (product r q)
product-comm q r = record { crossed = swapped q.num r.num q.den r.den }

regrouped : (l m n : ℤ) (c d e : ℕ) → ((l *ℤ m) *ℤ n) *ℤ pos (c * (d * e)) ≡ (l *ℤ (m *ℤ n)) *ℤ pos ((c * d) * e)
regrouped l m n c d e = rw (gap-of l, gap-of m, gap-of n) (simp gaps (gap-same _ _ _ _ (omega arith)))

pub product-assoc : (q r s : Rational) → Equals (product (product q r) s) (product q (product r s))
product-assoc q r s = record { crossed = regrouped q.num r.num s.num q.den r.den s.den }
