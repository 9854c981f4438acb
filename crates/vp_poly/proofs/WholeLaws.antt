-- The value of a polynomial at whole numbers is whole.
use Rattle.std.proofs.Common.{◌≡◌, refl, subst, ℕ, zero, suc, ℤ, pos, ◌+ℤ◌, ◌*ℤ◌, List, [], ◌∷◌, arith}
use Rattle.std.proofs.lemmas.Int.{ints}
use Rattle.vp_terms.specs.Rational.{Rational, whole, sum, product, power}
use Rattle.vp_poly.specs.declared.mono.Term.{Term}
use Rattle.vp_poly.specs.Value.{Point, value_at, powers_value}
use Rattle.vp_poly.specs.Whole.{IsWhole, whole_power, whole_powers, whole_value}

left_one : (x : ℤ) → pos 1 *ℤ x ≡ x
left_one x = omega (arith, ints)

product_whole : (q r : Rational) (m n : ℤ) → IsWhole q m → IsWhole r n → IsWhole (product q r) (m *ℤ n)
product_whole q r m n h k = record { num = rw (h.num, k.num) refl; den = rw (h.den, k.den) refl }

sum_whole : (q r : Rational) (m n : ℤ) → IsWhole q m → IsWhole r n → IsWhole (sum q r) (m +ℤ n)
sum_whole q r m n h k = record { num = rw (h.num, k.num, h.den, k.den) (omega (arith, ints)); den = rw (h.den, k.den) refl }

module _ (z : ℕ → ℤ) where
  at : Point
  at k = whole (z k)

  power_whole : (k n : ℕ) → IsWhole (power (at k) n) (whole_power (z k) n)
  unfolding at
  power_whole k zero = record { num = refl; den = refl }
  power_whole k (suc n) = product_whole (whole (z k)) (power (at k) n) (z k) (whole_power (z k) n) (record { num = refl; den = refl }) (power_whole k n)

  powers_whole : (k : ℕ) (es : List ℕ) → IsWhole (powers_value k es at) (whole_powers k es z)
  unfolding at
  powers_whole k [] = record { num = refl; den = refl }
  powers_whole k (zero ∷ es) =
      subst (IsWhole (product (whole (pos 1)) (powers_value (suc k) es at))) (left_one (whole_powers (suc k) es z))
      (product_whole (whole (pos 1)) (powers_value (suc k) es at) (pos 1) (whole_powers (suc k) es z) (record { num = refl; den = refl }) (powers_whole (suc k) es))
  powers_whole k (suc n ∷ es) = product_whole (power (at k) (suc n)) (powers_value (suc k) es at) (whole_power (z k) (suc n)) (whole_powers (suc k) es z) (power_whole k (suc n)) (powers_whole (suc k) es)

  pub value_whole : (ts : List Term) → IsWhole (value_at ts (λ k. whole (z k))) (whole_value ts z)
  unfolding at
  value_whole [] = record { num = refl; den = refl }
  value_whole (t ∷ ts) =
      sum_whole (product (whole t.coef) (powers_value 0 t.mono.powers at)) (value_at ts at) (t.coef *ℤ whole_powers 0 t.mono.powers z) (whole_value ts z)
      (product_whole (whole t.coef) (powers_value 0 t.mono.powers at) t.coef (whole_powers 0 t.mono.powers z) (record { num = refl; den = refl }) (powers_whole 0 t.mono.powers)) (value_whole ts)
