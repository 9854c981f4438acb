-- Values of polynomials at whole numbers.
use Rattle.std.specs.Prelude.{◌≡◌, ℕ, zero, suc, List, [], ◌∷◌, ℤ, pos, ◌+ℤ◌, ◌*ℤ◌}
use Rattle.vp_terms.specs.Rational.{Rational}
use Rattle.vp_poly.specs.declared.mono.Term.{Term}

-- the rational is this whole number, over 1
pub record IsWhole (q : Rational) (n : ℤ) : Type 0 where
  pub num : q.num ≡ n
  pub den : q.den ≡ 1

-- the repeated product; the power 0 is 1
abbrev pub whole_power : ℤ → ℕ → ℤ
whole_power z zero = pos 1
whole_power z (suc n) = z *ℤ whole_power z n

-- the product of the powers of the places from k on
abbrev pub whole_powers : ℕ → List ℕ → (ℕ → ℤ) → ℤ
whole_powers k [] z = pos 1
whole_powers k (zero ∷ es) z = whole_powers (suc k) es z
whole_powers k (suc n ∷ es) z = whole_power (z k) (suc n) *ℤ whole_powers (suc k) es z

-- the value where each place has this whole number
abbrev pub whole_value : List Term → (ℕ → ℤ) → ℤ
whole_value [] z = pos 0
whole_value (t ∷ ts) z = (t.coef *ℤ whole_powers 0 t.mono.powers z) +ℤ whole_value ts z
