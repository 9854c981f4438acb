-- The value of a polynomial.
use Rattle.std.specs.Prelude.{ℕ, suc, List, [], ◌∷◌, pos}
use Rattle.vp_terms.specs.Rational.{Rational, whole, sum, product, power}
use Rattle.vp_poly.specs.declared.mono.Term.{Term}

-- a rational for each place
abbrev pub Point : Type 0
Point = ℕ → Rational

-- the product of the powers of the places from k on
abbrev pub powers_value : ℕ → List ℕ → Point → Rational
powers_value k [] a = whole (pos 1)
powers_value k (e ∷ es) a = product (power (a k) e) (powers_value (suc k) es a)

abbrev pub value_at : List Term → Point → Rational
value_at [] a = whole (pos 0)
value_at (t ∷ ts) a = sum (product (whole t.coef) (powers_value 0 t.mono.powers a)) (value_at ts a)
