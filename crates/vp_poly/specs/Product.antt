-- The product and the sum of two lists of terms, and the sum over all ways to split a monomial in two.
use Rattle.std.specs.Prelude.{◌≡◌, ℕ, Bool, zero, suc, ◌+◌, ◌-◌, ◌*◌, List, [], ◌∷◌, map, length, max, ℤ, ◌+ℤ◌, ◌*ℤ◌}
use Rattle.vp_terms.specs.Rational.{Equals, product, sum}
use Rattle.vp_poly.specs.declared.mono.Term.{Term}
use Rattle.vp_poly.specs.Poly.{Powers, coef, norm, degree, IsPoly, IsWithin}
use Rattle.vp_poly.specs.Places.{AreBelow, HaveOnly}
use Rattle.vp_poly.specs.Value.{Point, value_at}
use Rattle.vp_poly.specs.Merge.{merged}

-- the exponents of a product
abbrev pub added : Powers → Powers → Powers
added [] ys = ys
added (x ∷ xs) [] = x ∷ xs
added (x ∷ xs) (y ∷ ys) = (x + y) ∷ added xs ys

abbrev pub term_product : Term → Term → Term
term_product x y = record { mono = record { powers = added x.mono.powers y.mono.powers }; coef = x.coef *ℤ y.coef }

-- x times each of these
abbrev pub row : Term → List Term → List Term
row x ys = map (term_product x) ys

-- `out` and the product of the two lists, one row after the other
abbrev pub with_rows : List Term → List Term → List Term → List Term
with_rows out [] ys = out
with_rows out (x ∷ xs) ys = with_rows (merged out (row x ys)) xs ys

-- f 0, f 1 and so on to f n, joined by `plus`
abbrev pub sum_to : {A : Type 0} → (A → A → A) → ℕ → (ℕ → A) → A
sum_to plus zero f = f 0
sum_to plus (suc n) f = plus (sum_to plus n f) (f (suc n))

-- the sum of f a b over all pairs of monomials a and b whose product is this one
abbrev pub over_splits : {A : Type 0} → (A → A → A) → Powers → (Powers → Powers → A) → A
over_splits plus [] f = f [] []
over_splits plus (e ∷ es) f = sum_to plus e (λ i. over_splits plus es (λ a b. f (i ∷ a) ((e - i) ∷ b)))

-- that sum for whole numbers
abbrev pub split_sum : Powers → (Powers → Powers → ℤ) → ℤ
split_sum m f = over_splits (λ x y. x +ℤ y) m f

-- `zs` is the product of two polynomials
pub record IsProduct (xs ys zs : List Term) : Type 0 where
  pub coefficients : (m : Powers) → coef zs m ≡ split_sum m (λ a b. coef xs a *ℤ coef ys b)
  pub values : (a : Point) → Equals (value_at zs a) (product (value_at xs a) (value_at ys a))
  pub poly : IsPoly zs
  pub sizes : IsWithin zs (norm xs * norm ys) (degree xs + degree ys) (length xs * length ys)
  pub places : (v : ℕ) → AreBelow v xs → AreBelow v ys → AreBelow v zs
  pub only : (allowed : ℕ → Bool) → HaveOnly allowed xs → HaveOnly allowed ys → HaveOnly allowed zs

-- `zs` is the sum of two polynomials
pub record IsTotal (xs ys zs : List Term) : Type 0 where
  pub coefficients : (m : Powers) → coef zs m ≡ coef xs m +ℤ coef ys m
  pub values : (a : Point) → Equals (value_at zs a) (sum (value_at xs a) (value_at ys a))
  pub poly : IsPoly zs
  pub sizes : IsWithin zs (norm xs + norm ys) (max (degree xs) (degree ys)) (length xs + length ys)
  pub places : (v : ℕ) → AreBelow v xs → AreBelow v ys → AreBelow v zs
  pub only : (allowed : ℕ → Bool) → HaveOnly allowed xs → HaveOnly allowed ys → HaveOnly allowed zs
