-- Intervals as the code computes them: products by four corners from the left, terms from their first power.
use Rattle.std.specs.Prelude.{ℕ, zero, suc, ◌-◌, ◌%◌, nat_eq, if◌then◌else◌, ℤ, pos, neg_ℤ, List, [], ◌∷◌, Option, Some, None}
use Rattle.std.specs.Int.{int_max}
use Rattle.vp_words.specs.Number.{lower_product, upper_product}
use Rattle.vp_poly.specs.declared.mono.Term.{Term}
use Rattle.vp_interval.specs.Rounding.{Ends, point, product, sum}

-- a product of n + 2 factors a, from the left
abbrev pub times_over : (ℤ → ℤ → ℤ) → ℤ → ℕ → ℤ
times_over f a zero = f a a
times_over f a (suc n) = f (times_over f a n) a

-- the power n + 2, where that is even
abbrev pub even_power : Ends → ℕ → Ends
even_power v n = record {
  lo = times_over lower_product (int_max (int_max v.lo (neg_ℤ v.hi)) (pos 0)) n;
  hi = times_over upper_product (int_max (neg_ℤ v.lo) v.hi) n;
}

-- the power k, for k from 1 on
abbrev pub power : Ends → ℕ → Ends
power v k = if nat_eq k 1 then v else (if nat_eq (k % 2) 0 then even_power v (k - 2) else product v (even_power v (k - 3)))

-- v times these powers
abbrev pub times_factors : Ends → List ℕ → List Ends → Ends
times_factors v [] boxes = v
times_factors v (k ∷ ks) [] = v
times_factors v (k ∷ ks) (box ∷ boxes) = times_factors (if nat_eq k 0 then v else product v (power box k)) ks boxes

-- the product of these powers, where there are any
abbrev pub front : List ℕ → List Ends → Option Ends
front [] boxes = None
front (k ∷ ks) [] = None
front (k ∷ ks) (box ∷ boxes) = if nat_eq k 0 then front ks boxes else Some (times_factors (power box k) ks boxes)

abbrev pub times_point : Option Ends → Ends → Ends
times_point None w = w
times_point (Some v) w = product v w

abbrev pub of_term : Term → List Ends → Ends
of_term t boxes = times_point (front t.mono.powers boxes) (point t.coef)

abbrev pub add_terms : Ends → List Term → List Ends → Ends
add_terms v [] boxes = v
add_terms v (t ∷ ts) boxes = add_terms (sum v (of_term t boxes)) ts boxes

abbrev pub of_poly : List Term → List Ends → Ends
of_poly [] boxes = point (pos 0)
of_poly (t ∷ ts) boxes = add_terms (of_term t boxes) ts boxes
