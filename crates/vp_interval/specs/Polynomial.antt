-- The interval of a polynomial where each place has a box.
use Rattle.std.specs.Prelude.{ℕ, zero, suc, ◌<◌, ◌^◌, List, [], ◌∷◌, Option, None, Some, All, map, pos, unsigned_abs, unwrap_or}
use Rattle.std.specs.List.{reduce}
use Rattle.vp_poly.specs.declared.mono.Term.{Term}
use Rattle.vp_interval.specs.Rounding.{Ends, point, sum, product, power}

-- the coefficients are below 2^62 in size
abbrev pub AreSmall : List Term → Type 0
AreSmall ts = All (λ t. unsigned_abs t.coef < 2 ^ 62) ts

-- the powers of a monomial, in the order of places; a place with exponent 0 gives none
abbrev pub powers_of : List ℕ → List Ends → List Ends
powers_of [] boxes = []
powers_of (e ∷ es) [] = []
powers_of (zero ∷ es) (b ∷ bs) = powers_of es bs
powers_of (suc n ∷ es) (b ∷ bs) = power b (suc n) ∷ powers_of es bs

-- a further member, if there are some already
abbrev pub joined : (Ends → Ends → Ends) → Option Ends → Ends → Ends
joined op None w = w
joined op (Some v) w = op v w

-- a term: its powers multiplied from left to right, and then its coefficient
abbrev pub of_term : List Ends → Term → Ends
of_term boxes t = joined product (reduce product (powers_of t.mono.powers boxes)) (point t.coef)

-- a polynomial: its terms added from left to right; zero has both ends 0
abbrev pub interval_of : List Ends → List Term → Ends
interval_of boxes ts = unwrap_or (reduce sum (map (of_term boxes) ts)) (point (pos 0))
