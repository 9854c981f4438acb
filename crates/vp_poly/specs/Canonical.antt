-- What it is to be the canonical polynomial of an expression, and what stands for its variables.
use Rattle.std.specs.Prelude.{◌≡◌, true, List, [], ◌∷◌, ℕ, length, map, pos, replicate, slice_get, slice_set, Bool, IfSome, IsTrue, All}
use Rattle.std.specs.List.{range_with_len}
use Rattle.vp_terms.specs.Rational.{whole}
use Rattle.vp_terms.specs.Places.{place, place_count, has_variable}
use Rattle.vp_terms.specs.Meaning.{Assignment}
use Rattle.vp_terms.specs.declared.expr.Places.{Places}
use Rattle.vp_terms.specs.declared.expr.Var.{Var}
use Rattle.vp_terms.specs.declared.expr.Expr.{Expr}
use Rattle.vp_poly.specs.declared.mono.Term.{Term}
use Rattle.vp_poly.specs.declared.scaled.Scaled.{Scaled}
use Rattle.vp_poly.specs.Poly.{Powers, IsPoly, IsWithin}
use Rattle.vp_poly.specs.Places.{AreBelow, HaveOnly}
use Rattle.vp_poly.specs.Value.{Point, value_at}
use Rattle.vp_poly.specs.Coefficient.{Coefficients, fraction_at}
use Rattle.vp_poly.specs.Times.{IsTimes, HasCoefficients}
use Rattle.vp_poly.specs.Weights.{Weights, fits, weight_in, weight_one}

-- the list of all d * f(m) that aren't 0, in order
pub record IsCanonical (d : ℕ) (ts : List Term) (f : Coefficients) : Type 0 where
  pub poly : IsPoly ts
  pub coefficients : HasCoefficients d ts f

-- norm, degree and number of terms are at most the weight's, and the weight isn't over
pub record IsWeighed (ts : List Term) (w : Weights) : Type 0 where
  pub within : IsWithin ts w.norm w.degree w.terms
  pub fits : fits w ≡ true

-- what may stand for a variable among n places
pub record IsEntry (n : ℕ) (s : Scaled) : Type 0 where
  pub places : AreBelow n s.poly
  pub within : IsWithin s.poly s.weight.norm s.weight.degree s.weight.terms

-- one for each of n places
pub record IsEnvironment (n : ℕ) (env : List Scaled) : Type 0 where
  pub size : length env ≡ n
  pub entries : All (IsEntry n) env

-- the weights of what stands for the variables
abbrev pub weights_of : List Scaled → List Weights
weights_of env = map (λ s. s.weight) env

-- f gives the coefficients of what stands for each variable of the model
pub record StandsFor (p : Places) (env : List Scaled) (f : Var → Coefficients) : Type 0 where
  pub each : (v : Var) → IsTrue (has_variable p v) → IfSome (slice_get env (place p v)) (λ s. HasCoefficients s.weight.den s.poly (f v))

-- at the point x, what stands for each variable of the model has the value that a gives it
pub record StandsAt (p : Places) (env : List Scaled) (x : Point) (a : Assignment) : Type 0 where
  pub each : (v : Var) → IsTrue (has_variable p v) → IfSome (slice_get env (place p v)) (λ s. IsTimes s.weight.den (value_at s.poly x) (a v))

-- what stands for each variable that passes the first test has places alone that pass the second
pub record StandsWithin (p : Places) (env : List Scaled) (used : Var → Bool) (allowed : ℕ → Bool) : Type 0 where
  pub each : (v : Var) → IsTrue (used v) → IfSome (slice_get env (place p v)) (λ s. HaveOnly allowed s.poly)

-- ---- variables that stand for themselves

-- the exponents of the variable at place k
abbrev pub unit : ℕ → Powers
unit k = slice_set (replicate 32 0) k 1

-- the variable at place k, with its weight
abbrev pub itself : ℕ → Scaled
itself k = record { poly = (record { mono = record { powers = unit k }; coef = pos 1 }) ∷ []; weight = weight_one }

-- n variables that stand for themselves, and their weights
abbrev pub selves : ℕ → List Scaled
selves n = map itself (range_with_len 0 n)

abbrev pub own_weights : ℕ → List Weights
own_weights n = weights_of (selves n)

-- the weight of an expression over them
abbrev pub own_weight : Places → Expr → Weights
own_weight p e = weight_in p (own_weights (place_count p)) e

-- the coefficients of the variables
abbrev pub variables : Places → Var → Coefficients
variables p v m = fraction_at (unit (place p v)) m (whole (pos 1))

-- the values of the variables at a point
abbrev pub values_at : Places → Point → Assignment
values_at p x v = x (place p v)
