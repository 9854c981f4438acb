-- The weights of expressions: bounds on a canonical polynomial that are computed from the expression alone.
use Rattle.std.specs.Prelude.{ℕ, ◌+◌, ◌*◌, ◌/◌, ◌-◌, ◌^◌, min, max, Bool, ◌&&◌, nat_lt, if◌then◌else◌, ℤ, pos, unsigned_abs, List, slice_get, unwrap_or}
use Rattle.std.specs.Ordering.{int_eq}
use Rattle.vp_terms.specs.Places.{place}
use Rattle.vp_terms.specs.declared.expr.Places.{Places}
use Rattle.vp_terms.specs.declared.expr.Var.{Var}
use Rattle.vp_terms.specs.declared.expr.Expr.{Expr}
use Rattle.vp_terms.specs.declared.expr.Expr.TheVariants.{Num, Var as Variable, Add', Sub', Mul', Pow'}
use Rattle.vp_poly.specs.Lcm.{lcm}

-- bounds on norm, degree and number of terms, and the denominator that the polynomial is multiplied by
pub record Weights : Type 0 where
  pub norm : ℕ
  pub den : ℕ
  pub degree : ℕ
  pub terms : ℕ

-- where norm and den saturate, and where degree and terms do
abbrev pub most : ℕ
most = 2 ^ 127 - 1

abbrev pub most_terms : ℕ
most_terms = 2 ^ 32 - 1

-- not over the limits
abbrev pub fits : Weights → Bool
fits w = nat_lt w.norm (2 ^ 62) && nat_lt w.den (2 ^ 62) && nat_lt w.degree 13 && nat_lt w.terms 4097

-- the norm where no part is over
abbrev pub norm_if : Bool → ℕ → ℕ
norm_if ok n = if ok then min n most else most

abbrev pub weight_number : ℤ → ℤ → Weights
weight_number n d = record { norm = unsigned_abs n; den = unsigned_abs d; degree = 0; terms = if int_eq n (pos 0) then 0 else 1 }

-- over the least common denominator
abbrev pub weight_sum : Weights → Weights → Weights
weight_sum a b = record {
  norm = norm_if (fits a && fits b) (a.norm * (lcm a.den b.den / a.den) + b.norm * (lcm a.den b.den / b.den));
  den = min (lcm a.den b.den) most;
  degree = max a.degree b.degree;
  terms = min (a.terms + b.terms) most_terms;
}

abbrev pub weight_product : Weights → Weights → Weights
weight_product a b = record {
  norm = norm_if (fits a && fits b) (a.norm * b.norm);
  den = min (a.den * b.den) most;
  degree = min (a.degree + b.degree) most_terms;
  terms = min (a.terms * b.terms) most_terms;
}

abbrev pub weight_power : Weights → ℕ → Weights
weight_power a k = record {
  norm = norm_if (fits a) (a.norm ^ k);
  den = min (a.den ^ k) most;
  degree = min (k * a.degree) most_terms;
  terms = min (a.terms ^ k) most_terms;
}

-- the weight of an expression, with `env` the weights of what stands for each variable
abbrev pub weight : (Var → Weights) → Expr → Weights
weight env (Num r) = weight_number r.num r.den
weight env (Variable v) = env v
weight env (Add' p e q f) = weight_sum (weight env e) (weight env f)
weight env (Sub' p e q f) = weight_sum (weight env e) (weight env f)
weight env (Mul' p e q f) = weight_product (weight env e) (weight env f)
weight env (Pow' p e n) = weight_power (weight env e) n

-- the weight of zero
abbrev pub weight_zero : Weights
weight_zero = record { norm = 0; den = 1; degree = 0; terms = 0 }

-- the weight of a variable that stands for itself
abbrev pub weight_one : Weights
weight_one = record { norm = 1; den = 1; degree = 1; terms = 1 }

-- the weight at a variable's place; zero's stands for one that is missing
abbrev pub weight_at : Places → List Weights → Var → Weights
weight_at p ws v = unwrap_or (slice_get ws (place p v)) weight_zero

-- the weight of an expression over the weights of the places
abbrev pub weight_in : Places → List Weights → Expr → Weights
weight_in p ws e = weight (weight_at p ws) e

-- the weight of the difference of two expressions
abbrev pub weight_between : Places → List Weights → Expr → Expr → Weights
weight_between p ws e f = weight_sum (weight_in p ws e) (weight_in p ws f)
