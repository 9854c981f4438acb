-- Weights over unbounded numbers.
use Rattle.std.specs.Prelude.{ℕ, ◌+◌, ◌*◌, ◌/◌, ◌^◌, max, Bool, ◌&&◌}
use Rattle.vp_terms.specs.declared.expr.Var.{Var}
use Rattle.vp_terms.specs.declared.expr.Expr.{Expr}
use Rattle.vp_terms.specs.declared.expr.Expr.TheVariants.{Num, Var as Variable, Add', Sub', Mul', Pow'}
use Rattle.vp_poly.specs.Lcm.{lcm}
use Rattle.vp_poly.specs.Weights.{Weights, fits, weight_number}

abbrev pub exact_sum : Weights → Weights → Weights
exact_sum a b = record {
  norm = a.norm * (lcm a.den b.den / a.den) + b.norm * (lcm a.den b.den / b.den);
  den = lcm a.den b.den;
  degree = max a.degree b.degree;
  terms = a.terms + b.terms;
}

abbrev pub exact_product : Weights → Weights → Weights
exact_product a b = record { norm = a.norm * b.norm; den = a.den * b.den; degree = a.degree + b.degree; terms = a.terms * b.terms }

abbrev pub exact_power : Weights → ℕ → Weights
exact_power a k = record { norm = a.norm ^ k; den = a.den ^ k; degree = k * a.degree; terms = a.terms ^ k }

-- the weight that nothing cuts
abbrev pub exact_weight : (Var → Weights) → Expr → Weights
exact_weight env (Num r) = weight_number r.num r.den
exact_weight env (Variable v) = env v
exact_weight env (Add' p e q f) = exact_sum (exact_weight env e) (exact_weight env f)
exact_weight env (Sub' p e q f) = exact_sum (exact_weight env e) (exact_weight env f)
exact_weight env (Mul' p e q f) = exact_product (exact_weight env e) (exact_weight env f)
exact_weight env (Pow' p e n) = exact_power (exact_weight env e) n

-- whether no part of the expression, and not the whole, is over by that weight
abbrev pub all_fit : (Var → Weights) → Expr → Bool
all_fit env (Num r) = fits (weight_number r.num r.den)
all_fit env (Variable v) = fits (env v)
all_fit env (Add' p e q f) = all_fit env e && all_fit env f && fits (exact_sum (exact_weight env e) (exact_weight env f))
all_fit env (Sub' p e q f) = all_fit env e && all_fit env f && fits (exact_sum (exact_weight env e) (exact_weight env f))
all_fit env (Mul' p e q f) = all_fit env e && all_fit env f && fits (exact_product (exact_weight env e) (exact_weight env f))
all_fit env (Pow' p e n) = all_fit env e && fits (exact_power (exact_weight env e) n)
