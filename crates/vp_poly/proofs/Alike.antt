-- Expressions with one tree have one weight and the same coefficients.
use Rattle.std.proofs.Common.{◌≡◌, List, refl, sym, ap, ap₂, ◌∙◌, subst}
use Rattle.vp_terms.specs.Rational.{sum, difference}
use Rattle.vp_terms.specs.Meaning.{rational}
use Rattle.vp_terms.specs.Tree.{ExprTree, Constant, Place, Sum, Difference, Product, Power, expr_tree}
use Rattle.vp_terms.specs.declared.expr.Places.{Places}
use Rattle.vp_terms.specs.declared.expr.Var.{Var}
use Rattle.vp_terms.specs.declared.expr.Expr.{Expr}
use Rattle.vp_terms.specs.declared.expr.Expr.TheVariants.{Num, Var as Variable, Add', Sub', Mul', Pow'}
use Rattle.vp_poly.specs.declared.mono.Term.{Term}
use Rattle.vp_poly.specs.Coefficient.{Coefficients, coefficients, constant, times, to_power}
use Rattle.vp_poly.specs.Weights.{Weights, weight, weight_in, weight_number, weight_sum, weight_product, weight_power}
use Rattle.vp_poly.specs.Canonical.{IsCanonical}
use Rattle.vp_poly.proofs.Lawful.{IsCanonical-unique}

-- the weight of a tree
abbrev tree_weight : (Var → Weights) → ExprTree → Weights
tree_weight env (Constant r) = weight_number r.num r.den
tree_weight env (Place v) = env v
tree_weight env (Sum e f) = weight_sum (tree_weight env e) (tree_weight env f)
tree_weight env (Difference e f) = weight_sum (tree_weight env e) (tree_weight env f)
tree_weight env (Product e f) = weight_product (tree_weight env e) (tree_weight env f)
tree_weight env (Power e n) = weight_power (tree_weight env e) n

weight-tree : (env : Var → Weights) (e : Expr) → weight env e ≡ tree_weight env (expr_tree e)
weight-tree env (Num r) = refl
weight-tree env (Variable v) = refl
weight-tree env (Add' p e q f) = ap₂ weight_sum (weight-tree env e) (weight-tree env f)
weight-tree env (Sub' p e q f) = ap₂ weight_sum (weight-tree env e) (weight-tree env f)
weight-tree env (Mul' p e q f) = ap₂ weight_product (weight-tree env e) (weight-tree env f)
weight-tree env (Pow' p e n) = ap (λ (w : Weights). weight_power w n) (weight-tree env e)

pub weight-alike : (env : Var → Weights) (e f : Expr) → expr_tree e ≡ expr_tree f → weight env e ≡ weight env f
weight-alike env e f h = weight-tree env e ∙ ap (tree_weight env) h ∙ sym (weight-tree env f)

-- the coefficients of a tree
abbrev tree_coefficients : (Var → Coefficients) → ExprTree → Coefficients
tree_coefficients env (Constant r) = constant (rational r)
tree_coefficients env (Place v) = env v
tree_coefficients env (Sum e f) = λ m. sum (tree_coefficients env e m) (tree_coefficients env f m)
tree_coefficients env (Difference e f) = λ m. difference (tree_coefficients env e m) (tree_coefficients env f m)
tree_coefficients env (Product e f) = times (tree_coefficients env e) (tree_coefficients env f)
tree_coefficients env (Power e n) = to_power (tree_coefficients env e) n

coefficients-tree : (env : Var → Coefficients) (e : Expr) → coefficients env e ≡ tree_coefficients env (expr_tree e)
coefficients-tree env (Num r) = refl
coefficients-tree env (Variable v) = refl
coefficients-tree env (Add' p e q f) = ap₂ (λ (a b : Coefficients). λ m. sum (a m) (b m)) (coefficients-tree env e) (coefficients-tree env f)
coefficients-tree env (Sub' p e q f) = ap₂ (λ (a b : Coefficients). λ m. difference (a m) (b m)) (coefficients-tree env e) (coefficients-tree env f)
coefficients-tree env (Mul' p e q f) = ap₂ times (coefficients-tree env e) (coefficients-tree env f)
coefficients-tree env (Pow' p e n) = ap (λ (a : Coefficients). to_power a n) (coefficients-tree env e)

pub coefficients-alike : (env : Var → Coefficients) (e f : Expr) → expr_tree e ≡ expr_tree f → coefficients env e ≡ coefficients env f
coefficients-alike env e f h = coefficients-tree env e ∙ ap (tree_coefficients env) h ∙ sym (coefficients-tree env f)

pub canonical-alike : (p : Places) (ws : List Weights) (c : Var → Coefficients) (e f : Expr) (xs ys : List Term) → expr_tree e ≡ expr_tree f →
    IsCanonical (weight_in p ws e).den xs (coefficients c e) → IsCanonical (weight_in p ws f).den ys (coefficients c f) → xs ≡ ys
canonical-alike p ws c e f xs ys h a b =
    let w = weight-alike _ e f h in
    IsCanonical-unique (weight_in p ws f).den (coefficients c f) xs ys
    (subst (λ (k : Coefficients). IsCanonical (weight_in p ws f).den xs k) (coefficients-alike c e f h) (subst (λ (v : Weights). IsCanonical v.den xs (coefficients c e)) w a)) b
