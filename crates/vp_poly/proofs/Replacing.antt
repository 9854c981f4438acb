-- What stays of formulas and expressions whose variables are replaced, or stand for the same.
use Rattle.std.proofs.Common.{◌≡◌, Bool, ◌&&◌, ◌||◌, not, IsTrue, refl, ap, ap₂}
use Rattle.vp_terms.specs.Meaning.{Assignment, value, compares, holds}
use Rattle.vp_terms.specs.Variables.{all_variables, all_variables_of}
use Rattle.vp_terms.specs.declared.expr.Var.{Var}
use Rattle.vp_terms.specs.declared.expr.Expr.{Expr}
use Rattle.vp_terms.specs.declared.expr.Expr.TheVariants.{Num, Var as Variable, Add', Sub', Mul', Pow'}
use Rattle.vp_terms.specs.declared.formula.Formula.{Formula}
use Rattle.vp_terms.specs.declared.formula.Formula.TheVariants.{True, Cmp as Compare, And', Or', Not'}
use Rattle.vp_terms.proofs.Agreeing.{both, both_true}
use Rattle.vp_terms.specs.Rational.{sum, difference}
use Rattle.vp_poly.specs.Coefficient.{Coefficients, coefficients, times, to_power}
use Rattle.vp_poly.specs.Weights.{Weights, weight, weight_sum, weight_product, weight_power}
use Rattle.vp_poly.specs.Replaced.{replaced, formula_replaced}
use Rattle.vp_poly.proofs.Lawful.{value-replaced}

pub holds-replaced : (a : Assignment) (s : Var → Expr) (f : Formula) → holds (formula_replaced s f) a ≡ holds f (λ v. value (s v) a)
holds-replaced a s True = refl
holds-replaced a s (Compare c e f) = ap₂ (compares c) (value-replaced a s e) (value-replaced a s f)
holds-replaced a s (And' p f q g) = ap₂ (λ b d. b && d) (holds-replaced a s f) (holds-replaced a s g)
holds-replaced a s (Or' p f q g) = ap₂ (λ b d. b || d) (holds-replaced a s f) (holds-replaced a s g)
holds-replaced a s (Not' p f) = ap not (holds-replaced a s f)

pub replaced-twice : (r s : Var → Expr) (e : Expr) → replaced r (replaced s e) ≡ replaced (λ v. replaced r (s v)) e
replaced-twice r s (Num n) = refl
replaced-twice r s (Variable v) = refl
replaced-twice r s (Add' p e q f) = ap₂ (λ x y. Add' p x q y) (replaced-twice r s e) (replaced-twice r s f)
replaced-twice r s (Sub' p e q f) = ap₂ (λ x y. Sub' p x q y) (replaced-twice r s e) (replaced-twice r s f)
replaced-twice r s (Mul' p e q f) = ap₂ (λ x y. Mul' p x q y) (replaced-twice r s e) (replaced-twice r s f)
replaced-twice r s (Pow' p e n) = ap (λ x. Pow' p x n) (replaced-twice r s e)

pub formula_replaced-twice : (r s : Var → Expr) (f : Formula) → formula_replaced r (formula_replaced s f) ≡ formula_replaced (λ v. replaced r (s v)) f
formula_replaced-twice r s True = refl
formula_replaced-twice r s (Compare c e f) = ap₂ (Compare c) (replaced-twice r s e) (replaced-twice r s f)
formula_replaced-twice r s (And' p f q g) = ap₂ (λ x y. And' p x q y) (formula_replaced-twice r s f) (formula_replaced-twice r s g)
formula_replaced-twice r s (Or' p f q g) = ap₂ (λ x y. Or' p x q y) (formula_replaced-twice r s f) (formula_replaced-twice r s g)
formula_replaced-twice r s (Not' p f) = ap (λ x. Not' p x) (formula_replaced-twice r s f)

pub variables-replaced : (t u : Var → Bool) (s : Var → Expr) (e : Expr) → ((v : Var) → IsTrue (t v) → IsTrue (all_variables u (s v))) → IsTrue (all_variables t e) → IsTrue (all_variables u (replaced s e))
variables-replaced t u s (Num n) h g = refl
variables-replaced t u s (Variable v) h g = h v g
variables-replaced t u s (Add' p e q f) h g = let b = both _ _ g in both_true _ _ (variables-replaced t u s e h b.0) (variables-replaced t u s f h b.1)
variables-replaced t u s (Sub' p e q f) h g = let b = both _ _ g in both_true _ _ (variables-replaced t u s e h b.0) (variables-replaced t u s f h b.1)
variables-replaced t u s (Mul' p e q f) h g = let b = both _ _ g in both_true _ _ (variables-replaced t u s e h b.0) (variables-replaced t u s f h b.1)
variables-replaced t u s (Pow' p e n) h g = variables-replaced t u s e h g

pub variables_of-replaced : (t u : Var → Bool) (s : Var → Expr) (f : Formula) → ((v : Var) → IsTrue (t v) → IsTrue (all_variables u (s v))) → IsTrue (all_variables_of t f) → IsTrue (all_variables_of u (formula_replaced s f))
variables_of-replaced t u s True h g = refl
variables_of-replaced t u s (Compare c e f) h g = let b = both _ _ g in both_true _ _ (variables-replaced t u s e h b.0) (variables-replaced t u s f h b.1)
variables_of-replaced t u s (And' p f q k) h g = let b = both _ _ g in both_true _ _ (variables_of-replaced t u s f h b.0) (variables_of-replaced t u s k h b.1)
variables_of-replaced t u s (Or' p f q k) h g = let b = both _ _ g in both_true _ _ (variables_of-replaced t u s f h b.0) (variables_of-replaced t u s k h b.1)
variables_of-replaced t u s (Not' p f) h g = variables_of-replaced t u s f h g

-- ---- what depends on the variables alone

pub coefficients-same : (t : Var → Bool) (f g : Var → Coefficients) (e : Expr) → ((v : Var) → IsTrue (t v) → f v ≡ g v) → IsTrue (all_variables t e) → coefficients f e ≡ coefficients g e
coefficients-same t f g (Num r) h k = refl
coefficients-same t f g (Variable v) h k = h v k
coefficients-same t f g (Add' p e q d) h k = let b = both _ _ k in ap₂ (λ (x y : Coefficients). λ m. sum (x m) (y m)) (coefficients-same t f g e h b.0) (coefficients-same t f g d h b.1)
coefficients-same t f g (Sub' p e q d) h k = let b = both _ _ k in ap₂ (λ (x y : Coefficients). λ m. difference (x m) (y m)) (coefficients-same t f g e h b.0) (coefficients-same t f g d h b.1)
coefficients-same t f g (Mul' p e q d) h k = let b = both _ _ k in ap₂ times (coefficients-same t f g e h b.0) (coefficients-same t f g d h b.1)
coefficients-same t f g (Pow' p e n) h k = ap (λ (x : Coefficients). to_power x n) (coefficients-same t f g e h k)

pub weight-same : (t : Var → Bool) (f g : Var → Weights) (e : Expr) → ((v : Var) → IsTrue (t v) → f v ≡ g v) → IsTrue (all_variables t e) → weight f e ≡ weight g e
weight-same t f g (Num r) h k = refl
weight-same t f g (Variable v) h k = h v k
weight-same t f g (Add' p e q d) h k = let b = both _ _ k in ap₂ weight_sum (weight-same t f g e h b.0) (weight-same t f g d h b.1)
weight-same t f g (Sub' p e q d) h k = let b = both _ _ k in ap₂ weight_sum (weight-same t f g e h b.0) (weight-same t f g d h b.1)
weight-same t f g (Mul' p e q d) h k = let b = both _ _ k in ap₂ weight_product (weight-same t f g e h b.0) (weight-same t f g d h b.1)
weight-same t f g (Pow' p e n) h k = ap (λ (w : Weights). weight_power w n) (weight-same t f g e h k)
