-- The values of expressions and the truth of formulas.
use Rattle.std.specs.Prelude.{Bool, true, not, ◌&&◌, ◌||◌, pos, ◌*ℤ◌}
use Rattle.vp_terms.specs.Rational.{Rational, fraction, sum, difference, product, power}
use Rattle.vp_terms.specs.Order.{orders}
use Rattle.vp_terms.specs.declared.ratio.Ratio.{Ratio}
use Rattle.vp_terms.specs.declared.expr.Var.{Var}
use Rattle.vp_terms.specs.declared.expr.Expr.{Expr}
use Rattle.vp_terms.specs.declared.expr.Expr.TheVariants.{Num, Var as Variable, Add', Sub', Mul', Pow'}
use Rattle.vp_terms.specs.declared.formula.Cmp.{Cmp}
use Rattle.vp_terms.specs.declared.formula.Formula.{Formula}
use Rattle.vp_terms.specs.declared.formula.Formula.TheVariants.{True, Cmp as Compare, And', Or', Not'}

-- a rational for each variable
abbrev pub Assignment : Type 0
Assignment = Var → Rational

-- the rational that a fraction in lowest terms stands for
abbrev pub rational : Ratio → Rational
rational r = fraction r.num r.den r.lowest.positive

-- the value of an expression
abbrev pub value : Expr → Assignment → Rational
value (Num r) a = rational r
value (Variable v) a = a v
value (Add' p e q f) a = sum (value e a) (value f a)
value (Sub' p e q f) a = difference (value e a) (value f a)
value (Mul' p e q f) a = product (value e a) (value f a)
value (Pow' p e n) a = power (value e a) n

-- whether two values compare so: a/b to c/d as ad to cb
abbrev pub compares : Cmp → Rational → Rational → Bool
compares c q r = orders c (q.num *ℤ pos r.den) (r.num *ℤ pos q.den)

-- whether a formula holds
abbrev pub holds : Formula → Assignment → Bool
holds True a = true
holds (Compare c e f) a = compares c (value e a) (value f a)
holds (And' p f q g) a = holds f a && holds g a
holds (Or' p f q g) a = holds f a || holds g a
holds (Not' p f) a = not (holds f a)
