-- Expressions and formulas with their variables replaced.
use Rattle.vp_terms.specs.declared.expr.Var.{Var}
use Rattle.vp_terms.specs.declared.expr.Expr.{Expr}
use Rattle.vp_terms.specs.declared.expr.Expr.TheVariants.{Num, Var as Variable, Add', Sub', Mul', Pow'}
use Rattle.vp_terms.specs.declared.formula.Formula.{Formula}
use Rattle.vp_terms.specs.declared.formula.Formula.TheVariants.{True, Cmp as Compare, And', Or', Not'}

-- the expression with each variable replaced by what s gives for it
abbrev pub replaced : (Var → Expr) → Expr → Expr
replaced s (Num r) = Num r
replaced s (Variable v) = s v
replaced s (Add' p e q f) = Add' p (replaced s e) q (replaced s f)
replaced s (Sub' p e q f) = Sub' p (replaced s e) q (replaced s f)
replaced s (Mul' p e q f) = Mul' p (replaced s e) q (replaced s f)
replaced s (Pow' p e n) = Pow' p (replaced s e) n

-- the formula with each variable replaced so
abbrev pub formula_replaced : (Var → Expr) → Formula → Formula
formula_replaced s True = True
formula_replaced s (Compare c e f) = Compare c (replaced s e) (replaced s f)
formula_replaced s (And' p f q g) = And' p (formula_replaced s f) q (formula_replaced s g)
formula_replaced s (Or' p f q g) = Or' p (formula_replaced s f) q (formula_replaced s g)
formula_replaced s (Not' p f) = Not' p (formula_replaced s f)
