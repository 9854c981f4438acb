-- Trees without the boxes that hold their parts.
use Rattle.std.specs.Prelude.{ℕ}
use Rattle.vp_terms.specs.declared.ratio.Ratio.{Ratio}
use Rattle.vp_terms.specs.declared.expr.Var.{Var}
use Rattle.vp_terms.specs.declared.expr.Expr.{Expr}
use Rattle.vp_terms.specs.declared.expr.Expr.TheVariants.{Num, Var as Variable, Add', Sub', Mul', Pow'}
use Rattle.vp_terms.specs.declared.formula.Cmp.{Cmp}
use Rattle.vp_terms.specs.declared.formula.Formula.{Formula}
use Rattle.vp_terms.specs.declared.formula.Formula.TheVariants.{True, Cmp as Compare, And', Or', Not'}
use Rattle.vp_terms.specs.declared.prog.Prog.{Prog}
use Rattle.vp_terms.specs.declared.prog.Prog.TheVariants.{Skip, Assign, Any, Test, Choice', Seq', If'}

-- an expression
pub data ExprTree : Type 0 where
  Constant : Ratio → ExprTree
  Place : Var → ExprTree
  Sum : ExprTree → ExprTree → ExprTree
  Difference : ExprTree → ExprTree → ExprTree
  Product : ExprTree → ExprTree → ExprTree
  Power : ExprTree → ℕ → ExprTree

-- a formula
pub data FormulaTree : Type 0 where
  Always : FormulaTree
  Compares : Cmp → ExprTree → ExprTree → FormulaTree
  Both : FormulaTree → FormulaTree → FormulaTree
  Either : FormulaTree → FormulaTree → FormulaTree
  Denial : FormulaTree → FormulaTree

-- a program
pub data ProgTree : Type 0 where
  Nothing : ProgTree
  Gives : ℕ → ExprTree → ProgTree
  GivesAny : ℕ → ProgTree
  Passes : FormulaTree → ProgTree
  OneOf : ProgTree → ProgTree → ProgTree
  Then : ProgTree → ProgTree → ProgTree
  Where : FormulaTree → ProgTree → ProgTree → ProgTree

-- the expression without its boxes
abbrev pub expr_tree : Expr → ExprTree
expr_tree (Num r) = Constant r
expr_tree (Variable v) = Place v
expr_tree (Add' p e q f) = Sum (expr_tree e) (expr_tree f)
expr_tree (Sub' p e q f) = Difference (expr_tree e) (expr_tree f)
expr_tree (Mul' p e q f) = Product (expr_tree e) (expr_tree f)
expr_tree (Pow' p e n) = Power (expr_tree e) n

-- the formula without its boxes
abbrev pub formula_tree : Formula → FormulaTree
formula_tree True = Always
formula_tree (Compare c e f) = Compares c (expr_tree e) (expr_tree f)
formula_tree (And' p f q g) = Both (formula_tree f) (formula_tree g)
formula_tree (Or' p f q g) = Either (formula_tree f) (formula_tree g)
formula_tree (Not' p f) = Denial (formula_tree f)

-- the program without its boxes
abbrev pub prog_tree : Prog → ProgTree
prog_tree Skip = Nothing
prog_tree (Assign c e) = Gives c (expr_tree e)
prog_tree (Any c) = GivesAny c
prog_tree (Test f) = Passes (formula_tree f)
prog_tree (Choice' l a r b) = OneOf (prog_tree a) (prog_tree b)
prog_tree (Seq' l a r b) = Then (prog_tree a) (prog_tree b)
prog_tree (If' f l a r b) = Where (formula_tree f) (prog_tree a) (prog_tree b)
