-- The variables of expressions and formulas.
use Rattle.std.specs.Prelude.{ℕ, Bool, true, ◌&&◌, nat_lt}
use Rattle.vp_terms.specs.Places.{place}
use Rattle.vp_terms.specs.declared.expr.Places.{Places}
use Rattle.vp_terms.specs.declared.expr.Var.{Var}
use Rattle.vp_terms.specs.declared.expr.Expr.{Expr}
use Rattle.vp_terms.specs.declared.expr.Expr.TheVariants.{Num, Var as Variable, Add', Sub', Mul', Pow'}
use Rattle.vp_terms.specs.declared.formula.Formula.{Formula}
use Rattle.vp_terms.specs.declared.formula.Formula.TheVariants.{True, Cmp as Compare, And', Or', Not'}

-- each variable of the expression passes the test
abbrev pub all_variables : (Var → Bool) → Expr → Bool
all_variables t (Num r) = true
all_variables t (Variable v) = t v
all_variables t (Add' l e r f) = all_variables t e && all_variables t f
all_variables t (Sub' l e r f) = all_variables t e && all_variables t f
all_variables t (Mul' l e r f) = all_variables t e && all_variables t f
all_variables t (Pow' l e n) = all_variables t e

-- and so in each comparison
abbrev pub all_variables_of : (Var → Bool) → Formula → Bool
all_variables_of t True = true
all_variables_of t (Compare c e f) = all_variables t e && all_variables t f
all_variables_of t (And' l f r g) = all_variables_of t f && all_variables_of t g
all_variables_of t (Or' l f r g) = all_variables_of t f && all_variables_of t g
all_variables_of t (Not' l f) = all_variables_of t f

-- the variable has a place below n
abbrev pub is_below : Places → ℕ → Var → Bool
is_below p n v = nat_lt (place p v) n

-- each variable has a place below n
abbrev pub has_places_below : Places → ℕ → Expr → Bool
has_places_below p n e = all_variables (is_below p n) e

-- and so in each comparison
abbrev pub formula_has_places_below : Places → ℕ → Formula → Bool
formula_has_places_below p n f = all_variables_of (is_below p n) f
