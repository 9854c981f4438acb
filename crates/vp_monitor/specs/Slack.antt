-- What the code of slacks has, and how it is refused.
use Rattle.std.specs.Prelude.{◌≡◌, ⊤, ℕ, Bool, ◌&&◌, List}
use Rattle.vp_terms.specs.Meaning.{Assignment, value}
use Rattle.vp_terms.specs.Rational.{difference}
use Rattle.vp_terms.specs.Variables.{all_variables}
use Rattle.vp_terms.specs.declared.expr.Var.{Var}
use Rattle.vp_terms.specs.declared.expr.Expr.{Expr}
use Rattle.vp_terms.specs.declared.expr.Places.{Places}
use Rattle.vp_terms.specs.declared.expr.Var.TheVariants.{NextState, State}
use Rattle.vp_terms.specs.declared.package.Slack.{Slack}
use Rattle.vp_poly.specs.Coefficient.{Coefficients, coefficients}
use Rattle.vp_poly.specs.Weights.{Weights, weight, weight_sum}
use Rattle.vp_monitor.specs.declared.error.MonErr.{MonErr}
use Rattle.vp_monitor.specs.declared.error.MonErr.TheVariants.{Wide, Memory}
use Rattle.vp_monitor.specs.declared.error.Place.TheVariants.{Slack as SlackOf}
use Rattle.vp_monitor.specs.Refusals.{IsFirstSlackOver}

-- e is x@ - x of the state i: its coefficients, its weight, its value and its variables
pub record IsDrift (i : ℕ) (e : Expr) : Type 0 where
  pub coefficients_are : (f : Var → Coefficients) → coefficients f e ≡ (λ m. difference (f (NextState i) m) (f (State i) m))
  pub weight_is : (w : Var → Weights) → weight w e ≡ weight_sum (w (NextState i)) (w (State i))
  pub value_is : (a : Assignment) → value e a ≡ difference (a (NextState i)) (a (State i))
  pub variables_are : (t : Var → Bool) → all_variables t e ≡ (t (NextState i) && t (State i))

-- the refusal tells the first slack that is over
abbrev pub TellsSlack : Places → (ℕ → Weights) → List Slack → MonErr → Type 0
TellsSlack p w slack (Wide (SlackOf i)) = IsFirstSlackOver p w slack i
TellsSlack p w slack Memory = ⊤
TellsSlack p w slack e = ⊥
