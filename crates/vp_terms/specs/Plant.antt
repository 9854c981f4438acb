-- A step of the plant, where the flow is given.
use Rattle.std.specs.Prelude.{ℕ, pos, slice_get, IfSome, IsTrue}
use Rattle.vp_terms.specs.Rational.{Rational, whole, difference}
use Rattle.vp_terms.specs.Meaning.{Assignment, value, holds, compares}
use Rattle.vp_terms.specs.Control.{Values}
use Rattle.vp_terms.specs.declared.expr.Var.TheVariants.{Param, State, Control, NextState, NextControl, Tau}
use Rattle.vp_terms.specs.declared.formula.Cmp.TheVariants.{Le}
use Rattle.vp_terms.specs.declared.package.Slack.{Slack}
use Rattle.vp_terms.specs.declared.package.Plant.{Plant}

-- where the exact flow takes each state, by its number
abbrev pub Flow : Type 0
Flow = ℕ → Assignment → Rational

-- the assignment of parameters p, states x, controls u and the time t; next variables are 0
abbrev pub timed : Values → Values → Values → Rational → Assignment
timed p x u t (Param i) = p i
timed p x u t (State i) = x i
timed p x u t (Control i) = u i
timed p x u t (NextState i) = whole (pos 0)
timed p x u t (NextControl i) = whole (pos 0)
timed p x u t Tau = t

-- the distance d from the flow lies between the bounds of the slack
pub record IsWithin (slack : Slack) (a : Assignment) (d : Rational) : Type 0 where
  pub low : IsTrue (compares Le (value slack.low a) d)
  pub high : IsTrue (compares Le d (value slack.high a))

-- with parameters p, from states x and under the actuated controls u, the plant may take the time t and
-- come to the states y: the time is in its range, each new state is within its slack of the flow, and
-- the domain holds at the new states
pub record PlantStep (flow : Flow) (plant : Plant) (p x u : Values) (t : Rational) (y : Values) : Type 0 where
  pub low : IsTrue (compares Le (value plant.low (timed p x u t)) t)
  pub high : IsTrue (compares Le t (value plant.high (timed p x u t)))
  pub states : (i : ℕ) → IfSome (slice_get plant.slack i) (λ slack. IsWithin slack (timed p x u t) (difference (y i) (flow i (timed p x u t))))
  pub domain : IsTrue (holds plant.domain (timed p y u t))
