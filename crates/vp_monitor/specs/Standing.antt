-- What stands for the variables where states are replaced, and the conjuncts over it.
use Rattle.std.specs.Prelude.{◌≡◌, ℕ, suc, ◌+◌, ◌<◌, Bool, true, false, IsTrue, List, [], ◌∷◌, ◌++◌, take, drop}
use Rattle.vp_words.specs.declared.record.Counts.{Counts}
use Rattle.vp_terms.specs.Control.{Values}
use Rattle.vp_terms.specs.Meaning.{Assignment}
use Rattle.vp_terms.specs.Places.{place, place_count, has_variable}
use Rattle.vp_terms.specs.Plant.{IsWithin}
use Rattle.vp_terms.specs.Rational.{difference}
use Rattle.vp_terms.specs.declared.expr.Places.{Places}
use Rattle.vp_terms.specs.declared.expr.Var.{Var}
use Rattle.vp_terms.specs.declared.expr.Var.TheVariants.{Param, State, Control, NextState, NextControl, Tau}
use Rattle.vp_terms.specs.declared.package.Slack.{Slack}
use Rattle.vp_poly.specs.declared.scaled.Scaled.{Scaled}
use Rattle.vp_poly.specs.Canonical.{IsEnvironment, StandsAt, StandsFor, StandsWithin, selves, variables, weights_of}
use Rattle.vp_poly.specs.Coefficient.{Coefficients}
use Rattle.vp_poly.specs.Places.{places_for}
use Rattle.vp_poly.specs.Points.{IsAt}
use Rattle.vp_poly.specs.Value.{Point}
use Rattle.vp_poly.specs.Weights.{Weights, weight_at, weight_one}
use Rattle.vp_flow.specs.Solution.{with_flows}

-- each variable stands for itself
pub record AreSelves (counts : Counts) (env : List Scaled) : Type 0 where
  pub exact : env ≡ selves (place_count (places_for counts))
  pub environment : IsEnvironment (place_count (places_for counts)) env
  pub stand_for : StandsFor (places_for counts) env (variables (places_for counts))
  pub stand_at : (z : Point) (a : Assignment) → IsAt (places_for counts) z a → StandsAt (places_for counts) env z a
  pub within : (used : Var → Bool) (allowed : ℕ → Bool) →
      ((v : Var) → IsTrue (used v) → IsTrue (allowed (place (places_for counts) v))) →
      StandsWithin (places_for counts) env used allowed

-- these stand for the states, and the rest of `env` for the other variables
abbrev pub with_states : Places → List Scaled → List Scaled → List Scaled
with_states p env states = take p.params env ++ states ++ drop (p.params + p.states) env

-- whether the variable is a state
abbrev pub is_state : Var → Bool
is_state (Param i) = false
is_state (State i) = true
is_state (Control i) = false
is_state (NextState i) = false
is_state (NextControl i) = false
is_state Tau = false

-- for the states stand what has the coefficients f and the weights w, and each other variable for itself
pub record Flowing (p : Places) (env : List Scaled) (f : ℕ → Coefficients) (w : ℕ → Weights) : Type 0 where
  pub stand_for : StandsFor p env (with_flows p f)
  pub states : (i : ℕ) → i < p.states → weight_at p (weights_of env) (State i) ≡ w i
  pub others : (v : Var) → IsTrue (has_variable p v) → is_state v ≡ false → weight_at p (weights_of env) v ≡ weight_one

-- the assignment with x for the states
abbrev pub flowed : Values → Assignment → Assignment
flowed x a (Param i) = a (Param i)
flowed x a (State i) = x i
flowed x a (Control i) = a (Control i)
flowed x a (NextState i) = a (NextState i)
flowed x a (NextControl i) = a (NextControl i)
flowed x a Tau = a Tau

-- the slack of each state, from number i on, has in it the new state less x
abbrev pub AreWithinSlack : Assignment → Values → ℕ → List Slack → Type 0
AreWithinSlack a x i [] = Unit {0}
AreWithinSlack a x i (s ∷ ss) = IsWithin s a (difference (a (NextState i)) (x i)) × AreWithinSlack a x (suc i) ss
