-- The places of variables: parameters, states, controls, next states, next controls, `tau`.
use Rattle.std.specs.Prelude.{ℕ, ◌+◌, ◌*◌, Bool, true, nat_lt}
use Rattle.vp_terms.specs.declared.expr.Places.{Places}
use Rattle.vp_terms.specs.declared.expr.Var.{Var}
use Rattle.vp_terms.specs.declared.expr.Var.TheVariants.{Param, State, Control, NextState, NextControl, Tau}

-- how many places there are
abbrev pub place_count : Places → ℕ
place_count p = p.params + 2 * p.states + 2 * p.controls + 1

-- the place of a variable, from 0
abbrev pub place : Places → Var → ℕ
place p (Param i) = i
place p (State i) = p.params + i
place p (Control i) = p.params + p.states + i
place p (NextState i) = p.params + p.states + p.controls + i
place p (NextControl i) = p.params + 2 * p.states + p.controls + i
place p Tau = p.params + 2 * p.states + 2 * p.controls

-- whether the model has the variable
abbrev pub has_variable : Places → Var → Bool
has_variable p (Param i) = nat_lt i p.params
has_variable p (State i) = nat_lt i p.states
has_variable p (Control i) = nat_lt i p.controls
has_variable p (NextState i) = nat_lt i p.states
has_variable p (NextControl i) = nat_lt i p.controls
has_variable p Tau = true
