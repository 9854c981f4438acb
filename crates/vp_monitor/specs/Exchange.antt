-- Variables that change places with their next values.
use Rattle.std.specs.Prelude.{ℕ, ◌+◌, ◌-◌, ◌&&◌, List, map, nat_le, nat_lt, if◌then◌else◌}
use Rattle.std.specs.List.{range_with_len}
use Rattle.vp_terms.specs.declared.expr.Places.{Places}
use Rattle.vp_terms.specs.declared.expr.Var.{Var}
use Rattle.vp_terms.specs.declared.expr.Var.TheVariants.{Param, State, Control, NextState, NextControl, Tau}

-- each state and control with its next value
abbrev pub primed : Var → Var
primed (Param i) = Param i
primed (State i) = NextState i
primed (Control i) = NextControl i
primed (NextState i) = State i
primed (NextControl i) = Control i
primed Tau = Tau

-- each control with its next value
abbrev pub actuated : Var → Var
actuated (Param i) = Param i
actuated (State i) = State i
actuated (Control i) = NextControl i
actuated (NextState i) = NextState i
actuated (NextControl i) = Control i
actuated Tau = Tau

-- the n places from k on with those that stand `by` further on
abbrev pub exchanged : ℕ → ℕ → ℕ → ℕ → ℕ
exchanged k n by i =
    if nat_le k i && nat_lt i (k + n) then i + by
    else (if nat_le (k + by) i && nat_lt i (k + by + n) then i - by else i)

unfoldable pub exchanging : ℕ → ℕ → ℕ → List ℕ
exchanging k n by = map (exchanged k n by) (range_with_len 0 32)

-- where each place goes when states and controls change with their next values
abbrev pub priming : Places → List ℕ
priming p = exchanging p.params (p.states + p.controls) (p.states + p.controls)

-- and when controls alone do
abbrev pub actuating : Places → List ℕ
actuating p = exchanging (p.params + p.states) p.controls (p.states + p.controls)
