-- Where code keeps the boxes of a sandbox, the constants and what it works on.
use Rattle.std.specs.Prelude.{ℕ, zero, suc, ◌+◌, ◌*◌, ◌-◌, List, [], ◌∷◌, ◌++◌, map, ℤ, replicate}
use Rattle.vp_words.specs.declared.record.Counts.{Counts}
use Rattle.vp_words.specs.declared.record.Kind.{Kind}
use Rattle.vp_words.specs.declared.record.Kind.TheVariants.{Init, Choice, Sense}
use Rattle.vp_words.specs.Record.{place_count}
use Rattle.vp_isa.specs.Machine.{cell}
use Rattle.vp_interval.specs.Rounding.{Ends}
use Rattle.vp_layout.specs.declared.home.Home.{Home}

-- the box in the cells of a home
abbrev pub box_at : List ℤ → Home → Ends
box_at c h = record { lo = cell c h.lo; hi = cell c h.hi }

-- the boxes in the cells of these homes
abbrev pub boxes_in : List ℤ → List Home → List Ends
boxes_in c hs = map (box_at c) hs

-- n homes of two cells each from a cell on
abbrev pub pair_homes : ℕ → ℕ → List Home
pair_homes at zero = []
pair_homes at (suc n) = record { lo = at; hi = at + 1 } ∷ pair_homes (at + 2) n

-- n homes of one cell each, which is both ends
abbrev pub point_homes : ℕ → ℕ → List Home
point_homes at zero = []
point_homes at (suc n) = record { lo = at; hi = at } ∷ point_homes (at + 1) n

-- the constants 0, 1, 2 and -1 stand behind all boxes
abbrev pub zero_cell : ℕ
zero_cell = 64

abbrev pub one_cell : ℕ
one_cell = 65

abbrev pub two_cell : ℕ
two_cell = 66

abbrev pub minus_cell : ℕ
minus_cell = 67

-- the cells of parameters and states, and of controls: these are the first, in the order of places
abbrev pub state_cell : Counts → ℕ
state_cell c = 2 * c.params

abbrev pub control_cell : Counts → ℕ
control_cell c = 2 * (c.params + c.states)

-- then the next controls, `tau` and the next states, as the records have them
abbrev pub next_control_cell : Counts → ℕ
next_control_cell c = control_cell c + c.controls

abbrev pub tau_cell : Counts → ℕ
tau_cell c = next_control_cell c + c.controls

abbrev pub next_state_cell : Counts → ℕ
next_state_cell c = tau_cell c + 2

-- the first cell of a record of this kind
abbrev pub record_cell : Kind → Counts → ℕ
record_cell Init c = 0
record_cell Choice c = next_control_cell c
record_cell Sense c = tau_cell c

-- the homes of all 32 places in their order; a place that the model doesn't have is 0
abbrev pub homes_of : Counts → List Home
homes_of c =
    pair_homes 0 (c.params + c.states)
    ++ (point_homes (control_cell c) c.controls
    ++ (pair_homes (next_state_cell c) c.states
    ++ (point_homes (next_control_cell c) c.controls
    ++ (pair_homes (tau_cell c) 1
    ++ replicate (32 - place_count c) (record { lo = zero_cell; hi = zero_cell })))))
