-- A machine and a sandbox that stand at the same point of a run: over a code, which has its head and its
-- number of cells, and the place of its sensing.
use Rattle.std.specs.Prelude.{◌≡◌, ℕ, ◌+◌, Bool, true, false, List, length, map, ℤ, pos, Option, None, Some, IsSomeAnd}
use Rattle.vp_words.specs.declared.record.Kind.{Kind}
use Rattle.vp_words.specs.declared.record.Due.{Due}
use Rattle.vp_words.specs.declared.record.Due.TheVariants as due
use Rattle.vp_words.specs.declared.record.Kind.TheVariants as kind
use Rattle.vp_words.specs.declared.record.Reply.TheVariants as reply
use Rattle.vp_words.specs.Record.{field_count, kind_due, padded}
use Rattle.vp_isa.specs.declared.instr.Mon.{Mon}
use Rattle.vp_isa.specs.declared.instr.Mon.TheVariants as mon
use Rattle.vp_isa.specs.declared.code.Code.{Code}
use Rattle.vp_isa.specs.Block.{HasAt}
use Rattle.vp_isa.specs.Machine.{MachineState, cell, step, stopped, replied, why_of}
use Rattle.vp_isa.specs.Runs.{Comes}
use Rattle.vp_interval.specs.Rounding.{Ends, point}
use Rattle.vp_sandbox.specs.declared.sandbox.Sandbox.{Sandbox}
use Rattle.vp_sandbox.specs.Sandbox.{State}
use Rattle.vp_sandbox.specs.Answer.{Answered, answered}
use Rattle.vp_sandbox.specs.Boxes.{first_control, placed, tested}
use Rattle.vp_layout.specs.Blocks.{take_code}
use Rattle.vp_layout.specs.Cells.{Constants, Keeps, StandAt}
use Rattle.vp_layout.specs.Homes.{boxes_in, homes_of, record_cell, zero_cell}

-- the machine at a place, with nothing to report yet
abbrev pub standing : List ℤ → ℕ → MachineState
standing c p = record { cells = c; place = p; reply = reply.Ok; ended = false }

-- the machine at a place, with an act of n words to report
abbrev pub acting : List ℤ → ℕ → List ℤ → ℕ → Bool → MachineState
acting c p words n fallback = record { cells = c; place = p; reply = reply.Act (padded 16 words) n fallback; ended = false }

-- all cells of the code, with these boxes in their homes
pub record Keeping (code : Code) (boxes : List Ends) (c : List ℤ) : Type 0 where
  pub long : length c ≡ code.cells
  pub zero_is : cell c zero_cell ≡ pos 0
  pub held : boxes_in c (homes_of code.counts) ≡ boxes

-- a machine that stands at a place between two records
pub record Stands (code : Code) (at : ℕ) (boxes : List Ends) (m : MachineState) : Type 0 where
  pub cells : List ℤ
  pub is : m ≡ standing cells at
  pub keeping : Keeping code boxes cells

-- a machine and a sandbox that stand at the same point of a run
abbrev pub Tied : Code → ℕ → Due → List Ends → MachineState → Type 0
Tied code sense due.Init boxes m = Stands code 0 boxes m
Tied code sense due.Choice boxes m = Stands code code.head boxes m
Tied code sense due.Sense boxes m = Stands code sense boxes m
Tied code sense due.Ended boxes m = m.ended ≡ true

-- each kind of record is taken at its place
pub record Takes (code : Code) (sense : ℕ) : Type 0 where
  pub init : HasAt code 0 (take_code code.counts kind.Init)
  pub choice : HasAt code code.head (take_code code.counts kind.Choice)
  pub sensing : HasAt code sense (take_code code.counts kind.Sense)

-- behind the TAKE and the constants: the boxes over which the record is tested are at home
pub record Taken (code : Code) (p : ℕ) (kind : Kind) (words : List ℤ) (boxes : List Ends) (m : MachineState) : Type 0 where
  pub cells : List ℤ
  pub comes : Comes code (step code words m) (standing cells (p + 5))
  pub keeping : Keeping code (tested code.counts kind words boxes) cells
  pub constants : Constants cells
  pub stand : StandAt cells (record_cell kind code.counts) words

-- the machine has acted with these words, and they have become the controls
pub record Acted (code : Code) (boxes : List Ends) (words : List ℤ) (fallback : Bool) (from : MachineState) (at : ℕ) : Type 0 where
  pub cells : List ℤ
  pub keeping : Keeping code (placed (first_control code.counts) (map point words) boxes) cells
  pub comes : Comes code from (acting cells at words code.counts.controls fallback)

-- the machine is ended with a violation
pub record Halted (code : Code) (from : MachineState) (mon : Mon) : Type 0 where
  pub last : MachineState
  pub ended : last.ended ≡ true
  pub reply : last.reply ≡ reply.Violation (why_of mon)
  pub comes : Comes code from last

-- the machine came on to place q, with the cells below d as they were
pub record Passed (code : Code) (d : ℕ) (c : List ℤ) (p q : ℕ) : Type 0 where
  pub cells : List ℤ
  pub keeps : Keeps d c cells
  pub comes : Comes code (standing c p) (standing cells q)

-- where a test leads: on to place q, or to a violation
abbrev pub Leads : Code → ℕ → List ℤ → ℕ → ℕ → Option Mon → Type 0
Leads code d c p q None = Passed code d c p q
Leads code d c p q (Some mon) = Halted code (standing c p) mon

-- the machine came on with these words in the cells from f on, and the cells below f as they were
pub record Gained (code : Code) (f : ℕ) (words : List ℤ) (c : List ℤ) (p q : ℕ) : Type 0 where
  pub cells : List ℤ
  pub stand : StandAt cells f words
  pub keeps : Keeps f c cells
  pub comes : Comes code (standing c p) (standing cells q)

-- where the code of the fallback's words leads: on to place q, or to the violation
abbrev pub Gains : Code → ℕ → List ℤ → ℕ → ℕ → Option (List ℤ) → Type 0
Gains code f c p q None = Halted code (standing c p) mon.Fallback
Gains code f c p q (Some words) = Gained code f words c p q

-- the machine comes to a stop with this reply, and is tied to the next state
pub record Replies (code : Code) (sense : ℕ) (from : MachineState) (a : Answered) : Type 0 where
  pub last : MachineState
  pub comes : Comes code from last
  pub stop : stopped code last ≡ true
  pub reply : last.reply ≡ a.reply
  pub tied : Tied code sense a.next.due a.next.boxes (replied last)

-- the boxes are accepted, and a choice is due
abbrev pub accepted : List Ends → Answered
accepted boxes = record { reply = reply.Ok; next = record { boxes = boxes; due = due.Choice } }

-- each record that is due is replied to as the sandbox does
abbrev pub RepliesToAll : Sandbox → Code → ℕ → Type 0
RepliesToAll s code sense =
    (st : State) (m : MachineState) (words : List ℤ) → Tied code sense st.due st.boxes m → IsSomeAnd (kind_due st.due) (λ kind. length words ≡ field_count kind code.counts)
    → Replies code sense (step code words m) (answered s st words)
