-- What the machine does.
use Rattle.std.specs.Prelude.{ℕ, zero, suc, ◌+◌, ◌<◌, ◌≡◌, ◌++◌, ◌||◌, not, Bool, true, false, List, length, [], take, drop, replicate, slice_get, slice_set, slice_index_or, ℤ, pos, neg_ℤ, int_lt, Option, None, Some, IfSome, if◌then◌else◌}
use Rattle.std.specs.Int.{int_min, int_max}
use Rattle.std.specs.Ordering.{int_eq}
use Rattle.vp_words.specs.declared.record.Due.{Due}
use Rattle.vp_words.specs.declared.record.Due.TheVariants as due
use Rattle.vp_words.specs.declared.record.Why.{Why}
use Rattle.vp_words.specs.declared.record.Why.TheVariants as why
use Rattle.vp_words.specs.declared.record.Reply.{Reply}
use Rattle.vp_words.specs.declared.record.Reply.TheVariants as reply
use Rattle.vp_words.specs.Number.{lower_sum, upper_sum, lower_product, upper_product}
use Rattle.vp_words.specs.Record.{due_for, field_count, kind_due, padded}
use Rattle.vp_isa.specs.declared.instr.Mon.{Mon}
use Rattle.vp_isa.specs.declared.instr.Mon.TheVariants as mon
use Rattle.vp_isa.specs.declared.instr.Instr.{Instr}
use Rattle.vp_isa.specs.declared.instr.Instr.TheVariants.{Const, Copy, Neg, Min, Max, AddD, AddU, MulD, MulU, Jmp, Jge, Jgt, Jeq, Take, Act, Halt}
use Rattle.vp_isa.specs.declared.code.Code.{Code}
use Rattle.vp_isa.specs.Valid.{IsValid, is_take}

-- the cells, the place, the reply so far, and whether a HALT was executed
pub record MachineState : Type 0 where
  pub cells : List ℤ
  pub place : ℕ
  pub reply : Reply
  pub ended : Bool

-- the word in a cell
abbrev pub cell : List ℤ → ℕ → ℤ
cell cells i = slice_index_or cells i (pos 0)

-- the violation that a HALT reports
abbrev pub why_of : Mon → Why
why_of (mon.Init k unknown) = why.Init k unknown
why_of (mon.Plant k unknown) = why.Plant k unknown
why_of mon.Fallback = why.Fallback

-- the cells after an instruction that writes one cell
abbrev pub written : Instr → List ℤ → List ℤ
written (Const d w) c = slice_set c d w
written (Copy d a) c = slice_set c d (cell c a)
written (Neg d a) c = slice_set c d (neg_ℤ (cell c a))
written (Min d a b) c = slice_set c d (int_min (cell c a) (cell c b))
written (Max d a b) c = slice_set c d (int_max (cell c a) (cell c b))
written (AddD d a b) c = slice_set c d (lower_sum (cell c a) (cell c b))
written (AddU d a b) c = slice_set c d (upper_sum (cell c a) (cell c b))
written (MulD d a b) c = slice_set c d (lower_product (cell c a) (cell c b))
written (MulU d a b) c = slice_set c d (upper_product (cell c a) (cell c b))
written i c = c

-- on to the following place, or to t where a test holds
abbrev pub jump : Bool → ℕ → MachineState → MachineState
jump test t m = record m { place = if test then t else m.place + 1 }

-- what an instruction does, where these words are due: the rest of the table
abbrev pub effect : Code → List ℤ → Option Instr → MachineState → MachineState
effect code words None m = m
effect code words (Some (Jmp t)) m = jump true t m
effect code words (Some (Jge a b t)) m = jump (not (int_lt (cell m.cells a) (cell m.cells b))) t m
effect code words (Some (Jgt a b t)) m = jump (int_lt (cell m.cells b) (cell m.cells a)) t m
effect code words (Some (Jeq a b t)) m = jump (int_eq (cell m.cells a) (cell m.cells b)) t m
effect code words (Some (Take kind d)) m = record m { cells = take d m.cells ++ words ++ drop (d + length words) m.cells; place = m.place + 1 }
effect code words (Some (Act fallback d)) m =
    record m { place = m.place + 1; reply = reply.Act (padded 16 (take code.counts.controls (drop d m.cells))) code.counts.controls fallback }
effect code words (Some (Halt mon)) m = record m { place = m.place + 1; reply = reply.Violation (why_of mon); ended = true }
effect code words (Some i) m = record m { cells = written i m.cells; place = m.place + 1 }

-- one step
abbrev pub step : Code → List ℤ → MachineState → MachineState
step code words m = effect code words (slice_get code.instrs m.place) m

-- a machine stops at a TAKE, or is ended
abbrev pub stopped : Code → MachineState → Bool
stopped code m = m.ended || is_take (slice_get code.instrs m.place)

-- steps up to the next stop, at most n
abbrev pub run_to_stop : Code → ℕ → MachineState → MachineState
run_to_stop code zero m = m
run_to_stop code (suc n) m = if stopped code m then m else run_to_stop code n (step code [] m)

-- how many steps those are
abbrev pub steps_to_stop : Code → ℕ → MachineState → ℕ
steps_to_stop code zero m = 0
steps_to_stop code (suc n) m = if stopped code m then 0 else steps_to_stop code n (step code [] m) + 1

-- a new machine
abbrev pub fresh : Code → MachineState
fresh code = record { cells = replicate code.cells (pos 0); place = 0; reply = reply.Ok; ended = false }

-- what is due at an instruction: the record that it takes
abbrev pub due_at : Option Instr → Due
due_at (Some (Take kind d)) = due_for kind
due_at i = due.Ended

-- what a machine has due: the record of the TAKE where it stands, and nothing once it is ended
abbrev pub due_of : Code → MachineState → Due
due_of code m = if m.ended then due.Ended else due_at (slice_get code.instrs m.place)

-- the reply to a record, the machine after it, and how many instructions were executed
pub record Answer : Type 0 where
  pub reply : Reply
  pub next : MachineState
  pub ran : ℕ

-- the machine after its reply was given
abbrev pub replied : MachineState → MachineState
replied m = record m { reply = reply.Ok }

-- the answer to these words: the TAKE, and then the steps to the next stop
abbrev pub answer : Code → List ℤ → MachineState → Answer
answer code words m =
    let first = step code words m in
    let last = run_to_stop code (length code.instrs) first in
    record { reply = last.reply; next = replied last; ran = steps_to_stop code (length code.instrs) first + 1 }

-- a machine as contracts see it
pub record Running : Type 0 where
  pub code : Code
  pub state : MachineState

-- a machine between two records: its cells are there, and it stands at a TAKE or is ended
pub record IsStanding (code : Code) (m : MachineState) : Type 0 where
  pub cells : length m.cells ≡ code.cells
  pub within : m.ended ≡ false → m.place < length code.instrs
  pub stands : stopped code m ≡ true
  pub reply : m.reply ≡ reply.Ok

-- a machine that a record may be given: its code keeps the rules, it stands and isn't ended
pub record IsReady (code : Code) (m : MachineState) : Type 0 where
  pub valid : IsValid code
  pub stands : IsStanding code m
  pub going : m.ended ≡ false

-- as many words as the due record has
abbrev pub HasDueCount : Code → MachineState → List ℤ → Type 0
HasDueCount code m words = IfSome (kind_due (due_of code m)) (λ kind. length words ≡ field_count kind code.counts)
