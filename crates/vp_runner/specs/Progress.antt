-- A machine over lines, and what is printed for them. Private to sessions.
use Rattle.std.specs.Prelude.{ℕ, ◌≡◌, ◌≤◌, ◌<◌, ◌+◌, ◌^◌, List, All, length, take, Option, None, Some, Result, Ok, Err, false}
use Rattle.std.specs.Io.KnownBytes.{Appends}
use Rattle.vp_words.specs.declared.record.Kind.{Kind}
use Rattle.vp_words.specs.declared.record.Record.{Record}
use Rattle.vp_words.specs.Answerer.{Answerer}
use Rattle.vp_words.specs.Record.{IsRecord, kind_due}
use Rattle.vp_isa.specs.Answering.{machine_of}
use Rattle.vp_isa.specs.Machine.{MachineState, due_of}
use Rattle.vp_outside.specs.Causes.{Rose}
use Rattle.vp_outside.specs.Content.{AppendsPart}
use Rattle.vp_stream.specs.declared.verdict.Ending.{Ending}
use Rattle.vp_stream.specs.Pieces.{IsNoLf, byte_answer, resumed}
use Rattle.vp_stream.specs.Run.{Standing, Walked, answered, due_line, ended, input_limit, line_answer, line_limit, text_of, unless_ended}
use Rattle.vp_runner.specs.declared.progress.Answer.{Answer}
use Rattle.vp_runner.specs.declared.progress.Progress.{Progress}
use Rattle.vp_runner.specs.declared.walk.Halt.{Halt}
use Rattle.vp_runner.specs.declared.walk.Halt.TheVariants.{Ended, Failed}
use Rattle.vp_runner.specs.declared.walk.Walk.{Walk}

-- whose records the machine answers
abbrev pub answerer : Progress → Answerer MachineState
answerer p = machine_of p.machine.code

-- where the run stands
abbrev pub standing : Progress → Standing MachineState
standing p = record { state = p.machine.state; lines = p.lines; rounds = p.rounds }

-- the kind of record that is due
abbrev pub due_kind : Progress → Option Kind
due_kind p = kind_due (due_of p.machine.code p.machine.state)

-- a record that a line was read as is the one that is due
pub record IsDueNow (p : Progress) (r : Record) : Type 0 where
  pub kind : due_kind p ≡ Some r.kind
  pub valid : IsRecord p.machine.code.counts r
  pub room : r.len ≤ 64

-- what a line gives as the due record
abbrev pub due_gives : Progress → List ℕ → Walked MachineState
due_gives p line = due_line (answerer p) (standing p) (due_kind p) line

-- what a record gives
abbrev pub record_gives : Progress → Record → Walked MachineState
record_gives p r = answered (answerer p) (standing p) r.kind (take r.len r.words)

-- what a line gives was written at the front of a buffer, and the run stands where that leaves it
pub record Gave (w : Walked MachineState) (out : List ℕ) (answer : Answer) (p : Progress) : Type 0 where
  pub text : take answer.len out ≡ text_of w
  pub short : answer.len ≤ 1024
  pub stands : w.stands ≡ unless_ended answer.ending (standing p)

-- a text was printed, and ends the run where it does; where a write failed, a proper part of it was printed
abbrev pub Prints : {T : Type 0} → Result T Halt → Option Ending → List ℕ → Option (List ℕ) → Option (List ℕ) → Type 0
Prints (Ok done) e text before now = (e ≡ None) × Appends before now text
Prints (Err (Ended e)) ending text before now = (ending ≡ Some e) × Appends before now text
Prints (Err Failed) e text before now = AppendsPart before now text

-- what bytes give was printed, and the run stands where they leave it or ended as they say; where a
-- write failed, a proper part of it was printed
abbrev pub Walks : {T State : Type 0} → Result T Halt → Walked State → Standing State → Option (List ℕ) → Option (List ℕ) → Type 0
Walks (Ok done) w s before now = (w.stands ≡ Ok s) × Appends before now (text_of w)
Walks (Err (Ended e)) w s before now = (w.stands ≡ Err e) × Appends before now (text_of w)
Walks (Err Failed) w s before now = AppendsPart before now (text_of w)

-- what the last line gives was printed, and the end line where it goes on, with the rounds; where a write
-- failed, a proper part of both
abbrev pub Closes : {State : Type 0} → Result ℕ Halt → Walked State → Option (List ℕ) → Option (List ℕ) → Type 0
Closes {State = State} (Ok rounds) w before now = ((s : Standing State) × (w.stands ≡ Ok s) × (s.rounds ≡ rounds)) × Appends before now (ended (text_of w) w.stands).text
Closes (Err (Ended e)) w before now = (w.stands ≡ Err e) × Appends before now (ended (text_of w) w.stands).text
Closes (Err Failed) w before now = AppendsPart before now (ended (text_of w) w.stands).text

-- the count of faults rose where a write failed, and else stayed
abbrev pub IsCaused : {T : Type 0} → Result T Halt → ℕ → ℕ → Type 0
IsCaused (Err Failed) before now = Rose before now
IsCaused result before now = now ≡ before

-- a walk that can take n bytes more: the line is open and not too long, and no count passes its type
pub record HasRoom (w : Walk) (n : ℕ) : Type 0 where
  pub unended : w.line.ended ≡ false
  pub free : All IsNoLf w.line.text
  pub short : length w.line.text ≤ line_limit
  pub lines : w.progress.lines + length w.line.text + n < 2 ^ 63
  pub rounds : w.progress.rounds ≤ w.progress.lines

-- what a session keeps while it goes on
pub record IsSound (w : Walk) (fed : ℕ) : Type 0 where
  pub room : HasRoom w 0
  pub count : w.progress.lines + length w.line.text ≤ fed
  pub few : fed ≤ input_limit

-- what the line that is held gives as a whole one
abbrev pub held_gives : Walk → Walked MachineState
held_gives w = line_answer (answerer w.progress) (standing w.progress) w.line.text

-- what one byte more gives
abbrev pub byte_gives : Walk → ℕ → Walked MachineState
byte_gives w byte = byte_answer (answerer w.progress) (standing w.progress) w.line.text byte

-- what a piece more gives
abbrev pub piece_gives : Walk → List ℕ → Walked MachineState
piece_gives w piece = resumed (answerer w.progress) (standing w.progress) w.line.text piece
