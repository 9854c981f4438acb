-- What a session stands for.
use Rattle.std.specs.Prelude.{ℕ, ◌≡◌, ◌+◌, ◌++◌, List, [], ◌∷◌, length, drop, Option, None, Some, Ok, Err}
use Rattle.std.specs.Io.KnownBytes.{Appends}
use Rattle.vp_isa.specs.declared.code.Code.{Code}
use Rattle.vp_isa.specs.Answering.{machine_of}
use Rattle.vp_isa.specs.Machine.{MachineState}
use Rattle.vp_outside.specs.Causes.{Rose}
use Rattle.vp_outside.specs.Content.{AppendsPart}
use Rattle.vp_stream.specs.declared.verdict.Ending.TheVariants as ending
use Rattle.vp_stream.specs.Pieces.{added, held_of}
use Rattle.vp_stream.specs.Run.{Standing, run, so_far, text_of}
use Rattle.vp_runner.specs.declared.ends.Cause.{Cause}
use Rattle.vp_runner.specs.declared.ends.Cause.TheVariants as cause
use Rattle.vp_runner.specs.declared.ends.Fed.{Fed}
use Rattle.vp_runner.specs.declared.ends.Fed.TheVariants as fed
use Rattle.vp_runner.specs.declared.ends.End.{End}
use Rattle.vp_runner.specs.declared.ends.End.TheVariants as end

-- a session as contracts see it: its code, where the run stands, the line that is held, how many bytes
-- were fed, and why nothing more is answered
pub record SessionState : Type 0 where
  pub code : Code
  pub standing : Standing MachineState
  pub held : List ℕ
  pub fed : ℕ
  pub cause : Option Cause

-- a session that goes on and stands where the walk over these bytes leaves it; of the bytes it keeps
-- their number and the line that is held
pub record StandsFor (code : Code) (bytes : List ℕ) (s : SessionState) : Type 0 where
  pub runs : s.code ≡ code
  pub going : s.cause ≡ None
  pub fed : s.fed ≡ length bytes
  pub held : s.held ≡ held_of bytes
  pub standing : (so_far (machine_of code) bytes).stands ≡ Ok s.standing

-- why nothing more is answered after an answer of `feed`
abbrev pub cause_fed : Fed → Option Cause
cause_fed fed.Going = None
cause_fed fed.Violated = Some cause.Violated
cause_fed (fed.BadLine n) = Some (cause.BadLine n)
cause_fed fed.Failed = Some cause.Failed
cause_fed (fed.Ended why) = Some why

-- the same of `finish`
abbrev pub cause_end : End → Option Cause
cause_end (end.Done rounds) = Some cause.Finished
cause_end end.Violated = Some cause.Violated
cause_end (end.BadLine n) = Some (cause.BadLine n)
cause_end end.Failed = Some cause.Failed
cause_end (end.Ended why) = Some why

-- `feed` printed what the piece adds to the text of the bytes before, and ended as the bytes with the
-- piece do; where a write failed, a proper part of that was printed
abbrev pub Feeds : Fed → Code → List ℕ → List ℕ → SessionState → Option (List ℕ) → Option (List ℕ) → Type 0
Feeds fed.Going code bytes piece s before now = StandsFor code (bytes ++ piece) s × Appends before now (added (machine_of code) bytes piece)
Feeds fed.Violated code bytes piece s before now = ((so_far (machine_of code) (bytes ++ piece)).stands ≡ Err ending.Violated) × Appends before now (added (machine_of code) bytes piece)
Feeds (fed.BadLine n) code bytes piece s before now = ((so_far (machine_of code) (bytes ++ piece)).stands ≡ Err (ending.BadLine n)) × Appends before now (added (machine_of code) bytes piece)
Feeds fed.Failed code bytes piece s before now = AppendsPart before now (added (machine_of code) bytes piece)
Feeds (fed.Ended why) code bytes piece s before now = ⊥

-- what the end of the input adds to the text of the bytes
abbrev pub closing : Code → List ℕ → List ℕ
closing code bytes = drop (length (text_of (so_far (machine_of code) bytes))) (run (machine_of code) bytes).text

-- `finish` printed what the end adds, and ended as the bytes with one LF do
abbrev pub Finishes : End → Code → List ℕ → Option (List ℕ) → Option (List ℕ) → Type 0
Finishes (end.Done rounds) code bytes before now = ((s : Standing MachineState) × ((so_far (machine_of code) (bytes ++ 10 ∷ [])).stands ≡ Ok s) × (s.rounds ≡ rounds)) × Appends before now (closing code bytes)
Finishes end.Violated code bytes before now = ((so_far (machine_of code) (bytes ++ 10 ∷ [])).stands ≡ Err ending.Violated) × Appends before now (closing code bytes)
Finishes (end.BadLine n) code bytes before now = ((so_far (machine_of code) (bytes ++ 10 ∷ [])).stands ≡ Err (ending.BadLine n)) × Appends before now (closing code bytes)
Finishes end.Failed code bytes before now = AppendsPart before now (closing code bytes)
Finishes (end.Ended why) code bytes before now = ⊥

-- the count of faults rose where a write failed, and else stayed
abbrev pub IsFedBy : Fed → ℕ → ℕ → Type 0
IsFedBy fed.Failed before now = Rose before now
IsFedBy answer before now = now ≡ before

abbrev pub IsEndedBy : End → ℕ → ℕ → Type 0
IsEndedBy end.Failed before now = Rose before now
IsEndedBy answer before now = now ≡ before

-- how many bytes were fed behind an answer of `feed`
abbrev pub fed_after : Fed → ℕ → ℕ → ℕ
fed_after fed.Going before piece = before + piece
fed_after answer before piece = before
