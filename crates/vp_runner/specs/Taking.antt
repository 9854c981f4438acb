-- One read of a run over a source: what it did, and how it ends the run. Private to `run_stream`.
use Rattle.std.specs.Prelude.{ℕ, ◌≡◌, ◌<◌, ◌≤◌, ◌++◌, List, length, drop, Option, None, Some}
use Rattle.std.specs.Io.KnownBytes.{Appends, Consumes, IsAtEnd, Keeps}
use Rattle.vp_isa.specs.declared.code.Code.{Code}
use Rattle.vp_isa.specs.Answering.{machine_of}
use Rattle.vp_outside.specs.Content.{AppendsPart, Tells}
use Rattle.vp_stream.specs.Pieces.{added}
use Rattle.vp_stream.specs.Run.{Run, input_limit, run, so_far, text_of}
use Rattle.vp_runner.specs.declared.ends.End.{End}
use Rattle.vp_runner.specs.declared.ends.End.TheVariants as end
use Rattle.vp_runner.specs.declared.ends.Fed.{Fed}
use Rattle.vp_runner.specs.declared.ends.Fed.TheVariants as fed
use Rattle.vp_runner.specs.declared.ends.RunEnd.{RunEnd}
use Rattle.vp_runner.specs.declared.ends.RunEnd.TheVariants.{Done, Violated, BadLine, ReadFault, WriteFault, TooMuch}
use Rattle.vp_runner.specs.Ends.{Ends}
use Rattle.vp_runner.specs.Sessions.{SessionState, StandsFor}

-- what the rest of an input adds to the text of its front, and the verdict
abbrev pub rest_run : Code → List ℕ → List ℕ → Run
rest_run code bytes rest = record {
  text = drop (length (text_of (so_far (machine_of code) bytes))) (run (machine_of code) (bytes ++ rest)).text;
  verdict = (run (machine_of code) (bytes ++ rest)).verdict;
}

-- one read behind these bytes, and what is due for what it gave
abbrev pub Takes : Option RunEnd → Code → List ℕ → SessionState → Option (List ℕ) → Option (List ℕ) → Option (List ℕ) → Option (List ℕ) → Type 0
Takes None code bytes s left_before left_now before now = (piece : List ℕ) × (0 < length piece) × (length (bytes ++ piece) ≤ input_limit)
    × StandsFor code (bytes ++ piece) s × Consumes left_before left_now piece × Appends before now (added (machine_of code) bytes piece)
Takes (Some ReadFault) code bytes s left_before left_now before now = Keeps left_before left_now × Keeps before now
Takes (Some WriteFault) code bytes s left_before left_now before now = (piece : List ℕ) × (text : List ℕ) × (length piece ≤ 4096)
    × Consumes left_before left_now piece × AppendsPart before now text × (rest : List ℕ) × Tells left_before rest × (more : List ℕ) × ((rest_run code bytes rest).text ≡ text ++ more)
Takes (Some Done) code bytes s left_before left_now before now = IsAtEnd left_now × (rest : List ℕ) × Tells left_before rest × Ends Done (rest_run code bytes rest) before now
Takes (Some TooMuch) code bytes s left_before left_now before now = ⊥
Takes (Some other) code bytes s left_before left_now before now = (rest : List ℕ) × Tells left_before rest × Ends other (rest_run code bytes rest) before now

-- these bytes were taken, and what they give so far was printed
pub record HasTaken (code : Code) (s : SessionState) (left_before left_now before now : Option (List ℕ)) : Type 0 where
  pub bytes : List ℕ
  pub stands : StandsFor code bytes s
  pub consumed : Consumes left_before left_now bytes
  pub printed : Appends before now (text_of (so_far (machine_of code) bytes))

-- how a run ends behind a piece, if it does; a session that goes on isn't ended
abbrev pub end_fed : Fed → Option RunEnd
end_fed fed.Going = None
end_fed fed.Violated = Some Violated
end_fed (fed.BadLine n) = Some BadLine
end_fed answer = Some WriteFault

-- how it ends behind the end of the input
abbrev pub end_finished : End → RunEnd
end_finished (end.Done rounds) = Done
end_finished end.Violated = Violated
end_finished (end.BadLine n) = BadLine
end_finished answer = WriteFault
