-- The records that a run answered: that they are due, each in its turn, and that its text is the lines of
-- the replies to them, with what ends it.
use Rattle.std.specs.Prelude.{◌≡◌, ◌↔◌, ℕ, ◌+◌, ◌++◌, ◌||◌, nat_lt, ℤ, Bool, true, false, IsTrue, List, [], ◌∷◌, length, map, take, Result, Ok, Err, if◌then◌else◌}
use Rattle.vp_words.specs.Answerer.{Answerer}
use Rattle.vp_words.specs.Exchanges.{AreDue, Exchange, exchanges, state_after}
use Rattle.vp_words.specs.Record.{is_violation}
use Rattle.vp_stream.specs.declared.verdict.Ending.{Ending}
use Rattle.vp_stream.specs.declared.verdict.Ending.TheVariants as ending
use Rattle.vp_stream.specs.declared.verdict.Verdict.{Verdict}
use Rattle.vp_stream.specs.declared.verdict.Verdict.TheVariants.{Done, Violated, BadLine, TooMuch}
use Rattle.vp_stream.specs.Run.{Run, Standing, Walked, bad_line, end_line, input_limit, reply_lines, rounds_of, so_far}

-- the words of the records that were answered
abbrev pub records_in : List Exchange → List (List ℤ)
records_in answers = map (λ (x : Exchange). x.words) answers

-- how many sensings were answered
abbrev pub rounds_in : List Exchange → ℕ
rounds_in [] = 0
rounds_in (x ∷ answers) = rounds_of x.kind + rounds_in answers

-- some reply is a violation
abbrev pub has_violation : List Exchange → Bool
has_violation [] = false
has_violation (x ∷ answers) = is_violation x.reply || has_violation answers

-- nothing is answered behind a violation
abbrev pub StopsAtViolation : List Exchange → Type 0
StopsAtViolation [] = Unit {0}
StopsAtViolation (x ∷ answers) = (is_violation x.reply ≡ true → answers ≡ []) × StopsAtViolation answers

-- the answers of an answerer from a state on: their records are due, each in its turn, they are what is
-- exchanged over them, and only the last may be a violation
pub record AreAnswers {State : Type 0} (a : Answerer State) (s : State) (answers : List Exchange) : Type 0 where
  pub due : AreDue a s (records_in answers)
  pub replies : answers ≡ exchanges a s (records_in answers)
  pub stops : StopsAtViolation answers

-- where a run goes on, it stands in this state, after so many rounds
abbrev pub IsReached : {State : Type 0} → Result (Standing State) Ending → State → ℕ → Type 0
IsReached (Err e) state rounds = Unit {0}
IsReached (Ok s) state rounds = (s.state ≡ state) × (s.rounds ≡ rounds)

-- a walk answered records that are due from its start on, and stands behind them, unless a line ended it:
-- by a violation exactly where a reply is one
pub record IsAnswered {State : Type 0} (a : Answerer State) (w : Walked State) : Type 0 where
  pub answers : AreAnswers a a.start w.answers
  pub stands : IsReached w.stands (state_after a a.start (records_in w.answers)) (rounds_in w.answers)
  pub violated : (w.stands ≡ Err ending.Violated) ↔ IsTrue (has_violation w.answers)

-- the bytes of an input whose lines a run goes through: its first 2^62 bytes, or all of a shorter input,
-- and then one LF ends its last line
abbrev pub run_bytes : List ℕ → List ℕ
run_bytes bytes = if nat_lt (length bytes) input_limit then bytes ++ 10 ∷ [] else take input_limit bytes

-- the answers in the text of the run over an input
abbrev pub answers_of : {State : Type 0} → Answerer State → List ℕ → List Exchange
answers_of a bytes = (so_far a (run_bytes bytes)).answers

-- the words of the records that are answered in it
abbrev pub records_of : {State : Type 0} → Answerer State → List ℕ → List (List ℤ)
records_of a bytes = records_in (answers_of a bytes)

-- what stands behind the replies: the number of rounds at the end of the input, or of the line that is bad
abbrev pub IsEnding : Verdict → ℕ → List ℕ → Type 0
IsEnding Done rounds ending = ending ≡ end_line rounds
IsEnding Violated rounds ending = ending ≡ []
IsEnding BadLine rounds ending = (n : ℕ) × (ending ≡ bad_line n)
IsEnding TooMuch rounds ending = ending ≡ []

-- the text of a run is the lines of the replies to records that were due, each in its turn, and what ends it;
-- it ends with a violation exactly where a reply is one
pub record IsMadeOf {State : Type 0} (a : Answerer State) (answers : List Exchange) (r : Run) : Type 0 where
  pub given : AreAnswers a a.start answers
  pub ending : List ℕ
  pub violated : (r.verdict ≡ Violated) ↔ IsTrue (has_violation answers)
  pub ends : IsEnding r.verdict (rounds_in answers) ending
  pub text : r.text ≡ reply_lines answers ++ ending
