-- The text of a run: what an answerer's lines are over a whole input, and how the run ends.
use Rattle.std.specs.Prelude.{ℕ, ◌+◌, ◌^◌, ◌==◌, ◌++◌, nat_lt, ℤ, List, [], ◌∷◌, length, take, Option, None, Some, Result, Ok, Err, if◌then◌else◌, codes}
use Rattle.std.specs.List.{flat_map, slice_split}
use Rattle.std.specs.Fmt.{decimal}
use Rattle.vp_words.specs.declared.record.Kind.{Kind}
use Rattle.vp_words.specs.declared.record.Kind.TheVariants.{Sense}
use Rattle.vp_words.specs.declared.record.Reply.{Reply}
use Rattle.vp_words.specs.declared.record.Reply.TheVariants as reply
use Rattle.vp_words.specs.Answerer.{Answerer}
use Rattle.vp_words.specs.Exchanges.{Exchange}
use Rattle.vp_words.specs.Record.{kind_due}
use Rattle.vp_stream.specs.declared.record.LineErr.{LineErr}
use Rattle.vp_stream.specs.declared.verdict.Ending.{Ending}
use Rattle.vp_stream.specs.declared.verdict.Ending.TheVariants as ending
use Rattle.vp_stream.specs.declared.verdict.Verdict.{Verdict}
use Rattle.vp_stream.specs.declared.verdict.Verdict.TheVariants.{Done, Violated, BadLine, TooMuch}
use Rattle.vp_stream.specs.Lines.{is_skipped, without_return}
use Rattle.vp_stream.specs.Printing.{reply_line}
use Rattle.vp_stream.specs.Reading.{reading}

-- where a run stands: the answerer's state, how many lines there were, and how many sensings were answered
pub record Standing (State : Type 0) : Type 0 where
  pub state : State
  pub lines : ℕ
  pub rounds : ℕ

-- the records that were answered, and where the run stands, or how a line ended it
pub record Walked (State : Type 0) : Type 0 where
  pub answers : List Exchange
  pub stands : Result (Standing State) Ending

-- the most bytes that a line has before its LF
abbrev pub line_limit : ℕ
line_limit = 4096

-- the most bytes of an input that are taken
abbrev pub input_limit : ℕ
input_limit = 2 ^ 62

-- what is printed at a bad line: its number, counted from 1 over all lines
abbrev pub bad_line : ℕ → List ℕ
bad_line n = codes "bad line " ++ decimal n ++ codes "\n"

-- what is printed at the end of an input that was answered whole: how many sensings were answered
abbrev pub end_line : ℕ → List ℕ
end_line rounds = codes "end " ++ decimal rounds ++ codes "\n"

-- the lines of the replies
abbrev pub reply_lines : List Exchange → List ℕ
reply_lines answers = flat_map (λ (x : Exchange). reply_line x.reply) answers

-- what is printed where a line ends the run: the line of a violation is that of its reply
abbrev pub ending_text : Ending → List ℕ
ending_text ending.Violated = []
ending_text (ending.BadLine n) = bad_line n

-- what is printed behind the replies: nothing yet, where the run goes on
abbrev pub last_text : {State : Type 0} → Result (Standing State) Ending → List ℕ
last_text (Err e) = ending_text e
last_text (Ok s) = []

-- what was printed
abbrev pub text_of : {State : Type 0} → Walked State → List ℕ
text_of w = reply_lines w.answers ++ last_text w.stands

-- a bad line ends the run, by its number
abbrev pub bad_at : {State : Type 0} → Standing State → Walked State
bad_at s = record { answers = []; stands = Err (ending.BadLine (s.lines + 1)) }

-- nothing was answered yet
abbrev pub waiting : {State : Type 0} → Standing State → Walked State
waiting s = record { answers = []; stands = Ok s }

-- a line that is skipped gives nothing
abbrev pub skipped : {State : Type 0} → Standing State → Walked State
skipped s = waiting (record { state = s.state; lines = s.lines + 1; rounds = s.rounds })

-- each sensing that is answered is a round
abbrev pub rounds_of : Kind → ℕ
rounds_of Sense = 1
rounds_of kind = 0

-- a violation ends the run
abbrev pub ending_after : Reply → Option Ending
ending_after (reply.Violation why) = Some ending.Violated
ending_after reply = None

-- where a run stands, unless it has ended
abbrev pub unless_ended : {State : Type 0} → Option Ending → Standing State → Result (Standing State) Ending
unless_ended None s = Ok s
unless_ended (Some e) s = Err e

-- the due record gives its reply
abbrev pub answered : {State : Type 0} → Answerer State → Standing State → Kind → List ℤ → Walked State
answered a s kind words =
    let reply = a.reply s.state words in
    record {
      answers = record { kind = kind; words = words; reply = reply } ∷ [];
      stands = unless_ended (ending_after reply) (record { state = a.next s.state words; lines = s.lines + 1; rounds = s.rounds + rounds_of kind });
    }

-- a line as the due kind of record reads it
abbrev pub read_line : {State : Type 0} → Answerer State → Standing State → Kind → Result (List ℤ) LineErr → Walked State
read_line a s kind (Err e) = bad_at s
read_line a s kind (Ok words) = answered a s kind words

-- a line where a record of the kind is due, or none is
abbrev pub due_line : {State : Type 0} → Answerer State → Standing State → Option Kind → List ℕ → Walked State
due_line a s None line = bad_at s
due_line a s (Some kind) line = read_line a s kind (reading kind a.counts line)

-- what a whole line gives, where it is short enough
abbrev pub short_line : {State : Type 0} → Answerer State → Standing State → List ℕ → Walked State
short_line a s line = if is_skipped line then skipped s else due_line a s (kind_due (a.due s.state)) line

-- what a whole line gives: one of more than 4,096 bytes before its LF is bad whatever it holds
abbrev pub line_answer : {State : Type 0} → Answerer State → Standing State → List ℕ → Walked State
line_answer a s line = if nat_lt line_limit (length line) then bad_at s else short_line a s (without_return line)

-- what follows answers, unless the run ended with them
abbrev pub then_on : {State : Type 0} → List Exchange → Result (Standing State) Ending → (Standing State → Walked State) → Walked State
then_on answers (Err e) on = record { answers = answers; stands = Err e }
then_on answers (Ok s) on = let w = on s in record { answers = answers ++ w.answers; stands = w.stands }

-- the bytes behind the last LF: bad at byte 4,097, and else not answered yet
abbrev pub held_answer : {State : Type 0} → Standing State → List ℕ → Walked State
held_answer s held = if nat_lt line_limit (length held) then bad_at s else waiting s

-- the answers to the lines, the last of which is held
abbrev pub walk : {State : Type 0} → Answerer State → Standing State → List (List ℕ) → Walked State
walk a s [] = waiting s
walk a s (held ∷ []) = held_answer s held
walk a s (line ∷ next ∷ more) = let w = line_answer a s line in then_on w.answers w.stands (λ t. walk a t (next ∷ more))

-- bytes cut at each LF: the last part is what stands behind the last LF
abbrev pub lines_of : List ℕ → List (List ℕ)
lines_of bytes = slice_split (λ b. b == 10) bytes

-- where a run stands at first
abbrev pub start_of : {State : Type 0} → Answerer State → Standing State
start_of a = record { state = a.start; lines = 0; rounds = 0 }

-- what the whole lines of the bytes give, from left to right
abbrev pub so_far : {State : Type 0} → Answerer State → List ℕ → Walked State
so_far a bytes = walk a (start_of a) (lines_of bytes)

-- a text and how it ends
pub record Run : Type 0 where
  pub text : List ℕ
  pub verdict : Verdict

-- the verdict of a run that a line ended
abbrev pub verdict_of : Ending → Verdict
verdict_of ending.Violated = Violated
verdict_of (ending.BadLine n) = BadLine

-- a text after the last line: the end line follows, unless the run has ended
abbrev pub ended : {State : Type 0} → List ℕ → Result (Standing State) Ending → Run
ended text (Err e) = record { text = text; verdict = verdict_of e }
ended text (Ok s) = record { text = text ++ end_line s.rounds; verdict = Done }

-- the run of an input, by what its whole lines give and by what they give with one LF behind them:
-- where they have ended it, it is theirs; else the bytes behind the last LF count as a line where there
-- are any, and the end line follows unless that line ends the run
abbrev pub closed_by : {State : Type 0} → List ℕ → Result (Standing State) Ending → Walked State → Run
closed_by text (Err e) whole = record { text = text; verdict = verdict_of e }
closed_by text (Ok s) whole = ended (text_of whole) whole.stands

-- the same of the walk over the whole lines
abbrev pub closed : {State : Type 0} → Walked State → Walked State → Run
closed w whole = closed_by (text_of w) w.stands whole

-- the run of an input that is taken whole
abbrev pub whole_run : {State : Type 0} → Answerer State → List ℕ → Run
whole_run a bytes = closed (so_far a bytes) (so_far a (bytes ++ 10 ∷ []))

-- what was printed, unless the run has ended
abbrev pub going_by : {S E : Type 0} → List ℕ → Result S E → Option (List ℕ)
going_by text (Err e) = None
going_by text (Ok s) = Some text

-- the same of a walk
abbrev pub going_text : {State : Type 0} → Walked State → Option (List ℕ)
going_text w = going_by (text_of w) w.stands

-- the run of an input that is too long, by what its first bytes print: only they count, unless they ended it
abbrev pub cut : Option (List ℕ) → Run → Run
cut None whole = whole
cut (Some text) whole = record { text = text; verdict = TooMuch }

-- the run of an input, by what any bytes print that have not ended it, and by the run of any bytes that are taken whole
abbrev pub limited : (List ℕ → Option (List ℕ)) → (List ℕ → Run) → List ℕ → Run
limited going whole bytes = if nat_lt (length bytes) input_limit then whole bytes else cut (going (take input_limit bytes)) (whole bytes)

-- the text of a run and its verdict
unfoldable pub run : {State : Type 0} → Answerer State → List ℕ → Run
run a bytes = limited (λ front. going_text (so_far a front)) (whole_run a) bytes
