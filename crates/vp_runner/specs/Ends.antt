-- How a run over a source ends.
use Rattle.std.specs.Prelude.{ℕ, ◌≡◌, ◌-◌, ◌++◌, List, length, take, Option, None, Some, Ok}
use Rattle.std.specs.Io.KnownBytes.{Appends, Consumes}
use Rattle.vp_words.specs.Answerer.{Answerer}
use Rattle.vp_outside.specs.Causes.{Rose}
use Rattle.vp_outside.specs.Content.{AppendsPart, Tells}
use Rattle.vp_stream.specs.declared.verdict.Verdict.TheVariants as verdict
use Rattle.vp_stream.specs.Run.{Run, Standing, run, so_far, text_of}
use Rattle.vp_runner.specs.declared.ends.RunEnd.{RunEnd}
use Rattle.vp_runner.specs.declared.ends.RunEnd.TheVariants.{Done, Violated, BadLine, ReadFault, WriteFault, TooMuch}

-- a whole text was printed and the answer is its verdict, or a proper part of it where a write failed;
-- what a read fault leaves is said apart
abbrev pub Ends : RunEnd → Run → Option (List ℕ) → Option (List ℕ) → Type 0
Ends Done r before now = (r.verdict ≡ verdict.Done) × Appends before now r.text
Ends Violated r before now = (r.verdict ≡ verdict.Violated) × Appends before now r.text
Ends BadLine r before now = (r.verdict ≡ verdict.BadLine) × Appends before now r.text
Ends TooMuch r before now = (r.verdict ≡ verdict.TooMuch) × Appends before now r.text
Ends WriteFault r before now = AppendsPart before now r.text
Ends ReadFault r before now = Unit {0}

-- the run of what the source had left ends so: of the bytes that it told, or of some where it told none
abbrev pub EndsOf : {State : Type 0} → Answerer State → RunEnd → Option (List ℕ) → Option (List ℕ) → Option (List ℕ) → Type 0
EndsOf a end left before now = (bytes : List ℕ) × Tells left bytes × Ends end (run a bytes) before now

-- the bytes that were taken have not ended the run, and what they give so far was printed
abbrev pub PrintsTaken : {State : Type 0} → Answerer State → Option (List ℕ) → Option (List ℕ) → Option (List ℕ) → Option (List ℕ) → Type 0
PrintsTaken {State = State} a left_before left_now before now = (taken : List ℕ) × (s : Standing State)
    × Consumes left_before left_now taken × ((so_far a taken).stands ≡ Ok s) × Appends before now (text_of (so_far a taken))

-- known bytes grow by some that begin with these
abbrev pub AppendsFront : Option (List ℕ) → Option (List ℕ) → List ℕ → Type 0
AppendsFront None now front = Unit {0}
AppendsFront (Some xs) None front = ⊥
AppendsFront (Some xs) (Some ys) front = (more : List ℕ) × (ys ≡ xs ++ (front ++ more))

-- what was printed begins with what the bytes that were taken give so far, less the last 4,096 of them
abbrev pub PrintsInTime : {State : Type 0} → Answerer State → Option (List ℕ) → Option (List ℕ) → Option (List ℕ) → Option (List ℕ) → Type 0
PrintsInTime a left_before left_now before now = (taken : List ℕ)
    × Consumes left_before left_now taken × AppendsFront before now (text_of (so_far a (take (length taken - 4096) taken)))

-- the source's count rose where a read failed, and the sink's where a write failed; else they stayed
abbrev pub AreCauses : Option RunEnd → ℕ → ℕ → ℕ → ℕ → Type 0
AreCauses (Some ReadFault) reads reads_now writes writes_now = Rose reads reads_now × (writes_now ≡ writes)
AreCauses (Some WriteFault) reads reads_now writes writes_now = (reads_now ≡ reads) × Rose writes writes_now
AreCauses end reads reads_now writes writes_now = (reads_now ≡ reads) × (writes_now ≡ writes)
