-- What a piece, and the end of the input, add to the text so far.
use Rattle.std.proofs.Common.{◌≡◌, ℕ, ◌+◌, ◌<◌, List, [], ◌∷◌, ◌++◌, All, drop, length, Option, None, Result, Ok, Err, refl, ap, sym, subst, ◌∙◌, append_assoc, append-nil, arith, length-append}
use Rattle.std.specs.Io.KnownBytes.{Appends}
use Rattle.std.proofs.Math.Seq.{drop-append_seam}
use Rattle.vp_words.specs.Answerer.{Answerer}
use Rattle.vp_isa.specs.declared.code.Code.{Code}
use Rattle.vp_isa.specs.Answering.{machine_of}
use Rattle.vp_isa.specs.Machine.{MachineState}
use Rattle.vp_outside.specs.Content.{AppendsPart}
use Rattle.vp_stream.specs.declared.verdict.Ending.{Ending}
use Rattle.vp_stream.specs.declared.verdict.Ending.TheVariants as ending
use Rattle.vp_stream.specs.Pieces.{IsNoLf, added, held_of, resumed}
use Rattle.vp_stream.specs.Run.{Standing, Walked, end_line, ended, input_limit, last_text, line_answer, reply_lines, run, so_far, text_of, then_on}
use Rattle.vp_stream.proofs.Growth.{text_then}
use Rattle.vp_stream.proofs.RunLaws.{run_short}
use Rattle.vp_stream.proofs.Pieces.{held_of-append, resumed_lf, so_far_resumes}
use Rattle.vp_runner.specs.declared.walk.Halt.{Halt}
use Rattle.vp_runner.specs.declared.walk.Halt.TheVariants.{Ended, Failed}
use Rattle.vp_runner.specs.declared.ends.End.TheVariants as end
use Rattle.vp_runner.specs.Progress.{Closes, Walks}
use Rattle.vp_runner.specs.Sessions.{Feeds, Finishes, SessionState, StandsFor, closing}
use Rattle.vp_runner.specs.Halts.{end_of, fed_of}
use Rattle.vp_runner.proofs.Walking.{part_after, part_of_more}

-- a text that the end line may follow
ended_begins : {State : Type 0} (text : List ℕ) (r : Result (Standing State) Ending) → (more : List ℕ) × ((ended text r).text ≡ text ++ more)
ended_begins text (Err e) = ([], sym (append-nil text))
ended_begins text (Ok s) = (end_line s.rounds, refl)

-- the last line ended the run, or its write failed
pub closes_halted : {State T : Type 0} (w : Walked State) (u : Standing State) (r : Result T Halt) (q : Result ℕ Halt) (halt : Halt) (before now : Option (List ℕ))
    → q ≡ Err halt → r ≡ Err halt → Walks r w u before now → Closes q w before now
closes_halted w u (Ok d) q halt before now p e h = absurd cc
closes_halted w u r (Ok d) halt before now p e h = absurd cc
closes_halted w u (Err (Ended x)) (Err (Ended y)) halt before now p e h =
    let same : x ≡ y = cc in
    let P : List ℕ → Type 0 = λ l. Appends before now l in
    (h.0 ∙ ap (λ z. Err z) same, subst P (sym (ap (λ k. (ended (text_of w) k).text) h.0)) h.1)
closes_halted w u (Err Failed) (Err Failed) halt before now p e h =
    let more = ended_begins (text_of w) w.stands in
    let P : List ℕ → Type 0 = λ l. AppendsPart before now l in
    subst P (sym more.1) (part_of_more before now (text_of w) more.0 h)
closes_halted w u (Err (Ended x)) (Err Failed) halt before now p e h = absurd cc
closes_halted w u (Err Failed) (Err (Ended y)) halt before now p e h = absurd cc

-- the write of the end line failed
pub closes_failed : {State : Type 0} (w : Walked State) (s : Standing State) (line : List ℕ) (before mid now : Option (List ℕ)) → w.stands ≡ Ok s → line ≡ end_line s.rounds
    → Appends before mid (text_of w) → AppendsPart mid now line → AppendsPart before now (ended (text_of w) w.stands).text
closes_failed w s line before mid now e l h k =
    let P : List ℕ → Type 0 = λ x. AppendsPart before now x in
    subst P (sym (ap (λ r. (ended (text_of w) r).text) e ∙ ap (λ x. text_of w ++ x) (sym l))) (part_after before mid now (text_of w) line h k)

-- what further bytes give, by what they give where the run stands
pub piece_gives : {State : Type 0} (a : Answerer State) (bytes piece held : List ℕ) (s : Standing State) → (so_far a bytes).stands ≡ Ok s → held ≡ held_of bytes
    → ((so_far a (bytes ++ piece)).stands ≡ (resumed a s held piece).stands)
    × (text_of (so_far a (bytes ++ piece)) ≡ text_of (so_far a bytes) ++ text_of (resumed a s held piece))
piece_gives {State = State} a bytes piece held s e h =
    let whole : so_far a (bytes ++ piece) ≡ then_on (so_far a bytes).answers (Ok s) (λ u. resumed a u held piece) =
    so_far_resumes a bytes piece s e ∙ ap (λ l. then_on (so_far a bytes).answers (Ok s) (λ (u : Standing State). resumed a u l piece)) (sym h) in
    let front : text_of (so_far a bytes) ≡ reply_lines (so_far a bytes).answers = ap (λ r. reply_lines (so_far a bytes).answers ++ last_text r) e ∙ append-nil (reply_lines (so_far a bytes).answers) in (
      ap (λ (w : Walked _). w.stands) whole,
      ap text_of whole ∙ text_then (so_far a bytes).answers s (λ (u : Standing State). resumed a u held piece) ∙ ap (λ l. l ++ text_of (resumed a s held piece)) (sym front),
    )

pub added_text : {State : Type 0} (a : Answerer State) (bytes piece held : List ℕ) (s : Standing State) → (so_far a bytes).stands ≡ Ok s → held ≡ held_of bytes
    → added a bytes piece ≡ text_of (resumed a s held piece)
added_text a bytes piece held s e h =
    ap (λ l. drop (length (text_of (so_far a bytes))) l) (piece_gives a bytes piece held s e h).1 ∙ drop-append_seam (text_of (so_far a bytes)) (text_of (resumed a s held piece))

-- `feed` that goes on
pub feeds_on : (code : Code) (bytes piece : List ℕ) (s t : SessionState) (before now : Option (List ℕ)) → StandsFor code bytes s → t.code ≡ s.code → t.cause ≡ None → t.fed ≡ s.fed + length piece
    → t.held ≡ held_of (s.held ++ piece) → ((resumed (machine_of code) s.standing s.held piece).stands ≡ Ok t.standing) × Appends before now (text_of (resumed (machine_of code) s.standing s.held piece))
    → StandsFor code (bytes ++ piece) t × Appends before now (added (machine_of code) bytes piece)
feeds_on code bytes piece s t before now is same going fed held walked =
    let a = machine_of code in
    let P : List ℕ → Type 0 = λ l. Appends before now l in (
      record {
        runs = same ∙ is.runs;
        going = going;
        fed = grind (arith, fed, is.fed, length-append bytes piece);
        held = held ∙ ap (λ l. held_of (l ++ piece)) is.held ∙ sym (held_of-append bytes piece);
        standing = (piece_gives a bytes piece s.held s.standing is.standing is.held).0 ∙ walked.0;
      },
      subst P (sym (added_text a bytes piece s.held s.standing is.standing is.held)) walked.1,
    )

-- `feed` that halts
pub feeds_halt : {T : Type 0} (code : Code) (bytes piece : List ℕ) (s t : SessionState) (u : Standing MachineState) (r : Result T Halt) (halt : Halt) (before now : Option (List ℕ)) → StandsFor code bytes s → r ≡ Err halt
    → Walks r (resumed (machine_of code) s.standing s.held piece) u before now → Feeds (fed_of halt) code bytes piece t before now
feeds_halt code bytes piece s t u (Ok d) halt before now is e h = absurd cc
feeds_halt code bytes piece s t u (Err k) halt before now is e h =
    let a = machine_of code in
    by k halt (cc) (piece_gives a bytes piece s.held s.standing is.standing is.held).0 (added_text a bytes piece s.held s.standing is.standing is.held) h
  where
    by : (k halt : Halt) → k ≡ halt → (so_far (machine_of code) (bytes ++ piece)).stands ≡ (resumed (machine_of code) s.standing s.held piece).stands
        → added (machine_of code) bytes piece ≡ text_of (resumed (machine_of code) s.standing s.held piece)
        → Walks {T = Unit {0}} (Err k) (resumed (machine_of code) s.standing s.held piece) u before now → Feeds (fed_of halt) code bytes piece t before now
    by k (Ended ending.Violated) e p q h = let P : Halt → Type 0 = λ k. Walks {T = Unit {0}} (Err k) (resumed (machine_of code) s.standing s.held piece) u before now in let w = subst P e h in (p ∙ w.0, rw q w.1)
    by k (Ended (ending.BadLine n)) e p q h = let P : Halt → Type 0 = λ k. Walks {T = Unit {0}} (Err k) (resumed (machine_of code) s.standing s.held piece) u before now in let w = subst P e h in (p ∙ w.0, rw q w.1)
    by k Failed e p q h = let P : Halt → Type 0 = λ k. Walks {T = Unit {0}} (Err k) (resumed (machine_of code) s.standing s.held piece) u before now in rw q (subst P e h)

-- what the end of the input adds
pub closing_is : (code : Code) (bytes : List ℕ) (s : SessionState) → StandsFor code bytes s → All IsNoLf s.held → s.fed < input_limit
    → ((so_far (machine_of code) (bytes ++ 10 ∷ [])).stands ≡ (line_answer (machine_of code) s.standing s.held).stands)
    × (closing code bytes ≡ (ended (text_of (line_answer (machine_of code) s.standing s.held)) (line_answer (machine_of code) s.standing s.held).stands).text)
closing_is code bytes s is free lt =
    let a = machine_of code in
    let gives = piece_gives a bytes (10 ∷ []) s.held s.standing is.standing is.held in
    let last = line_answer a s.standing s.held in
    let lf : resumed a s.standing s.held (10 ∷ []) ≡ last = resumed_lf a s.standing s.held free in
    let stands : (so_far a (bytes ++ 10 ∷ [])).stands ≡ last.stands = gives.0 ∙ ap (λ (w : Walked MachineState). w.stands) lf in
    let front = text_of (so_far a bytes) in
    let text : text_of (so_far a (bytes ++ 10 ∷ [])) ≡ front ++ text_of last = gives.1 ∙ ap (λ (w : Walked MachineState). front ++ text_of w) lf in
    let due : (run a bytes).text ≡ front ++ (ended (text_of last) last.stands).text =
    ap (λ r. r.text) (run_short a bytes (omega (arith, lt, is.fed)))
    ∙ ap (λ l. (ended l (so_far a (bytes ++ 10 ∷ [])).stands).text) text ∙ ap (λ r. (ended (front ++ text_of last) r).text) stands ∙ ended_behind front (text_of last) last.stands in
    (stands, ap (λ l. drop (length front) l) due ∙ drop-append_seam front (ended (text_of last) last.stands).text)
  where
    ended_behind : (front text : List ℕ) (r : Result (Standing MachineState) Ending) → (ended (front ++ text) r).text ≡ front ++ (ended text r).text
    ended_behind front text (Err e) = refl
    ended_behind front text (Ok s) = append_assoc front text (end_line s.rounds)

-- `finish` to the end
pub finishes_done : (code : Code) (bytes : List ℕ) (s : SessionState) (rounds : ℕ) (before now : Option (List ℕ)) → StandsFor code bytes s → All IsNoLf s.held → s.fed < input_limit
    → Closes (Ok rounds) (line_answer (machine_of code) s.standing s.held) before now → Finishes (end.Done rounds) code bytes before now
finishes_done code bytes s rounds before now is free lt h =
    let c = closing_is code bytes s is free lt in
    ((h.0.0, c.0 ∙ h.0.1, h.0.2), rw c.1 h.1)

-- `finish` that halts
pub finishes_halt : (code : Code) (bytes : List ℕ) (s : SessionState) (halt : Halt) (before now : Option (List ℕ)) → StandsFor code bytes s → All IsNoLf s.held → s.fed < input_limit
    → Closes (Err halt) (line_answer (machine_of code) s.standing s.held) before now → Finishes (end_of halt) code bytes before now
finishes_halt code bytes s (Ended ending.Violated) before now is free lt h = let c = closing_is code bytes s is free lt in (c.0 ∙ h.0, rw c.1 h.1)
finishes_halt code bytes s (Ended (ending.BadLine n)) before now is free lt h = let c = closing_is code bytes s is free lt in (c.0 ∙ h.0, rw c.1 h.1)
finishes_halt code bytes s Failed before now is free lt h = let c = closing_is code bytes s is free lt in rw c.1 h
