-- Pieces that are fed one after the other are fed as their join is.
use Rattle.std.proofs.Common.{◌≡◌, ℕ, List, [], ◌∷◌, ◌++◌, drop, length, Option, None, Some, Result, Ok, Err, refl, ap, sym, subst, ◌∙◌, append_assoc, append-nil}
use Rattle.std.specs.Io.KnownBytes.{Appends}
use Rattle.vp_words.specs.Answerer.{Answerer}
use Rattle.vp_isa.specs.declared.code.Code.{Code}
use Rattle.vp_isa.specs.Answering.{machine_of}
use Rattle.vp_isa.specs.Machine.{MachineState}
use Rattle.vp_outside.specs.Content.{AppendsPart}
use Rattle.vp_outside.proofs.Known.{appends_more}
use Rattle.vp_stream.specs.declared.verdict.Ending.{Ending}
use Rattle.vp_stream.specs.declared.verdict.Ending.TheVariants as ending
use Rattle.vp_stream.specs.Pieces.{added, joined}
use Rattle.vp_stream.specs.Run.{Standing, Walked, so_far, text_of}
use Rattle.vp_stream.proofs.Growth.{so_far_grows}
use Rattle.vp_stream.proofs.Pieces.{added_more, nothing_added}
use Rattle.vp_runner.specs.declared.ends.End.{End}
use Rattle.vp_runner.specs.declared.ends.End.TheVariants as end
use Rattle.vp_runner.specs.declared.ends.Fed.{Fed}
use Rattle.vp_runner.specs.declared.ends.Fed.TheVariants as fed
use Rattle.vp_runner.specs.Cutting.{FeedsAll, FollowedBy}
use Rattle.vp_runner.specs.Sessions.{Feeds, Finishes, SessionState, StandsFor, closing}
use Rattle.vp_runner.proofs.Walking.{appends_nothing, part_after, part_of_more}

-- behind a run that has ended nothing is added
ended_adds : (code : Code) (bytes piece rest : List ℕ) (e : Ending) → (so_far (machine_of code) (bytes ++ piece)).stands ≡ Err e
    → ((so_far (machine_of code) (bytes ++ (piece ++ rest))).stands ≡ Err e) × (added (machine_of code) bytes (piece ++ rest) ≡ added (machine_of code) bytes piece)
ended_adds code bytes piece rest e h =
    let a = machine_of code in
    let same : so_far a (bytes ++ (piece ++ rest)) ≡ so_far a (bytes ++ piece) =
    ap (so_far a) (sym (append_assoc bytes piece rest)) ∙ (so_far_grows a (bytes ++ piece) rest).ended e h in
    (ap (λ (w : Walked MachineState). w.stands) same ∙ h, ap (λ (w : Walked MachineState). drop (length (text_of (so_far a bytes))) (text_of w)) same)

-- a piece behind one that goes on
feeds_behind : (last : Fed) (code : Code) (bytes piece rest : List ℕ) (s : SessionState) (before mid now : Option (List ℕ)) → Appends before mid (added (machine_of code) bytes piece)
    → Feeds last code (bytes ++ piece) rest s mid now → Feeds last code bytes (piece ++ rest) s before now
feeds_behind last code bytes piece rest s before mid now h = by last
  where
    a : Answerer MachineState
    a = machine_of code

    assoc : bytes ++ (piece ++ rest) ≡ (bytes ++ piece) ++ rest
    assoc = sym (append_assoc bytes piece rest)

    text : Appends mid now (added a (bytes ++ piece) rest) → Appends before now (added a bytes (piece ++ rest))
    text k =
        let P : List ℕ → Type 0 = λ l. Appends before now l in
        subst P (sym (added_more a bytes piece rest)) (appends_more before mid now (added a bytes piece) (added a (bytes ++ piece) rest) h k)

    by : (last : Fed) → Feeds last code (bytes ++ piece) rest s mid now → Feeds last code bytes (piece ++ rest) s before now
    by fed.Going k = let P : List ℕ → Type 0 = λ l. StandsFor code l s in (subst P (sym assoc) k.0, text k.1)
    by fed.Violated k = (ap (λ l. (so_far a l).stands) assoc ∙ k.0, text k.1)
    by (fed.BadLine n) k = (ap (λ l. (so_far a l).stands) assoc ∙ k.0, text k.1)
    by fed.Failed k =
        let P : List ℕ → Type 0 = λ l. AppendsPart before now l in
        subst P (sym (added_more a bytes piece rest)) (part_after before mid now (added a bytes piece) (added a (bytes ++ piece) rest) h k)
    by (fed.Ended why) k = absurd k

-- a piece behind one that doesn't go on is not looked at
feeds_last : (first : Fed) (code : Code) (bytes piece rest : List ℕ) (s t : SessionState) (before now : Option (List ℕ)) → (first ≡ fed.Going → ⊥)
    → Feeds first code bytes piece t before now → Feeds first code bytes (piece ++ rest) s before now
feeds_last fed.Going code bytes piece rest s t before now never h = absurd (never refl)
feeds_last fed.Violated code bytes piece rest s t before now never h =
    let same = ended_adds code bytes piece rest ending.Violated h.0 in
    let P : List ℕ → Type 0 = λ l. Appends before now l in
    (same.0, subst P (sym same.1) h.1)
feeds_last (fed.BadLine n) code bytes piece rest s t before now never h =
    let same = ended_adds code bytes piece rest (ending.BadLine n) h.0 in
    let P : List ℕ → Type 0 = λ l. Appends before now l in
    (same.0, subst P (sym same.1) h.1)
feeds_last fed.Failed code bytes piece rest s t before now never h =
    let P : List ℕ → Type 0 = λ l. AppendsPart before now l in
    subst P (sym (added_more (machine_of code) bytes piece rest)) (part_of_more before now (added (machine_of code) bytes piece) (added (machine_of code) (bytes ++ piece) rest) h)
feeds_last (fed.Ended why) code bytes piece rest s t before now never h = absurd h

-- the same where the last answer is that one
feeds_ended : (first last : Fed) (code : Code) (bytes piece rest : List ℕ) (s t : SessionState) (before mid now : Option (List ℕ)) → (first ≡ fed.Going → ⊥)
    → Feeds first code bytes piece t before mid → (last ≡ first) × (now ≡ mid) → Feeds last code bytes (piece ++ rest) s before now
feeds_ended first last code bytes piece rest s t before mid now never h e =
    let P : Fed → Type 0 = λ answer. Feeds answer code bytes (piece ++ rest) s before now in
    let Q : Option (List ℕ) → Type 0 = λ told. Feeds first code bytes (piece ++ rest) s before told in
    subst P (sym e.0) (subst Q (sym e.1) (feeds_last first code bytes piece rest s t before mid never h))

-- one piece, and then the others
feeds_first : (first last : Fed) (code : Code) (bytes piece : List ℕ) (pieces : List (List ℕ)) (s t : SessionState) (before mid now : Option (List ℕ))
    → (FeedsAll last code (bytes ++ piece) pieces s mid now → Feeds last code (bytes ++ piece) (joined pieces) s mid now)
    → Feeds first code bytes piece t before mid → FollowedBy (FeedsAll last code (bytes ++ piece) pieces s mid now) first last mid now
    → Feeds last code bytes (piece ++ joined pieces) s before now
feeds_first fed.Going last code bytes piece pieces s t before mid now others h k = feeds_behind last code bytes piece (joined pieces) s before mid now h.1 (others k)
feeds_first fed.Violated last code bytes piece pieces s t before mid now others h k = feeds_ended fed.Violated last code bytes piece (joined pieces) s t before mid now (λ e. absurd cc) h k
feeds_first (fed.BadLine n) last code bytes piece pieces s t before mid now others h k = feeds_ended (fed.BadLine n) last code bytes piece (joined pieces) s t before mid now (λ e. absurd cc) h k
feeds_first fed.Failed last code bytes piece pieces s t before mid now others h k = feeds_ended fed.Failed last code bytes piece (joined pieces) s t before mid now (λ e. absurd cc) h k
feeds_first (fed.Ended why) last code bytes piece pieces s t before mid now others h k = absurd h

pub feeds_all : (pieces : List (List ℕ)) (last : Fed) (code : Code) (bytes : List ℕ) (s : SessionState) (before now : Option (List ℕ))
    → FeedsAll last code bytes pieces s before now → Feeds last code bytes (joined pieces) s before now
feeds_all [] last code bytes s before now h =
    let P : Fed → Type 0 = λ answer. Feeds answer code bytes [] s before now in
    let Q : List ℕ → Type 0 = λ l. StandsFor code l s in
    let R : List ℕ → Type 0 = λ l. Appends before now l in
    let S : Option (List ℕ) → Type 0 = λ told. Appends before told [] in
    subst P (sym h.0) (subst Q (sym (append-nil bytes)) h.1, subst R (sym (nothing_added (machine_of code) bytes)) (subst S (sym h.2) (appends_nothing before)))
feeds_all (piece ∷ pieces) last code bytes s before now h =
    feeds_first h.0 last code bytes piece pieces s h.1 before h.2 now (feeds_all pieces last code (bytes ++ piece) s h.2 now) h.3 h.4

-- how a call of `feed` answers by where the run stands, unless a write fails
answer_of : Result (Standing MachineState) Ending → Fed
answer_of (Ok s) = fed.Going
answer_of (Err ending.Violated) = fed.Violated
answer_of (Err (ending.BadLine n)) = fed.BadLine n

answers_so : (answer : Fed) (code : Code) (bytes piece : List ℕ) (s : SessionState) (before now : Option (List ℕ)) → (answer ≡ fed.Failed → ⊥)
    → Feeds answer code bytes piece s before now → (answer ≡ answer_of (so_far (machine_of code) (bytes ++ piece)).stands) × Appends before now (added (machine_of code) bytes piece)
unfolding answer_of
answers_so fed.Going code bytes piece s before now never h = (sym (ap answer_of h.0.standing), h.1)
answers_so fed.Violated code bytes piece s before now never h = (sym (ap answer_of h.0), h.1)
answers_so (fed.BadLine n) code bytes piece s before now never h = (sym (ap answer_of h.0), h.1)
answers_so fed.Failed code bytes piece s before now never h = absurd (never refl)
answers_so (fed.Ended why) code bytes piece s before now never h = absurd h

same_bytes : (old bytes : List ℕ) (x y : Option (List ℕ)) → Appends (Some old) x bytes → Appends (Some old) y bytes → x ≡ y
same_bytes old bytes None y h k = absurd h
same_bytes old bytes (Some xs) None h k = absurd k
same_bytes old bytes (Some xs) (Some ys) h k = ap (λ l. Some l) (h ∙ sym k)

-- pieces with one join are answered alike
pub feeds_alike : (code : Code) (bytes : List ℕ) (pieces others : List (List ℕ)) (a b : Fed) (s t : SessionState) (old : List ℕ) (x y : Option (List ℕ)) → joined pieces ≡ joined others
    → (a ≡ fed.Failed → ⊥) → (b ≡ fed.Failed → ⊥) → FeedsAll a code bytes pieces s (Some old) x → FeedsAll b code bytes others t (Some old) y → (a ≡ b) × (x ≡ y)
feeds_alike code bytes pieces others a b s t old x y same never nor h k =
    let P : List ℕ → Type 0 = λ l. Feeds a code bytes l s (Some old) x in
    let p = answers_so a code bytes (joined others) s (Some old) x never (subst P same (feeds_all pieces a code bytes s (Some old) x h)) in
    let q = answers_so b code bytes (joined others) t (Some old) y nor (feeds_all others b code bytes t (Some old) y k) in
    (p.0 ∙ sym q.0, same_bytes old (added (machine_of code) bytes (joined others)) x y p.1 q.1)

-- how `finish` answers by where the run stands behind one LF more, unless a write fails
end_answer : Result (Standing MachineState) Ending → End
end_answer (Ok s) = end.Done s.rounds
end_answer (Err ending.Violated) = end.Violated
end_answer (Err (ending.BadLine n)) = end.BadLine n

ends_so : (answer : End) (code : Code) (bytes : List ℕ) (before now : Option (List ℕ)) → (answer ≡ end.Failed → ⊥)
    → Finishes answer code bytes before now → (answer ≡ end_answer (so_far (machine_of code) (bytes ++ 10 ∷ [])).stands) × Appends before now (closing code bytes)
unfolding end_answer
ends_so (end.Done rounds) code bytes before now never h = (sym (ap end_answer h.0.1 ∙ ap (λ n. end.Done n) h.0.2), h.1)
ends_so end.Violated code bytes before now never h = (sym (ap end_answer h.0), h.1)
ends_so (end.BadLine n) code bytes before now never h = (sym (ap end_answer h.0), h.1)
ends_so end.Failed code bytes before now never h = absurd (never refl)
ends_so (end.Ended why) code bytes before now never h = absurd h

-- the same bytes are finished alike
pub finishes_alike : (a b : End) (code : Code) (bytes old : List ℕ) (x y : Option (List ℕ)) → (a ≡ end.Failed → ⊥) → (b ≡ end.Failed → ⊥)
    → Finishes a code bytes (Some old) x → Finishes b code bytes (Some old) y → (a ≡ b) × (x ≡ y)
finishes_alike a b code bytes old x y never nor h k =
    let p = ends_so a code bytes (Some old) x never h in
    let q = ends_so b code bytes (Some old) y nor k in
    (p.0 ∙ sym q.0, same_bytes old (closing code bytes) x y p.1 q.1)
