-- A run over a source: one read, and what was printed by all of them.
use Rattle.std.proofs.Common.{◌≡◌, ℕ, ◌-◌, ◌<◌, ◌≤◌, List, [], ◌∷◌, ◌++◌, drop, length, take, Option, None, Some, Result, Ok, Err, refl, ap, sym, subst, ◌∙◌, append_assoc, append-nil, arith, length-append}
use Rattle.std.specs.Io.KnownBytes.{Appends, Consumes, IsAtEnd, Keeps}
use Rattle.std.proofs.Math.Seq.{drop-append_seam}
use Rattle.std.proofs.lemmas.List.{take-append-drop, take-append-le}
use Rattle.vp_isa.specs.declared.code.Code.{Code}
use Rattle.vp_isa.specs.Answering.{machine_of}
use Rattle.vp_isa.specs.Machine.{MachineState}
use Rattle.vp_outside.specs.Content.{AppendsPart, Tells}
use Rattle.vp_outside.proofs.Known.{appends_more}
use Rattle.vp_stream.specs.declared.verdict.Ending.{Ending}
use Rattle.vp_stream.specs.declared.verdict.Ending.TheVariants as ending
use Rattle.vp_stream.specs.declared.verdict.Verdict.TheVariants as verdict
use Rattle.vp_stream.specs.Pieces.{added}
use Rattle.vp_stream.specs.Run.{Run, Standing, ended, input_limit, run, so_far, text_of, verdict_of}
use Rattle.vp_stream.proofs.Growth.{so_far_grows}
use Rattle.vp_stream.proofs.Pieces.{added_is}
use Rattle.vp_stream.proofs.RunLaws.{run_begins, run_ended, run_short, run_too_much}
use Rattle.vp_runner.specs.declared.ends.End.{End}
use Rattle.vp_runner.specs.declared.ends.End.TheVariants as end
use Rattle.vp_runner.specs.declared.ends.Fed.{Fed}
use Rattle.vp_runner.specs.declared.ends.Fed.TheVariants as fed
use Rattle.vp_runner.specs.declared.ends.RunEnd.{RunEnd}
use Rattle.vp_runner.specs.declared.ends.RunEnd.TheVariants.{Done, Violated, BadLine, ReadFault, WriteFault, TooMuch}
use Rattle.vp_runner.specs.declared.ends.Cause.{Cause}
use Rattle.vp_runner.specs.Ends.{AppendsFront, AreCauses, Ends, EndsOf, PrintsInTime, PrintsTaken}
use Rattle.vp_runner.specs.Sessions.{Feeds, Finishes, IsEndedBy, IsFedBy, SessionState, StandsFor, closing}
use Rattle.vp_runner.specs.Taking.{HasTaken, Takes, end_fed, end_finished, rest_run}
use Rattle.vp_runner.proofs.Walking.{appends_nothing, part_after, part_of_more}

-- a piece that ended the run
rest_ended : (code : Code) (bytes piece rest : List ℕ) (e : Ending) → length (bytes ++ piece) ≤ input_limit → (so_far (machine_of code) (bytes ++ piece)).stands ≡ Err e
    → rest_run code bytes (piece ++ rest) ≡ record { text = added (machine_of code) bytes piece; verdict = verdict_of e }
rest_ended code bytes piece rest e le h =
    let a = machine_of code in
    let whole : run a (bytes ++ (piece ++ rest)) ≡ record { text = text_of (so_far a (bytes ++ piece)); verdict = verdict_of e } =
    ap (run a) (sym (append_assoc bytes piece rest)) ∙ run_ended a (bytes ++ piece) rest e le h in
    ap (λ (r : Run). record { text = drop (length (text_of (so_far a bytes))) r.text; verdict = r.verdict }) whole

-- a piece that may have more behind it
rest_begins : (code : Code) (bytes piece rest : List ℕ) → length (bytes ++ piece) ≤ input_limit → (more : List ℕ) × ((rest_run code bytes (piece ++ rest)).text ≡ added (machine_of code) bytes piece ++ more)
rest_begins code bytes piece rest le =
    let a = machine_of code in
    let front = text_of (so_far a bytes) in
    let begins = run_begins a (bytes ++ piece) rest le in
    let whole : (run a (bytes ++ (piece ++ rest))).text ≡ front ++ (added a bytes piece ++ begins.0) =
    ap (λ l. (run a l).text) (sym (append_assoc bytes piece rest)) ∙ begins.1 ∙ ap (λ l. l ++ begins.0) (added_is a bytes piece) ∙ append_assoc front (added a bytes piece) begins.0 in
    (begins.0, ap (λ l. drop (length front) l) whole ∙ drop-append_seam front (added a bytes piece ++ begins.0))

-- what is left behind a piece that was taken: it is told, or nothing
told_rest : (piece : List ℕ) (left left_now : Option (List ℕ)) → Consumes left left_now piece → (rest : List ℕ) × Tells left (piece ++ rest)
told_rest piece None left_now c = ([], tt)
told_rest piece (Some left) None c = absurd c
told_rest piece (Some left) (Some rest) c = (rest, c)

ended_by : (end : RunEnd) (code : Code) (bytes piece : List ℕ) (left_before left_now before now : Option (List ℕ)) (r : Run) → Consumes left_before left_now piece
    → ((rest : List ℕ) → rest_run code bytes (piece ++ rest) ≡ r) → Ends end r before now → (rest : List ℕ) × Tells left_before rest × Ends end (rest_run code bytes rest) before now
ended_by end code bytes piece left_before left_now before now r c e h =
    let told = told_rest piece left_before left_now c in
    let P : Run → Type 0 = λ r. Ends end r before now in
    (piece ++ told.0, told.1, subst P (sym (e told.0)) h)

failed_by : (code : Code) (bytes piece text : List ℕ) (left_before left_now : Option (List ℕ)) → Consumes left_before left_now piece
    → ((rest : List ℕ) → (more : List ℕ) × ((rest_run code bytes (piece ++ rest)).text ≡ text ++ more))
    → (rest : List ℕ) × Tells left_before rest × (more : List ℕ) × ((rest_run code bytes rest).text ≡ text ++ more)
failed_by code bytes piece text left_before left_now c e =
    let told = told_rest piece left_before left_now c in
    let more = e told.0 in
    (piece ++ told.0, told.1, more.0, more.1)

-- one piece was fed
pub steps_fed : (answer : Fed) (code : Code) (bytes piece : List ℕ) (s : SessionState) (left_before left_now before now : Option (List ℕ)) → length (bytes ++ piece) ≤ input_limit → 0 < length piece → length piece ≤ 4096
    → Consumes left_before left_now piece → Feeds answer code bytes piece s before now → Takes (end_fed answer) code bytes s left_before left_now before now
steps_fed fed.Going code bytes piece s left_before left_now before now le some few c h = (piece, some, le, h.0, c, h.1)
steps_fed fed.Violated code bytes piece s left_before left_now before now le some few c h =
    ended_by Violated code bytes piece left_before left_now before now (record { text = added (machine_of code) bytes piece; verdict = verdict.Violated }) c (λ rest. rest_ended code bytes piece rest ending.Violated le h.0) (refl, h.1)
steps_fed (fed.BadLine n) code bytes piece s left_before left_now before now le some few c h =
    ended_by BadLine code bytes piece left_before left_now before now (record { text = added (machine_of code) bytes piece; verdict = verdict.BadLine }) c (λ rest. rest_ended code bytes piece rest (ending.BadLine n) le h.0) (refl, h.1)
steps_fed fed.Failed code bytes piece s left_before left_now before now le some few c h =
    let part = failed_by code bytes piece (added (machine_of code) bytes piece) left_before left_now c (λ rest. rest_begins code bytes piece rest le) in
    (piece, added (machine_of code) bytes piece, few, c, h, part.0, part.1, part.2, part.3)
steps_fed (fed.Ended why) code bytes piece s left_before left_now before now le some few c h = absurd h

-- nothing is left
at_end : (left_before left_now : Option (List ℕ)) → Consumes left_before left_now [] → IsAtEnd left_now → Tells left_before []
at_end None left_now c e = tt
at_end (Some left) None c e = absurd c
at_end (Some left) (Some rest) c e = c ∙ e

finished_by : (end : RunEnd) (code : Code) (bytes : List ℕ) (left before now : Option (List ℕ)) (r : Run) → Tells left [] → rest_run code bytes [] ≡ r
    → Ends end r before now → (rest : List ℕ) × Tells left rest × Ends end (rest_run code bytes rest) before now
finished_by end code bytes left before now r l e h = let P : Run → Type 0 = λ r. Ends end r before now in ([], l, subst P (sym e) h)

closing_run : (code : Code) (bytes : List ℕ) → rest_run code bytes [] ≡ record { text = closing code bytes; verdict = (run (machine_of code) bytes).verdict }
closing_run code bytes = ap (λ l. record { text = drop (length (text_of (so_far (machine_of code) bytes))) (run (machine_of code) l).text; verdict = (run (machine_of code) l).verdict }) (append-nil bytes)

verdict_at : (code : Code) (bytes : List ℕ) (r : Result (Standing MachineState) Ending) → length bytes < input_limit → (so_far (machine_of code) (bytes ++ 10 ∷ [])).stands ≡ r
    → (run (machine_of code) bytes).verdict ≡ (ended [] r).verdict
verdict_at code bytes r lt h = ap (λ (q : Run). q.verdict) (run_short (machine_of code) bytes lt) ∙ ap (λ q. (ended (text_of (so_far (machine_of code) (bytes ++ 10 ∷ []))) q).verdict) h ∙ same r
  where
    same : (r : Result (Standing MachineState) Ending) → (ended (text_of (so_far (machine_of code) (bytes ++ 10 ∷ []))) r).verdict ≡ (ended [] r).verdict
    same (Err e) = refl
    same (Ok s) = refl

failed_end : (code : Code) (bytes : List ℕ) (left : Option (List ℕ)) → Tells left [] → (rest : List ℕ) × Tells left rest × (more : List ℕ) × ((rest_run code bytes rest).text ≡ closing code bytes ++ more)
failed_end code bytes left l = ([], l, [], ap (λ (r : Run). r.text) (closing_run code bytes) ∙ sym (append-nil (closing code bytes)))

-- the input ended
pub steps_finished : (answer : End) (code : Code) (bytes : List ℕ) (s : SessionState) (left_before left_now before now : Option (List ℕ)) → length bytes < input_limit
    → Consumes left_before left_now [] → IsAtEnd left_now → Finishes answer code bytes before now → Takes (Some (end_finished answer)) code bytes s left_before left_now before now
steps_finished (end.Done rounds) code bytes s left_before left_now before now lt c e h =
    let end = finished_by Done code bytes left_before before now (record { text = closing code bytes; verdict = (run (machine_of code) bytes).verdict }) (at_end left_before left_now c e) (closing_run code bytes) (verdict_at code bytes (Ok h.0.0) lt h.0.1, h.1) in
    (e, end.0, end.1, end.2)
steps_finished end.Violated code bytes s left_before left_now before now lt c e h =
    finished_by Violated code bytes left_before before now (record { text = closing code bytes; verdict = (run (machine_of code) bytes).verdict }) (at_end left_before left_now c e) (closing_run code bytes) (verdict_at code bytes (Err ending.Violated) lt h.0, h.1)
steps_finished (end.BadLine n) code bytes s left_before left_now before now lt c e h =
    finished_by BadLine code bytes left_before before now (record { text = closing code bytes; verdict = (run (machine_of code) bytes).verdict }) (at_end left_before left_now c e) (closing_run code bytes) (verdict_at code bytes (Err (ending.BadLine n)) lt h.0, h.1)
steps_finished end.Failed code bytes s left_before left_now before now lt c e h =
    let part = failed_end code bytes left_before (at_end left_before left_now c e) in
    ([], closing code bytes, omega arith, c, h, part.0, part.1, part.2, part.3)
steps_finished (end.Ended why) code bytes s left_before left_now before now lt c e h = absurd h

-- the counts behind a piece, of a session that isn't ended
pub causes_fed : (answer : Fed) (reads reads_now writes writes_now : ℕ) → ((why : Cause) → answer ≡ fed.Ended why → ⊥) → reads_now ≡ reads → IsFedBy answer writes writes_now
    → AreCauses (end_fed answer) reads reads_now writes writes_now
causes_fed fed.Going reads reads_now writes writes_now never r w = (r, w)
causes_fed fed.Violated reads reads_now writes writes_now never r w = (r, w)
causes_fed (fed.BadLine n) reads reads_now writes writes_now never r w = (r, w)
causes_fed fed.Failed reads reads_now writes writes_now never r w = (r, w)
causes_fed (fed.Ended why) reads reads_now writes writes_now never r w = absurd (never why refl)

pub causes_finished : (answer : End) (reads reads_now writes writes_now : ℕ) → ((why : Cause) → answer ≡ end.Ended why → ⊥) → reads_now ≡ reads → IsEndedBy answer writes writes_now
    → AreCauses (Some (end_finished answer)) reads reads_now writes writes_now
causes_finished (end.Done rounds) reads reads_now writes writes_now never r w = (r, w)
causes_finished end.Violated reads reads_now writes writes_now never r w = (r, w)
causes_finished (end.BadLine n) reads reads_now writes writes_now never r w = (r, w)
causes_finished end.Failed reads reads_now writes writes_now never r w = (r, w)
causes_finished (end.Ended why) reads reads_now writes writes_now never r w = absurd (never why refl)

-- what all reads gave

consumes_more : (x y z : Option (List ℕ)) (bytes piece : List ℕ) → Consumes x y bytes → Consumes y z piece → Consumes x z (bytes ++ piece)
consumes_more None y z bytes piece h k = tt
consumes_more (Some xs) None z bytes piece h k = absurd h
consumes_more (Some xs) (Some ys) None bytes piece h k = absurd k
consumes_more (Some xs) (Some ys) (Some zs) bytes piece h k = h ∙ ap (λ l. bytes ++ l) k ∙ sym (append_assoc bytes piece zs)

-- nothing was taken yet
pub taken_none : (code : Code) (s : SessionState) (left now : Option (List ℕ)) → StandsFor code [] s → HasTaken code s left left now now
taken_none code s left now is = record { bytes = []; stands = is; consumed = consumes_none left; printed = appends_nothing now }
  where
    consumes_none : (left : Option (List ℕ)) → Consumes left left []
    consumes_none None = tt
    consumes_none (Some xs) = refl

-- one read more
pub taken_more : (code : Code) (s t : SessionState) (left_before left_mid left_now before mid now : Option (List ℕ)) (h : HasTaken code s left_before left_mid before mid)
    → Takes None code h.bytes t left_mid left_now mid now → HasTaken code t left_before left_now before now × (s.fed < t.fed) × (t.fed ≤ input_limit)
taken_more code s t left_before left_mid left_now before mid now h k =
    let a = machine_of code in
    let P : List ℕ → Type 0 = λ l. Appends before now l in (
      record {
        bytes = h.bytes ++ k.0;
        stands = k.3;
        consumed = consumes_more left_before left_mid left_now h.bytes k.0 h.consumed k.4;
        printed = subst P (sym (added_is a h.bytes k.0)) (appends_more before mid now (text_of (so_far a h.bytes)) (added a h.bytes k.0) h.printed k.5);
      },
      omega (arith, h.stands.fed, k.3.fed, k.1, length-append h.bytes k.0),
      omega (arith, k.3.fed, k.2),
    )

-- some bytes that the source may have left
some_rest : (left : Option (List ℕ)) → (rest : List ℕ) × Tells left rest
some_rest None = ([], tt)
some_rest (Some rest) = (rest, refl)

step_ends : (end : RunEnd) (code : Code) (bytes : List ℕ) (s : SessionState) (left_before left_now before now : Option (List ℕ)) → Takes (Some end) code bytes s left_before left_now before now
    → (rest : List ℕ) × Tells left_before rest × Ends end (rest_run code bytes rest) before now
step_ends Done code bytes s left_before left_now before now h = (h.1, h.2, h.3)
step_ends Violated code bytes s left_before left_now before now h = h
step_ends BadLine code bytes s left_before left_now before now h = h
step_ends TooMuch code bytes s left_before left_now before now h = absurd h
step_ends WriteFault code bytes s left_before left_now before now h =
    let P : List ℕ → Type 0 = λ l. AppendsPart before now l in
    (h.5, h.6, subst P (sym h.8) (part_of_more before now h.1 h.7 h.4))
step_ends ReadFault code bytes s left_before left_now before now h = let some = some_rest left_before in (some.0, some.1, tt)

-- a text behind another
ends_behind : (end : RunEnd) (r : Run) (front : List ℕ) (before mid now : Option (List ℕ)) → Appends before mid front → Ends end r mid now → Ends end (record { text = front ++ r.text; verdict = r.verdict }) before now
ends_behind Done r front before mid now h k = (k.0, appends_more before mid now front r.text h k.1)
ends_behind Violated r front before mid now h k = (k.0, appends_more before mid now front r.text h k.1)
ends_behind BadLine r front before mid now h k = (k.0, appends_more before mid now front r.text h k.1)
ends_behind TooMuch r front before mid now h k = (k.0, appends_more before mid now front r.text h k.1)
ends_behind WriteFault r front before mid now h k = part_after before mid now front r.text h k
ends_behind ReadFault r front before mid now h k = tt

rest_behind : (code : Code) (bytes rest : List ℕ) → length bytes ≤ input_limit
    → record { text = text_of (so_far (machine_of code) bytes) ++ (rest_run code bytes rest).text; verdict = (rest_run code bytes rest).verdict } ≡ run (machine_of code) (bytes ++ rest)
rest_behind code bytes rest le =
    let a = machine_of code in
    let front = text_of (so_far a bytes) in
    let r = run a (bytes ++ rest) in
    let begins = run_begins a bytes rest le in
    ap (λ (l : List ℕ). record { text = l; verdict = r.verdict }) (ap (λ l. front ++ drop (length front) l) begins.1 ∙ ap (λ l. front ++ l) (drop-append_seam front begins.0) ∙ sym begins.1)

-- what was taken and what was left then are what was left at first
told_more : (left_before left_mid : Option (List ℕ)) (bytes rest : List ℕ) → Consumes left_before left_mid bytes → Tells left_mid rest → Tells left_before (bytes ++ rest)
told_more None left_mid bytes rest c t = tt
told_more (Some left) None bytes rest c t = absurd c
told_more (Some left) (Some mid) bytes rest c t = c ∙ ap (λ l. bytes ++ l) t

-- the run ended at a read
pub run_ends : (end : RunEnd) (code : Code) (s t : SessionState) (left_before left_mid left_now before mid now : Option (List ℕ)) (h : HasTaken code s left_before left_mid before mid) → length h.bytes ≤ input_limit
    → Takes (Some end) code h.bytes t left_mid left_now mid now → EndsOf (machine_of code) end left_before before now
run_ends end code s t left_before left_mid left_now before mid now h le k =
    let step = step_ends end code h.bytes t left_mid left_now mid now k in
    let P : Run → Type 0 = λ r. Ends end r before now in (
      h.bytes ++ step.0,
      told_more left_before left_mid h.bytes step.0 h.consumed step.1,
      subst P (rest_behind code h.bytes step.0 le) (ends_behind end (rest_run code h.bytes step.0) (text_of (so_far (machine_of code) h.bytes)) before mid now h.printed step.2),
    )

-- as many bytes were taken as are at most
pub run_cut : (code : Code) (s : SessionState) (left_before left_now before now : Option (List ℕ)) → HasTaken code s left_before left_now before now → s.fed ≡ input_limit
    → EndsOf (machine_of code) TooMuch left_before before now
run_cut code s left_before left_now before now h full =
    let some = some_rest left_now in
    let P : Run → Type 0 = λ r. Ends TooMuch r before now in
    let is = run_too_much (machine_of code) h.bytes some.0 s.standing (sym h.stands.fed ∙ full) h.stands.standing in
    (h.bytes ++ some.0, told_more left_before left_now h.bytes some.0 h.consumed some.1, subst P (sym is) (refl, h.printed))

-- what a read fault leaves
consumes_kept : (x y z : Option (List ℕ)) (bytes : List ℕ) → Consumes x y bytes → Keeps y z → Consumes x z bytes
consumes_kept None y z bytes h k = tt
consumes_kept (Some xs) None z bytes h k = absurd h
consumes_kept (Some xs) (Some ys) None bytes h k = absurd k
consumes_kept (Some xs) (Some ys) (Some zs) bytes h k = h ∙ ap (λ l. bytes ++ l) (sym k)

appends_kept : (x y z : Option (List ℕ)) (text : List ℕ) → Appends x y text → Keeps y z → Appends x z text
appends_kept None y z text h k = tt
appends_kept (Some xs) None z text h k = absurd h
appends_kept (Some xs) (Some ys) None text h k = absurd k
appends_kept (Some xs) (Some ys) (Some zs) text h k = k ∙ h

pub run_unread : (code : Code) (s t : SessionState) (left_before left_mid left_now before mid now : Option (List ℕ)) (h : HasTaken code s left_before left_mid before mid)
    → Takes (Some ReadFault) code h.bytes t left_mid left_now mid now → PrintsTaken (machine_of code) left_before left_now before now
run_unread code s t left_before left_mid left_now before mid now h k =
    (h.bytes, s.standing, consumes_kept left_before left_mid left_now h.bytes h.consumed k.0, h.stands.standing, appends_kept before mid now _ h.printed k.1)

-- what a write fault leaves
front_more : (before mid now : Option (List ℕ)) (front more text : List ℕ) → Appends before mid (front ++ more) → AppendsPart mid now text → AppendsFront before now front
front_more None mid now front more text h k = tt
front_more (Some xs) None now front more text h k = absurd h
front_more (Some xs) (Some ys) None front more text h k = absurd k
front_more (Some xs) (Some ys) (Some zs) front more text h k =
    (more ++ take k.0 text, k.2 ∙ ap (λ l. l ++ take k.0 text) h ∙ append_assoc xs (front ++ more) (take k.0 text) ∙ ap (λ l. xs ++ l) (append_assoc front more (take k.0 text)))

pub run_unwritten : (code : Code) (s t : SessionState) (left_before left_mid left_now before mid now : Option (List ℕ)) (h : HasTaken code s left_before left_mid before mid)
    → Takes (Some WriteFault) code h.bytes t left_mid left_now mid now → PrintsInTime (machine_of code) left_before left_now before now
run_unwritten code s t left_before left_mid left_now before mid now h k =
    let a = machine_of code in
    let taken = h.bytes ++ k.0 in
    let n = length taken - 4096 in
    let le : n ≤ length h.bytes = omega (arith, length-append h.bytes k.0, k.2) in
    let front : take n taken ≡ take n h.bytes = take-append-le n h.bytes k.0 le in
    let grown = (so_far_grows a (take n h.bytes) (drop n h.bytes)).more in
    let text : text_of (so_far a h.bytes) ≡ text_of (so_far a (take n h.bytes)) ++ grown.0 = ap (λ l. text_of (so_far a l)) (sym (take-append-drop n h.bytes)) ∙ grown.1 in
    let P : List ℕ → Type 0 = λ l. AppendsFront before now (text_of (so_far a l)) in
    let Q : List ℕ → Type 0 = λ l. Appends before mid l in (
      taken,
      consumes_more left_before left_mid left_now h.bytes k.0 h.consumed k.3,
      subst P (sym front) (front_more before mid now (text_of (so_far a (take n h.bytes))) grown.0 k.1 (subst Q text h.printed) k.4),
    )

pub run_done : (code : Code) (s t : SessionState) (left_mid left_now mid now : Option (List ℕ)) (bytes : List ℕ) → Takes (Some Done) code bytes t left_mid left_now mid now → IsAtEnd left_now
run_done code s t left_mid left_now mid now bytes k = k.0

-- a read ends no run for its length
pub step_short : (end : RunEnd) (code : Code) (bytes : List ℕ) (s : SessionState) (left_before left_now before now : Option (List ℕ)) → end ≡ TooMuch → Takes (Some end) code bytes s left_before left_now before now → ⊥
step_short TooMuch code bytes s left_before left_now before now e h = h
step_short Done code bytes s left_before left_now before now e h = absurd cc
step_short Violated code bytes s left_before left_now before now e h = absurd cc
step_short BadLine code bytes s left_before left_now before now e h = absurd cc
step_short WriteFault code bytes s left_before left_now before now e h = absurd cc
step_short ReadFault code bytes s left_before left_now before now e h = absurd cc
