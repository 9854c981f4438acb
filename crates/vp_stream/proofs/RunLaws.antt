-- The run of an input, by what its front gives.
use Rattle.std.proofs.Common.{◌≡◌, ℕ, ◌+◌, ◌-◌, ◌<◌, ◌≤◌, nat_lt, Bool, true, false, List, [], ◌∷◌, ◌++◌, length, take, Option, None, Some, Result, Ok, Err, refl, ap, sym, ◌∙◌, append_assoc, append-nil, arith, length-append}
use Rattle.std.specs.Prelude.{if◌then◌else◌}
use Rattle.std.proofs.lemmas.Bool.{lt-ltb, le-ltb}
use Rattle.std.proofs.Math.Seq.{take-append-add}
use Rattle.std.proofs.lemmas.List.{take-append-le, take_all}
use Rattle.vp_words.specs.Answerer.{Answerer}
use Rattle.vp_stream.specs.declared.verdict.Ending.{Ending}
use Rattle.vp_stream.specs.declared.verdict.Verdict.TheVariants.{TooMuch}
use Rattle.vp_stream.specs.Run.{Standing, Walked, Run, input_limit, end_line, ended, closed_by, cut, going_by, going_text, text_of, verdict_of, whole_run, so_far, run}
use Rattle.vp_stream.proofs.Growth.{Grows, so_far_grows}

closed_is : {State : Type 0} (w v : Walked State) (r : Result (Standing State) Ending) → w.stands ≡ r → Grows w v → closed_by (text_of w) r v ≡ ended (text_of v) v.stands
closed_is w v (Err e) h g = rw (g.ended e h, h) refl
closed_is w v (Ok s) h g = refl

-- an input that is not too long gives what its lines give with one LF more
pub whole_run_is : {State : Type 0} (a : Answerer State) (bytes : List ℕ) → whole_run a bytes ≡ ended (text_of (so_far a (bytes ++ 10 ∷ []))) (so_far a (bytes ++ 10 ∷ [])).stands
whole_run_is a bytes = closed_is (so_far a bytes) (so_far a (bytes ++ 10 ∷ [])) (so_far a bytes).stands refl (so_far_grows a bytes (10 ∷ []))

-- where lines have ended the run, nothing behind them counts
whole_run_ended : {State : Type 0} (a : Answerer State) (bytes : List ℕ) (e : Ending) → (so_far a bytes).stands ≡ Err e
    → whole_run a bytes ≡ record { text = text_of (so_far a bytes); verdict = verdict_of e }
whole_run_ended a bytes e h = ap (λ r. closed_by (text_of (so_far a bytes)) r (so_far a (bytes ++ 10 ∷ []))) h

-- so many bytes of what begins with a short front
front_of : (front rest : List ℕ) (n : ℕ) → length front ≤ n → (more : List ℕ) × (take n (front ++ rest) ≡ front ++ more)
front_of front rest n le =
    let left = n - length front in
    let e : n ≡ length front + left = omega arith in
    (take left rest, ap (λ k. take k (front ++ rest)) e ∙ take-append-add front rest left)

pub run_short : {State : Type 0} (a : Answerer State) (bytes : List ℕ) → length bytes < input_limit → run a bytes ≡ ended (text_of (so_far a (bytes ++ 10 ∷ []))) (so_far a (bytes ++ 10 ∷ [])).stands
unfolding run
run_short a bytes lt = ap (λ t. if t then whole_run a bytes else cut (going_text (so_far a (take input_limit bytes))) (whole_run a bytes)) (lt-ltb (length bytes) input_limit lt) ∙ whole_run_is a bytes

-- a front that ended the run
pub run_ended : {State : Type 0} (a : Answerer State) (front rest : List ℕ) (e : Ending) → length front ≤ input_limit → (so_far a front).stands ≡ Err e
    → run a (front ++ rest) ≡ record { text = text_of (so_far a front); verdict = verdict_of e }
unfolding run
run_ended a front rest e le h =
    let bytes = front ++ rest in
    let same : so_far a bytes ≡ so_far a front = (so_far_grows a front rest).ended e h in
    let whole : whole_run a bytes ≡ record { text = text_of (so_far a front); verdict = verdict_of e } =
    whole_run_ended a bytes e (ap (λ (w : Walked _). w.stands) same ∙ h) ∙ ap (λ (w : Walked _). record { text = text_of w; verdict = verdict_of e }) same in
    let cut_front = front_of front rest input_limit le in
    let cut_same : so_far a (take input_limit bytes) ≡ so_far a front = ap (so_far a) cut_front.1 ∙ (so_far_grows a front cut_front.0).ended e h in
    let none : going_text (so_far a (take input_limit bytes)) ≡ None = ap going_text cut_same ∙ ap (going_by (text_of (so_far a front))) h in
    let cut_whole : cut (going_text (so_far a (take input_limit bytes))) (whole_run a bytes) ≡ whole_run a bytes = ap (λ o. cut o (whole_run a bytes)) none in
    elim (nat_lt (length bytes) input_limit) as (λ t. (if t then whole_run a bytes else cut (going_text (so_far a (take input_limit bytes))) (whole_run a bytes)) ≡ record { text = text_of (so_far a front); verdict = verdict_of e }) [
      | true ↦ whole
      | false ↦ cut_whole ∙ whole
    ]

-- as many bytes as are taken at most, which have not ended the run
pub run_too_much : {State : Type 0} (a : Answerer State) (front rest : List ℕ) (s : Standing State) → length front ≡ input_limit → (so_far a front).stands ≡ Ok s
    → run a (front ++ rest) ≡ record { text = text_of (so_far a front); verdict = TooMuch }
unfolding run
run_too_much a front rest s len h =
    let bytes = front ++ rest in
    let long : input_limit ≤ length bytes = omega (arith, length-append front rest, len) in
    let taken : take input_limit bytes ≡ front = take-append-le input_limit front rest (omega (arith, len)) ∙ take_all input_limit front (omega (arith, len)) in
    ap (λ t. if t then whole_run a bytes else cut (going_text (so_far a (take input_limit bytes))) (whole_run a bytes)) (le-ltb (length bytes) input_limit long)
    ∙ ap (λ l. cut (going_text (so_far a l)) (whole_run a bytes)) taken
    ∙ ap (λ r. cut (going_by (text_of (so_far a front)) r) (whole_run a bytes)) h

-- text that begins with another
Begins : List ℕ → List ℕ → Type 0
Begins text front = (more : List ℕ) × (text ≡ front ++ more)

ended_begins : {State : Type 0} (text : List ℕ) (r : Result (Standing State) Ending) → Begins (ended text r).text text
unfolding Begins
ended_begins text (Err e) = ([], sym (append-nil text))
ended_begins text (Ok s) = (end_line s.rounds, refl)

begins_more : (a b c : List ℕ) → Begins a b → Begins b c → Begins a c
unfolding Begins
begins_more a b c h k = (k.0 ++ h.0, h.1 ∙ ap (λ l. l ++ h.0) k.1 ∙ append_assoc c k.0 h.0)

whole_begins : {State : Type 0} (a : Answerer State) (front rest : List ℕ) → Begins (whole_run a (front ++ rest)).text (text_of (so_far a front))
unfolding Begins
whole_begins a front rest =
    let last = so_far a ((front ++ rest) ++ 10 ∷ []) in
    let line : so_far a ((front ++ rest) ++ 10 ∷ []) ≡ so_far a (front ++ (rest ++ 10 ∷ [])) = ap (so_far a) (append_assoc front rest (10 ∷ [])) in
    let grown : Begins (text_of last) (text_of (so_far a front)) = let g = (so_far_grows a front (rest ++ 10 ∷ [])).more in (g.0, ap (λ (w : Walked _). text_of w) line ∙ g.1) in
    let first : Begins (whole_run a (front ++ rest)).text (text_of last) = rw (whole_run_is a (front ++ rest)) (ended_begins (text_of last) last.stands) in
    begins_more _ (text_of last) _ first grown

cut_begins : (going : Option (List ℕ)) (whole : Run) (front : List ℕ) → ((text : List ℕ) → going ≡ Some text → Begins text front) → Begins whole.text front → Begins (cut going whole).text front
unfolding Begins
cut_begins None whole front h k = k
cut_begins (Some text) whole front h k = h text refl

chosen_begins : (t : Bool) (going : Option (List ℕ)) (whole : Run) (front : List ℕ) → ((text : List ℕ) → going ≡ Some text → Begins text front) → Begins whole.text front → Begins (if t then whole else cut going whole).text front
unfolding Begins
chosen_begins true going whole front h k = k
chosen_begins false going whole front h k = cut_begins going whole front h k

going_is : {S E : Type 0} (text more : List ℕ) (r : Result S E) → going_by text r ≡ Some more → more ≡ text
going_is text more (Err e) h = absurd cc
going_is text more (Ok s) h = cc

begins_cut : {State : Type 0} (a : Answerer State) (front rest : List ℕ) (n : ℕ) (text : List ℕ) → length front ≤ n → going_text (so_far a (take n (front ++ rest))) ≡ Some text → Begins text (text_of (so_far a front))
unfolding Begins
begins_cut a front rest n text le h =
    let cut_front = front_of front rest n le in
    let grown = (so_far_grows a front cut_front.0).more in
    let w = so_far a (take n (front ++ rest)) in
    (grown.0, going_is (text_of w) text w.stands h ∙ ap (λ l. text_of (so_far a l)) cut_front.1 ∙ grown.1)

-- the text of a run begins with what any front of its input gives
pub run_begins : {State : Type 0} (a : Answerer State) (front rest : List ℕ) → length front ≤ input_limit → (more : List ℕ) × ((run a (front ++ rest)).text ≡ text_of (so_far a front) ++ more)
unfolding Begins run
run_begins a front rest le =
    chosen_begins (nat_lt (length (front ++ rest)) input_limit) (going_text (so_far a (take input_limit (front ++ rest)))) (whole_run a (front ++ rest)) (text_of (so_far a front))
    (λ text h. begins_cut a front rest input_limit text le h) (whole_begins a front rest)
