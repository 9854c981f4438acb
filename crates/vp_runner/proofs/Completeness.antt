-- Which runs are done.
use Rattle.std.proofs.Common.{◌≡◌, ℕ, ◌<◌, nat_lt, Bool, true, false, List, [], ◌∷◌, ◌++◌, drop, length, take, Option, Some, Result, Ok, Err, refl, ap, sym, ◌∙◌, arith}
use Rattle.std.specs.Prelude.{IsOk}
use Rattle.std.proofs.lemmas.Bool.{ltb-false, ltb-true}
use Rattle.std.proofs.lemmas.List.{length-take-le, take-append-drop}
use Rattle.vp_words.specs.Answerer.{Answerer}
use Rattle.vp_outside.specs.Causes.{Rose}
use Rattle.vp_outside.specs.Content.{Tells}
use Rattle.vp_stream.specs.declared.verdict.Ending.{Ending}
use Rattle.vp_stream.specs.declared.verdict.Ending.TheVariants as ending
use Rattle.vp_stream.specs.declared.verdict.Verdict.TheVariants as verdict
use Rattle.vp_stream.specs.Run.{Run, Standing, Walked, ended, input_limit, run, so_far, text_of, verdict_of}
use Rattle.vp_stream.proofs.RunLaws.{run_ended, run_short, run_too_much}
use Rattle.vp_runner.specs.declared.ends.RunEnd.{RunEnd}
use Rattle.vp_runner.specs.declared.ends.RunEnd.TheVariants.{Done, Violated, BadLine, ReadFault, WriteFault, TooMuch}
use Rattle.vp_runner.specs.Ends.{AreCauses, EndsOf}

-- where no count rose and the run of what was left is done, no other answer is given
pub completes : {State : Type 0} (a : Answerer State) (end : RunEnd) (left before now : Option (List ℕ)) (reads reads_now writes writes_now : ℕ) → EndsOf a end left before now → AreCauses (Some end) reads reads_now writes writes_now
    → ¬ Rose reads reads_now → ¬ Rose writes writes_now → ((bytes : List ℕ) → Tells left bytes → (run a bytes).verdict ≡ verdict.Done) → end ≡ Done
completes a Done left before now reads reads_now writes writes_now h c r w d = refl
completes a Violated left before now reads reads_now writes writes_now h c r w d = let no : verdict.Violated ≡ verdict.Done = sym h.2.0 ∙ d h.0 h.1 in absurd cc
completes a BadLine left before now reads reads_now writes writes_now h c r w d = let no : verdict.BadLine ≡ verdict.Done = sym h.2.0 ∙ d h.0 h.1 in absurd cc
completes a TooMuch left before now reads reads_now writes writes_now h c r w d = let no : verdict.TooMuch ≡ verdict.Done = sym h.2.0 ∙ d h.0 h.1 in absurd cc
completes a ReadFault left before now reads reads_now writes writes_now h c r w d = absurd (r c.0)
completes a WriteFault left before now reads reads_now writes writes_now h c r w d = absurd (w c.1)

ended_ok : {State : Type 0} (text : List ℕ) (r : Result (Standing State) Ending) → (ended text r).verdict ≡ verdict.Done → IsOk r
ended_ok text (Ok s) h = refl
ended_ok text (Err ending.Violated) h = absurd cc
ended_ok text (Err (ending.BadLine n)) h = absurd cc

ok_ended : {State : Type 0} (text : List ℕ) (r : Result (Standing State) Ending) → IsOk r → (ended text r).verdict ≡ verdict.Done
ok_ended text (Ok s) h = refl
ok_ended text (Err e) h = absurd cc

not_done : (e : Ending) → verdict_of e ≡ verdict.Done → ⊥
not_done ending.Violated h = absurd cc
not_done (ending.BadLine n) h = absurd cc

-- as many bytes as are taken at most are no run that is done
long_not_done : {State : Type 0} (a : Answerer State) (front rest : List ℕ) → length front ≡ input_limit → (run a (front ++ rest)).verdict ≡ verdict.Done → ⊥
long_not_done {State = State} a front rest full h = by (so_far a front).stands refl
  where
    by : (r : Result (Standing State) Ending) → (so_far a front).stands ≡ r → ⊥
    by (Ok s) e =
        let no : verdict.TooMuch ≡ verdict.Done = sym (ap (λ (q : Run). q.verdict) (run_too_much a front rest s full e)) ∙ h in
        absurd cc
    by (Err e) k = not_done e (sym (ap (λ (q : Run). q.verdict) (run_ended a front rest e (omega (arith, full)) k)) ∙ h)

pub done_is_ok : {State : Type 0} (a : Answerer State) (bytes : List ℕ) → (run a bytes).verdict ≡ verdict.Done → (length bytes < input_limit) × IsOk (so_far a (bytes ++ 10 ∷ [])).stands
done_is_ok {State = State} a bytes h = by (nat_lt (length bytes) input_limit) refl
  where
    last : Walked State
    last = so_far a (bytes ++ 10 ∷ [])

    by : (t : Bool) → nat_lt (length bytes) input_limit ≡ t → (length bytes < input_limit) × IsOk last.stands
    by true e =
        let lt = ltb-true (length bytes) input_limit e in
        (lt, ended_ok (text_of last) last.stands (sym (ap (λ (q : Run). q.verdict) (run_short a bytes lt)) ∙ h))
    by false e =
        let whole : take input_limit bytes ++ drop input_limit bytes ≡ bytes = take-append-drop input_limit bytes in
        let full = length-take-le input_limit bytes (ltb-false (length bytes) input_limit e) in
        absurd (long_not_done a (take input_limit bytes) (drop input_limit bytes) full (ap (λ l. (run a l).verdict) whole ∙ h))

pub ok_is_done : {State : Type 0} (a : Answerer State) (bytes : List ℕ) → (length bytes < input_limit) × IsOk (so_far a (bytes ++ 10 ∷ [])).stands → (run a bytes).verdict ≡ verdict.Done
ok_is_done a bytes h =
    let last = so_far a (bytes ++ 10 ∷ []) in
    ap (λ (q : Run). q.verdict) (run_short a bytes h.0) ∙ ok_ended (text_of last) last.stands h.1
