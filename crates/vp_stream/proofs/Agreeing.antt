-- Answerers that agree over lists of due records run alike over every input.
use Rattle.std.proofs.Common.{◌≡◌, ℕ, ◌+◌, Bool, true, false, nat_lt, ℤ, List, [], ◌∷◌, ◌++◌, length, take, Option, None, Some, Result, Ok, Err, refl, ap, sym, ◌∙◌, subst}
use Rattle.std.specs.Prelude.{IsSomeAnd, if◌then◌else◌}
use Rattle.vp_words.specs.declared.record.Counts.{Counts}
use Rattle.vp_words.specs.declared.record.Due.{Due}
use Rattle.vp_words.specs.declared.record.Kind.{Kind}
use Rattle.vp_words.specs.declared.record.Reply.{Reply}
use Rattle.vp_words.specs.Answerer.{Answerer}
use Rattle.vp_words.specs.Exchanges.{IsRecordOf, IsDueRecord, AreDue, state_after, Exchange, exchanged_onto, exchanges, Agree}
use Rattle.vp_words.specs.Record.{kind_due}
use Rattle.vp_stream.specs.declared.record.LineErr.{LineErr}
use Rattle.vp_stream.specs.declared.verdict.Ending.{Ending}
use Rattle.vp_stream.specs.declared.verdict.Ending.TheVariants as ending
use Rattle.vp_stream.specs.declared.verdict.Verdict.TheVariants.{Done}
use Rattle.vp_stream.specs.Lines.{is_skipped, without_return}
use Rattle.vp_stream.specs.Reading.{reading}
use Rattle.vp_stream.specs.Run.{Standing, Walked, Run, answered, bad_at, closed_by, cut, due_line, end_line, ended, ending_after, going_by, going_text, input_limit, last_text, limited, line_answer, line_limit, lines_of, read_line, reply_lines, rounds_of, run, short_line, skipped, so_far, start_of, text_of, then_on, unless_ended, verdict_of, waiting, walk, whole_run}
use Rattle.vp_stream.specs.Answers.{answers_of, run_bytes}
use Rattle.vp_stream.proofs.LineRecords.{read_is_record}

-- from these two states on the answerers agree
record Alike {A B : Type 0} (a : Answerer A) (b : Answerer B) (s : A) (t : B) : Type 0 where
  replies : (records : List (List ℤ)) → AreDue a s records → exchanges a s records ≡ exchanges b t records
  due : (records : List (List ℤ)) → AreDue a s records → a.due (state_after a s records) ≡ b.due (state_after b t records)

first_reply : Reply → List Exchange → Reply
first_reply reply [] = reply
first_reply reply (x ∷ more) = x.reply

rest_of : List Exchange → List Exchange
rest_of [] = []
rest_of (x ∷ more) = more

-- what is exchanged where something is due has the reply first
first_is : (o : Option Kind) (kind : Kind) (words : List ℤ) (reply : Reply) (more : List Exchange) → o ≡ Some kind → first_reply reply (exchanged_onto o words reply more) ≡ reply
unfolding first_reply
first_is o kind words reply more e = rw e refl

first_given : (o : Option Kind) (kind : Kind) (words : List ℤ) (other reply : Reply) (more : List Exchange) → o ≡ Some kind → first_reply other (exchanged_onto o words reply more) ≡ reply
unfolding first_reply
first_given o kind words other reply more e = rw e refl

rest_is : (o : Option Kind) (kind : Kind) (words : List ℤ) (reply : Reply) (more : List Exchange) → o ≡ Some kind → rest_of (exchanged_onto o words reply more) ≡ more
unfolding rest_of
rest_is o kind words reply more e = rw e refl

some_kind : (o : Option Kind) (P : Kind → Type 0) → IsSomeAnd o P → (kind : Kind) × (o ≡ Some kind)
some_kind None P h = absurd h
some_kind (Some kind) P h = (kind, refl)

-- where two runs stand
record StandAlike {A B : Type 0} (a : Answerer A) (b : Answerer B) (s : Standing A) (t : Standing B) : Type 0 where
  state : Alike a b s.state t.state
  lines : s.lines ≡ t.lines
  rounds : s.rounds ≡ t.rounds

EndAlike : {A B : Type 0} → Answerer A → Answerer B → Result (Standing A) Ending → Result (Standing B) Ending → Type 0
EndAlike a b (Err e) (Err f) = e ≡ f
EndAlike a b (Err e) (Ok t) = ⊥
EndAlike a b (Ok s) (Err f) = ⊥
EndAlike a b (Ok s) (Ok t) = StandAlike a b s t

record WalkAlike {A B : Type 0} (a : Answerer A) (b : Answerer B) (w : Walked A) (v : Walked B) : Type 0 where
  answers : w.answers ≡ v.answers
  stands : EndAlike a b w.stands v.stands

-- the same of any bytes gives the same run
pub limited_alike : (going other_going : List ℕ → Option (List ℕ)) (whole other_whole : List ℕ → Run) → ((bytes : List ℕ) → going bytes ≡ other_going bytes) → ((bytes : List ℕ) → whole bytes ≡ other_whole bytes)
    → (bytes : List ℕ) → limited going whole bytes ≡ limited other_going other_whole bytes
limited_alike going other_going whole other_whole h k bytes =
    let front = take input_limit bytes in
    elim (nat_lt (length bytes) input_limit) as (λ t. (if t then whole bytes else cut (going front) (whole bytes)) ≡ (if t then other_whole bytes else cut (other_going front) (other_whole bytes))) [
      | true ↦ k bytes
      | false ↦ ap (λ o. cut o (whole bytes)) (h front) ∙ ap (cut (other_going front)) (k bytes)
    ]

module _ {A B : Type 0} (a : Answerer A) (b : Answerer B) where
  due_now : (s : A) (t : B) → Alike a b s t → a.due s ≡ b.due t
  due_now s t h = h.due [] tt

  kind_now : (s : A) (t : B) (kind : Kind) → Alike a b s t → kind_due (a.due s) ≡ Some kind → kind_due (b.due t) ≡ Some kind
  kind_now s t kind h e = ap kind_due (sym (due_now s t h)) ∙ e

  replies_alike : (s : A) (t : B) (words : List ℤ) → Alike a b s t → IsDueRecord a s words → a.reply s words ≡ b.reply t words
  replies_alike s t words h d =
      let k = some_kind (kind_due (a.due s)) (λ kind. IsRecordOf a.counts kind words) d in
      let reply = a.reply s words in
      sym (first_is (kind_due (a.due s)) k.0 words reply [] k.1)
      ∙ ap (first_reply reply) (h.replies (words ∷ []) (d, tt))
      ∙ first_given (kind_due (b.due t)) k.0 words reply (b.reply t words) [] (kind_now s t k.0 h k.1)

  next_alike : (s : A) (t : B) (words : List ℤ) → Alike a b s t → IsDueRecord a s words → Alike a b (a.next s words) (b.next t words)
  next_alike s t words h d =
      let k = some_kind (kind_due (a.due s)) (λ kind. IsRecordOf a.counts kind words) d in
      record {
        replies = λ more due. sym (rest_is (kind_due (a.due s)) k.0 words (a.reply s words) (exchanges a (a.next s words) more) k.1)
            ∙ ap rest_of (h.replies (words ∷ more) (d, due))
            ∙ rest_is (kind_due (b.due t)) k.0 words (b.reply t words) (exchanges b (b.next t words) more) (kind_now s t k.0 h k.1);
        due = λ more due. h.due (words ∷ more) (d, due);
      }

  bad_alike : (s : Standing A) (t : Standing B) → StandAlike a b s t → WalkAlike a b (bad_at s) (bad_at t)
  unfolding EndAlike
  bad_alike s t h = record { answers = refl; stands = ap (λ n. ending.BadLine (n + 1)) h.lines }

  waiting_alike : (s : Standing A) (t : Standing B) → StandAlike a b s t → WalkAlike a b (waiting s) (waiting t)
  unfolding EndAlike
  waiting_alike s t h = record { answers = refl; stands = h }

  skipped_alike : (s : Standing A) (t : Standing B) → StandAlike a b s t → WalkAlike a b (skipped s) (skipped t)
  unfolding EndAlike
  skipped_alike s t h = record { answers = refl; stands = record { state = h.state; lines = ap (λ n. n + 1) h.lines; rounds = h.rounds } }

  unless_alike : (o : Option Ending) (s : Standing A) (t : Standing B) → StandAlike a b s t → EndAlike a b (unless_ended o s) (unless_ended o t)
  unfolding EndAlike
  unless_alike None s t h = h
  unless_alike (Some e) s t h = refl

  answered_alike : (s : Standing A) (t : Standing B) (kind : Kind) (words : List ℤ) → StandAlike a b s t → IsDueRecord a s.state words
      → WalkAlike a b (answered a s kind words) (answered b t kind words)
  answered_alike s t kind words h d =
      let e : a.reply s.state words ≡ b.reply t.state words = replies_alike s.state t.state words h.state d in
      let on : Standing A = record { state = a.next s.state words; lines = s.lines + 1; rounds = s.rounds + rounds_of kind } in
      let ot : Standing B = record { state = b.next t.state words; lines = t.lines + 1; rounds = t.rounds + rounds_of kind } in
      let next : StandAlike a b on ot = record {
        state = next_alike s.state t.state words h.state d;
        lines = ap (λ n. n + 1) h.lines;
        rounds = ap (λ n. n + rounds_of kind) h.rounds;
      } in
      let P : Reply → Type 0 = λ r. EndAlike a b (unless_ended (ending_after (a.reply s.state words)) on) (unless_ended (ending_after r) ot) in
      record {
        answers = ap (λ (r : Reply). record { kind = kind; words = words; reply = r } ∷ []) e;
        stands = subst P e (unless_alike (ending_after (a.reply s.state words)) on ot next);
      }

  read_alike : (s : Standing A) (t : Standing B) (kind : Kind) (r : Result (List ℤ) LineErr) → StandAlike a b s t → ((words : List ℤ) → r ≡ Ok words → IsDueRecord a s.state words)
      → WalkAlike a b (read_line a s kind r) (read_line b t kind r)
  read_alike s t kind (Err e) h d = bad_alike s t h
  read_alike s t kind (Ok words) h d = answered_alike s t kind words h (d words refl)

  module _ (counts : a.counts ≡ b.counts) where
    due_by : (s : Standing A) (t : Standing B) (kind : Option Kind) (line : List ℕ) → StandAlike a b s t → kind_due (a.due s.state) ≡ kind → WalkAlike a b (due_line a s kind line) (due_line b t kind line)
    due_by s t None line h e = bad_alike s t h
    due_by s t (Some kind) line h e =
        let P : Option Kind → List ℤ → Type 0 = λ k words. IsSomeAnd k (λ kind. IsRecordOf a.counts kind words) in
        let Q : Counts → Type 0 = λ c. WalkAlike a b (read_line a s kind (reading kind a.counts line)) (read_line b t kind (reading kind c line)) in
        subst Q counts (read_alike s t kind (reading kind a.counts line) h (λ words r. subst (λ k. P k words) (sym e) (read_is_record kind a.counts line words r)))

    due_alike : (s : Standing A) (t : Standing B) (line : List ℕ) → StandAlike a b s t → WalkAlike a b (due_line a s (kind_due (a.due s.state)) line) (due_line b t (kind_due (b.due t.state)) line)
    due_alike s t line h =
        let Q : Due → Type 0 = λ d. WalkAlike a b (due_line a s (kind_due (a.due s.state)) line) (due_line b t (kind_due d) line) in
        subst Q (due_now s.state t.state h.state) (due_by s t (kind_due (a.due s.state)) line h refl)

    short_by : (skips : Bool) (s : Standing A) (t : Standing B) (line : List ℕ) → StandAlike a b s t
        → WalkAlike a b (if skips then skipped s else due_line a s (kind_due (a.due s.state)) line) (if skips then skipped t else due_line b t (kind_due (b.due t.state)) line)
    short_by true s t line h = skipped_alike s t h
    short_by false s t line h = due_alike s t line h

    line_by : (long : Bool) (s : Standing A) (t : Standing B) (line : List ℕ) → StandAlike a b s t
        → WalkAlike a b (if long then bad_at s else short_line a s line) (if long then bad_at t else short_line b t line)
    line_by true s t line h = bad_alike s t h
    line_by false s t line h = short_by (is_skipped line) s t line h

    held_by : (long : Bool) (s : Standing A) (t : Standing B) → StandAlike a b s t → WalkAlike a b (if long then bad_at s else waiting s) (if long then bad_at t else waiting t)
    held_by true s t h = bad_alike s t h
    held_by false s t h = waiting_alike s t h

    then_alike : (answers : List Exchange) (r : Result (Standing A) Ending) (q : Result (Standing B) Ending) (f : Standing A → Walked A) (g : Standing B → Walked B) → EndAlike a b r q
        → ((s : Standing A) (t : Standing B) → StandAlike a b s t → WalkAlike a b (f s) (g t)) → WalkAlike a b (then_on answers r f) (then_on answers q g)
    unfolding EndAlike
    then_alike answers (Err e) (Err d) f g h on = record { answers = refl; stands = h }
    then_alike answers (Err e) (Ok t) f g h on = absurd h
    then_alike answers (Ok s) (Err d) f g h on = absurd h
    then_alike answers (Ok s) (Ok t) f g h on = let w = on s t h in record { answers = ap (λ l. answers ++ l) w.answers; stands = w.stands }

    walk_alike : (lines : List (List ℕ)) (s : Standing A) (t : Standing B) → StandAlike a b s t → WalkAlike a b (walk a s lines) (walk b t lines)
    walk_alike [] s t h = waiting_alike s t h
    walk_alike (held ∷ []) s t h = held_by (nat_lt line_limit (length held)) s t h
    walk_alike (line ∷ next ∷ more) s t h =
        let w = line_by (nat_lt line_limit (length line)) s t (without_return line) h in
        let P : List Exchange → Type 0 = λ l. WalkAlike a b (then_on (line_answer a s line).answers (line_answer a s line).stands (λ u. walk a u (next ∷ more))) (then_on l (line_answer b t line).stands (λ u. walk b u (next ∷ more))) in
        subst P w.answers (then_alike (line_answer a s line).answers (line_answer a s line).stands (line_answer b t line).stands _ _ w.stands (walk_alike (next ∷ more)))

  -- What walks that are alike print.

  last_alike : (r : Result (Standing A) Ending) (q : Result (Standing B) Ending) → EndAlike a b r q → last_text r ≡ last_text q
  unfolding EndAlike
  last_alike (Err e) (Err d) h = ap (λ e. last_text {State = A} (Err e)) h
  last_alike (Err e) (Ok t) h = absurd h
  last_alike (Ok s) (Err d) h = absurd h
  last_alike (Ok s) (Ok t) h = refl

  text_alike : (w : Walked A) (v : Walked B) → WalkAlike a b w v → text_of w ≡ text_of v
  text_alike w v h = ap (λ l. reply_lines l ++ last_text w.stands) h.answers ∙ ap (λ l. reply_lines v.answers ++ l) (last_alike w.stands v.stands h.stands)

  going_alike : (text : List ℕ) (r : Result (Standing A) Ending) (q : Result (Standing B) Ending) → EndAlike a b r q → going_by text r ≡ going_by text q
  unfolding EndAlike
  going_alike text (Err e) (Err d) h = refl
  going_alike text (Err e) (Ok t) h = absurd h
  going_alike text (Ok s) (Err d) h = absurd h
  going_alike text (Ok s) (Ok t) h = refl

  ended_alike : (text : List ℕ) (r : Result (Standing A) Ending) (q : Result (Standing B) Ending) → EndAlike a b r q → ended text r ≡ ended text q
  unfolding EndAlike
  ended_alike text (Err e) (Err d) h = ap (λ e. record { text = text; verdict = verdict_of e }) h
  ended_alike text (Err e) (Ok t) h = absurd h
  ended_alike text (Ok s) (Err d) h = absurd h
  ended_alike text (Ok s) (Ok t) h = ap (λ n. record { text = text ++ end_line n; verdict = Done }) h.rounds

  closed_alike : (text : List ℕ) (r : Result (Standing A) Ending) (q : Result (Standing B) Ending) (w : Walked A) (v : Walked B) → EndAlike a b r q → WalkAlike a b w v → closed_by text r w ≡ closed_by text q v
  unfolding EndAlike
  closed_alike text (Err e) (Err d) w v h k = ap (λ e. record { text = text; verdict = verdict_of e }) h
  closed_alike text (Err e) (Ok t) w v h k = absurd h
  closed_alike text (Ok s) (Err d) w v h k = absurd h
  closed_alike text (Ok s) (Ok t) w v h k = ap (λ l. ended l w.stands) (text_alike w v k) ∙ ended_alike (text_of v) w.stands v.stands k.stands

module _ {A B : Type 0} (a : Answerer A) (b : Answerer B) (h : Agree a b) where
  start_alike : StandAlike a b (start_of a) (start_of b)
  start_alike = record { state = record { replies = h.replies; due = h.due }; lines = refl; rounds = refl }

  so_far_walks : (bytes : List ℕ) → WalkAlike a b (so_far a bytes) (so_far b bytes)
  so_far_walks bytes = walk_alike a b h.counts (lines_of bytes) (start_of a) (start_of b) start_alike

  -- the texts of all bytes so far are the same
  pub so_far_alike : (bytes : List ℕ) → text_of (so_far a bytes) ≡ text_of (so_far b bytes)
  so_far_alike bytes = text_alike a b (so_far a bytes) (so_far b bytes) (so_far_walks bytes)

  -- and so are those of bytes that have not ended the run
  pub going_so_far_alike : (bytes : List ℕ) → going_text (so_far a bytes) ≡ going_text (so_far b bytes)
  going_so_far_alike bytes =
      ap (λ l. going_by l (so_far a bytes).stands) (so_far_alike bytes) ∙ going_alike a b (text_of (so_far b bytes)) (so_far a bytes).stands (so_far b bytes).stands (so_far_walks bytes).stands

  whole_alike : (bytes : List ℕ) → whole_run a bytes ≡ whole_run b bytes
  whole_alike bytes =
      let w = so_far_walks bytes in
      let v = so_far_walks (bytes ++ 10 ∷ []) in
      ap (λ l. closed_by l (so_far a bytes).stands (so_far a (bytes ++ 10 ∷ []))) (so_far_alike bytes)
      ∙ closed_alike a b (text_of (so_far b bytes)) (so_far a bytes).stands (so_far b bytes).stands (so_far a (bytes ++ 10 ∷ [])) (so_far b (bytes ++ 10 ∷ [])) w.stands v

  -- the texts and the verdicts of the runs are the same
  pub runs_alike : (bytes : List ℕ) → run a bytes ≡ run b bytes
  unfolding run
  runs_alike bytes = limited_alike (λ front. going_text (so_far a front)) (λ front. going_text (so_far b front)) (whole_run a) (whole_run b) going_so_far_alike whole_alike bytes

  -- and so are the answers in them
  pub answers_alike : (bytes : List ℕ) → answers_of a bytes ≡ answers_of b bytes
  answers_alike bytes = (so_far_walks (run_bytes bytes)).answers
