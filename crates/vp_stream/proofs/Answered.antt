-- What a run answered: records that are due, each in its turn, whose replies make its text.
use Rattle.std.proofs.Common.{◌≡◌, ℕ, ◌+◌, ◌<◌, ◌≤◌, Bool, true, false, nat_lt, ℤ, List, [], ◌∷◌, ◌++◌, length, take, drop, Option, None, Some, Result, Ok, Err, refl, ap, sym, ◌∙◌, subst, append-nil, add_assoc, zero-add, arith}
use Rattle.std.specs.Prelude.{IsSomeAnd, IsTrue, ◌↔◌, ◌||◌, if◌then◌else◌}
use Rattle.std.proofs.lemmas.Bool.{ltb-true, ltb-false}
use Rattle.std.proofs.lemmas.List.{take-append-drop, length-take-le}
use Rattle.vp_words.specs.declared.record.Kind.{Kind}
use Rattle.vp_words.specs.Answerer.{Answerer}
use Rattle.vp_words.specs.Exchanges.{IsRecordOf, IsDueRecord, Exchange, state_after}
use Rattle.vp_words.specs.declared.record.Reply.{Reply}
use Rattle.vp_words.specs.declared.record.Reply.TheVariants as reply
use Rattle.vp_words.specs.Record.{is_violation, kind_due}
use Rattle.vp_stream.specs.declared.record.LineErr.{LineErr}
use Rattle.vp_stream.specs.declared.verdict.Ending.{Ending}
use Rattle.vp_stream.specs.declared.verdict.Ending.TheVariants as ending
use Rattle.vp_stream.specs.declared.verdict.Verdict.{Verdict}
use Rattle.vp_stream.specs.declared.verdict.Verdict.TheVariants.{Done, TooMuch, Violated}
use Rattle.vp_stream.specs.Lines.{is_skipped, without_return}
use Rattle.vp_stream.specs.Reading.{reading}
use Rattle.vp_stream.specs.Run.{Standing, Walked, bad_at, due_line, end_line, ended, ending_after, ending_text, input_limit, last_text, line_limit, lines_of, read_line, reply_lines, rounds_of, run, short_line, skipped, so_far, start_of, text_of, then_on, unless_ended, verdict_of, waiting, walk}
use Rattle.vp_stream.specs.Answers.{AreAnswers, has_violation, IsAnswered, IsEnding, IsMadeOf, IsReached, answers_of, records_in, rounds_in}
use Rattle.vp_stream.proofs.LineRecords.{read_is_record}
use Rattle.vp_stream.proofs.RunLaws.{run_short, run_too_much, run_ended}

-- a run ended by a violation
abbrev by_violation : {S : Type 0} → Result (Standing S) Ending → Bool
by_violation (Err ending.Violated) = true
by_violation (Err (ending.BadLine n)) = false
by_violation (Ok s) = false

-- a walk from a state on, after so many rounds
record Tells {S : Type 0} (a : Answerer S) (s : S) (rounds : ℕ) (w : Walked S) : Type 0 where
  given : AreAnswers a s w.answers
  stands : IsReached w.stands (state_after a s (records_in w.answers)) (rounds + rounds_in w.answers)
  violated : by_violation w.stands ≡ has_violation w.answers

-- what ends a run by a reply
ends_none : (r : Reply) → ending_after r ≡ None → is_violation r ≡ false
ends_none reply.Ok e = refl
ends_none (reply.Act words len fallback) e = refl
ends_none (reply.Violation why) e = absurd cc

ends_some : (r : Reply) (x : Ending) → ending_after r ≡ Some x → (x ≡ ending.Violated) × (is_violation r ≡ true)
ends_some reply.Ok x e = absurd cc
ends_some (reply.Act words len fallback) x e = absurd cc
ends_some (reply.Violation why) x e = (cc, refl)

true_is_false : true ≡ false → ⊥
true_is_false h = absurd cc

module _ {S : Type 0} (a : Answerer S) where
  bad_tells : (s : Standing S) (on : Standing S → Walked S) → Tells a s.state s.rounds (then_on (bad_at s).answers (bad_at s).stands on)
  bad_tells s on = record { given = record { due = tt; replies = refl; stops = tt }; stands = tt; violated = refl }

  waiting_tells : (s : Standing S) → Tells a s.state s.rounds (waiting s)
  waiting_tells s = record { given = record { due = tt; replies = refl; stops = tt }; stands = (refl, omega arith); violated = refl }

  skipped_tells : (s : Standing S) (on : Standing S → Walked S) → ((t : Standing S) → Tells a t.state t.rounds (on t)) → Tells a s.state s.rounds (then_on (skipped s).answers (skipped s).stands on)
  skipped_tells s on h =
      let rest = h (record { state = s.state; lines = s.lines + 1; rounds = s.rounds }) in
      record { given = record { due = rest.given.due; replies = rest.given.replies; stops = rest.given.stops }; stands = rest.stands; violated = rest.violated }

  due_record : (s : S) (kind : Kind) (words : List ℤ) → kind_due (a.due s) ≡ Some kind → IsRecordOf a.counts kind words → IsDueRecord a s words
  due_record s kind words e h = let P : Option Kind → Type 0 = λ k. IsSomeAnd k (λ kind. IsRecordOf a.counts kind words) in subst P (sym e) h

  -- the record is answered, and the run goes on or ends
  answered_tells : (s : Standing S) (kind : Kind) (words : List ℤ) (o : Option Ending) (on : Standing S → Walked S) → ending_after (a.reply s.state words) ≡ o
      → kind_due (a.due s.state) ≡ Some kind → IsRecordOf a.counts kind words → ((t : Standing S) → Tells a t.state t.rounds (on t))
      → Tells a s.state s.rounds
      (then_on (record { kind = kind; words = words; reply = a.reply s.state words } ∷ []) (unless_ended o (record { state = a.next s.state words; lines = s.lines + 1; rounds = s.rounds + rounds_of kind })) on)
  answered_tells s kind words None on e d r h =
      let t : Standing S = record { state = a.next s.state words; lines = s.lines + 1; rounds = s.rounds + rounds_of kind } in
      let rest = h t in
      let x : Exchange = record { kind = kind; words = words; reply = a.reply s.state words } in
      let P : ℕ → Type 0 = λ n. IsReached (on t).stands (state_after a (a.next s.state words) (records_in (on t).answers)) n in
      let none = ends_none (a.reply s.state words) e in
      record {
        given = record {
          due = (due_record s.state kind words d r, rest.given.due);
          replies = rw d (ap (λ l. x ∷ l) rest.given.replies);
          stops = (λ v. absurd (true_is_false (sym v ∙ none)), rest.given.stops);
        };
        violated = rest.violated ∙ ap (λ b. b || has_violation (on t).answers) (sym none);
        stands = subst P (add_assoc s.rounds (rounds_of kind) (rounds_in (on t).answers)) rest.stands;
      }
  answered_tells s kind words (Some x) on e d r h =
      let some = ends_some (a.reply s.state words) x e in
      record {
        given = record { due = (due_record s.state kind words d r, tt); replies = rw d refl; stops = (λ v. refl, tt) };
        violated = ap (λ x. by_violation {S = S} (Err x)) some.0 ∙ ap (λ b. b || false) (sym some.1);
        stands = tt;
      }

  read_tells : (s : Standing S) (kind : Kind) (r : Result (List ℤ) LineErr) (on : Standing S → Walked S)
      → kind_due (a.due s.state) ≡ Some kind → ((words : List ℤ) → r ≡ Ok words → IsRecordOf a.counts kind words) → ((t : Standing S) → Tells a t.state t.rounds (on t))
      → Tells a s.state s.rounds (then_on (read_line a s kind r).answers (read_line a s kind r).stands on)
  read_tells s kind (Err e) on d r h = bad_tells s on
  read_tells s kind (Ok words) on d r h = answered_tells s kind words (ending_after (a.reply s.state words)) on refl d (r words refl) h

  due_tells : (s : Standing S) (kind : Option Kind) (line : List ℕ) (on : Standing S → Walked S)
      → kind_due (a.due s.state) ≡ kind → ((t : Standing S) → Tells a t.state t.rounds (on t)) → Tells a s.state s.rounds (then_on (due_line a s kind line).answers (due_line a s kind line).stands on)
  due_tells s None line on d h = bad_tells s on
  due_tells s (Some kind) line on d h = read_tells s kind (reading kind a.counts line) on d (λ words r. read_is_record kind a.counts line words r) h

  short_tells : (skips : Bool) (s : Standing S) (line : List ℕ) (on : Standing S → Walked S) → ((t : Standing S) → Tells a t.state t.rounds (on t))
      → Tells a s.state s.rounds (then_on (if skips then skipped s else due_line a s (kind_due (a.due s.state)) line).answers (if skips then skipped s else due_line a s (kind_due (a.due s.state)) line).stands on)
  short_tells true s line on h = skipped_tells s on h
  short_tells false s line on h = due_tells s (kind_due (a.due s.state)) line on refl h

  line_tells : (long : Bool) (s : Standing S) (line : List ℕ) (on : Standing S → Walked S) → ((t : Standing S) → Tells a t.state t.rounds (on t))
      → Tells a s.state s.rounds (then_on (if long then bad_at s else short_line a s line).answers (if long then bad_at s else short_line a s line).stands on)
  line_tells true s line on h = bad_tells s on
  line_tells false s line on h = short_tells (is_skipped line) s line on h

  held_tells : (long : Bool) (s : Standing S) → Tells a s.state s.rounds (if long then bad_at s else waiting s)
  held_tells true s = bad_tells s (λ t. bad_at t)
  held_tells false s = waiting_tells s

  walk_tells : (lines : List (List ℕ)) (s : Standing S) → Tells a s.state s.rounds (walk a s lines)
  walk_tells [] s = waiting_tells s
  walk_tells (held ∷ []) s = held_tells (nat_lt line_limit (length held)) s
  walk_tells (line ∷ next ∷ more) s =
      line_tells (nat_lt line_limit (length line)) s (without_return line) (λ t. walk a t (next ∷ more)) (walk_tells (next ∷ more))

  by_exactly : (r : Result (Standing S) Ending) (b : Bool) → by_violation r ≡ b → (r ≡ Err ending.Violated) ↔ (b ≡ true)
  by_exactly (Err ending.Violated) b e = (λ _. sym e, λ _. refl)
  by_exactly (Err (ending.BadLine n)) b e = (λ h. absurd cc, λ h. absurd (true_is_false (sym h ∙ sym e)))
  by_exactly (Ok s) b e = (λ h. absurd cc, λ h. absurd (true_is_false (sym h ∙ sym e)))

  -- what any bytes give so far
  pub so_far_is_answered : (bytes : List ℕ) → IsAnswered a (so_far a bytes)
  so_far_is_answered bytes =
      let w = so_far a bytes in
      let told = walk_tells (lines_of bytes) (start_of a) in
      let P : ℕ → Type 0 = λ n. IsReached w.stands (state_after a a.start (records_in w.answers)) n in
      record { answers = told.given; stands = subst P (zero-add (rounds_in w.answers)) told.stands; violated = by_exactly w.stands (has_violation w.answers) told.violated }

  -- The text of a run.

  ending_ends : (e : Ending) (rounds : ℕ) → IsEnding (verdict_of e) rounds (ending_text e)
  ending_ends ending.Violated rounds = refl
  ending_ends (ending.BadLine n) rounds = (n, refl)

  -- the verdict is a violation exactly where one ended the walk
  verdict_exactly : (w : Walked S) (e : Ending) → w.stands ≡ Err e → IsAnswered a w → (verdict_of e ≡ Violated) ↔ IsTrue (has_violation w.answers)
  verdict_exactly w ending.Violated at h = (λ _. h.violated.0 at, λ _. refl)
  verdict_exactly w (ending.BadLine n) at h = (λ v. absurd cc, λ t. let v = h.violated.1 t in absurd cc)

  other_verdict : (w : Walked S) (v : Verdict) (t : Standing S) → w.stands ≡ Ok t → (v ≡ Violated → ⊥) → IsAnswered a w → (v ≡ Violated) ↔ IsTrue (has_violation w.answers)
  other_verdict w v t at other h = (λ e. absurd (other e), λ e. let x = h.violated.1 e in absurd cc)

  -- what was printed, by where the run stands
  text_at : (w : Walked S) (r : Result (Standing S) Ending) → w.stands ≡ r → text_of w ≡ reply_lines w.answers ++ last_text r
  text_at w r e = ap (λ r. reply_lines w.answers ++ last_text r) e

  reached_at : (w : Walked S) (t : Standing S) → w.stands ≡ Ok t → IsAnswered a w → t.rounds ≡ rounds_in w.answers
  reached_at w t e h =
      let P : Result (Standing S) Ending → Type 0 = λ r. IsReached r (state_after a a.start (records_in w.answers)) (rounds_in w.answers) in
      let at : P (Ok t) = subst P e h.stands in
      at.1

  ended_by_line : (w : Walked S) (e : Ending) → w.stands ≡ Err e → IsAnswered a w → IsMadeOf a w.answers (record { text = text_of w; verdict = verdict_of e })
  ended_by_line w e at h = record {
    given = h.answers;
    violated = verdict_exactly w e at h;
    ending = ending_text e;
    ends = ending_ends e (rounds_in w.answers);
    text = text_at w (Err e) at;
  }

  closed_made : (w : Walked S) (r : Result (Standing S) Ending) → w.stands ≡ r → IsAnswered a w → IsMadeOf a w.answers (ended (text_of w) r)
  closed_made w (Err e) at h = ended_by_line w e at h
  closed_made w (Ok t) at h = record {
    given = h.answers;
    violated = other_verdict w Done t at (λ v. cc) h;
    ending = end_line t.rounds;
    ends = ap end_line (reached_at w t at h);
    text = ap (λ l. l ++ end_line t.rounds) (text_at w (Ok t) at ∙ append-nil (reply_lines w.answers));
  }

  short_made : (bytes : List ℕ) → length bytes < input_limit → IsMadeOf a (so_far a (bytes ++ 10 ∷ [])).answers (run a bytes)
  short_made bytes short =
      let w = so_far a (bytes ++ 10 ∷ []) in
      subst (IsMadeOf a w.answers) (sym (run_short a bytes short)) (closed_made w w.stands refl (so_far_is_answered (bytes ++ 10 ∷ [])))

  -- an input that is too long: its first bytes have ended the run, or the text is theirs
  long_made : (front rest : List ℕ) (r : Result (Standing S) Ending) → length front ≡ input_limit → (so_far a front).stands ≡ r → IsMadeOf a (so_far a front).answers (run a (front ++ rest))
  long_made front rest (Ok t) len e =
      let w = so_far a front in
      subst (IsMadeOf a w.answers) (sym (run_too_much a front rest t len e)) (record {
        given = (so_far_is_answered front).answers;
        violated = other_verdict w TooMuch t e (λ v. cc) (so_far_is_answered front);
        ending = [];
        ends = refl;
        text = text_at w (Ok t) e;
      })
  long_made front rest (Err v) len e =
      let w = so_far a front in
      subst (IsMadeOf a w.answers) (sym (run_ended a front rest v (omega arith) e)) (ended_by_line w v e (so_far_is_answered front))

  made_by : (bytes : List ℕ) (short : Bool) → nat_lt (length bytes) input_limit ≡ short → IsMadeOf a (so_far a (if short then bytes ++ 10 ∷ [] else take input_limit bytes)).answers (run a bytes)
  made_by bytes true e = short_made bytes (ltb-true _ _ e)
  made_by bytes false e =
      let le : input_limit ≤ length bytes = ltb-false _ _ e in
      let all : take input_limit bytes ++ drop input_limit bytes ≡ bytes = take-append-drop input_limit bytes in
      let len : length (take input_limit bytes) ≡ input_limit = length-take-le input_limit bytes le in
      subst (λ (l : List ℕ). IsMadeOf a (so_far a (take input_limit bytes)).answers (run a l)) all (long_made (take input_limit bytes) (drop input_limit bytes) _ len refl)

  -- the text of a run is the lines of the replies to records that were due, each in its turn, and what ends it
  pub run_is_made : (bytes : List ℕ) → IsMadeOf a (answers_of a bytes) (run a bytes)
  run_is_made bytes = made_by bytes (nat_lt (length bytes) input_limit) refl
