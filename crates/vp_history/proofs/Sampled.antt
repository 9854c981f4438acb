-- A history that the model allows is a sampled run of it.
use Rattle.std.proofs.Common.{◌≡◌, ℕ, List, [], ◌∷◌, map, Option, None, Some, refl, sym, subst, drop}
use Rattle.std.specs.Prelude.{ℤ}
use Rattle.vp_words.specs.declared.record.Due.{Due}
use Rattle.vp_words.specs.declared.record.Due.TheVariants as due
use Rattle.vp_words.specs.declared.record.Kind.{Kind}
use Rattle.vp_words.specs.declared.record.Kind.TheVariants as kind
use Rattle.vp_words.specs.Exchanges.{AreDue, Exchange, exchanges}
use Rattle.vp_terms.specs.Control.{Values}
use Rattle.vp_terms.specs.Model.{Model, Round, SampledRun}
use Rattle.vp_interval.specs.declared.truth.Truth.{Truth}
use Rattle.vp_interval.specs.declared.truth.Truth.TheVariants.{No, Maybe, Yes}
use Rattle.vp_interval.specs.Polynomial.{interval_of}
use Rattle.vp_interval.specs.Rounding.{Ends}
use Rattle.vp_sandbox.specs.declared.sandbox.Sandbox.{Sandbox}
use Rattle.vp_sandbox.specs.Answer.{Answered, answered, choice_verdict, fallback_verdict, init_verdict, sandbox_of, sense_verdict, start}
use Rattle.vp_sandbox.specs.Boxes.{point_words}
use Rattle.vp_history.specs.Allowed.{Allows, IsAllowed}
use Rattle.vp_history.specs.History.{Along, History, Now, after, first}
use Rattle.vp_history.specs.Rounds.{IsSampledRun, StartsRun, round_onto, rounds_from}

module _ (s : Sandbox) (m : Model) (h : History) where
  -- what the rounds from here on are, by what is due
  abbrev RunsOn : Due → Now → List Round → Type 0
  RunsOn due.Init now rounds = Unit {0}
  RunsOn due.Choice now rounds = SampledRun m h.params (h.states now.sensing) now.controls rounds
  RunsOn due.Sense now rounds = (u : Values) → m.ctrl h.params (h.states now.sensing) u now.controls → SampledRun m h.params (h.states now.sensing) u rounds
  RunsOn due.Ended now rounds = rounds ≡ []

  -- from behind the answer back to the record
  abbrev Backs : Due → Kind → Now → List ℤ → Answered → Type 0
  Backs d kind now words answer =
      (rounds : List Round) → Allows m s.counts h kind words answer.reply now → RunsOn answer.next.due (after s.counts kind words answer.reply now) rounds
      → RunsOn d now (round_onto h kind answer.reply now rounds)

  no_rounds : (x u : Values) (rounds : List Round) → rounds ≡ [] → SampledRun m h.params x u rounds
  no_rounds x u rounds e = subst (SampledRun m h.params x u) (sym e) tt

  fallback_backs : (now : Now) (words : List ℤ) (boxes : List Ends) (o : Option (List ℤ)) → Backs due.Choice kind.Choice now words (fallback_verdict s boxes o)
  fallback_backs now words boxes None = λ rounds a r. no_rounds (h.states now.sensing) now.controls rounds r
  fallback_backs now words boxes (Some ws) = λ rounds a r. r now.controls a

  choice_backs : (now : Now) (words : List ℤ) (old boxes : List Ends) (t : Truth) → Backs due.Choice kind.Choice now words (choice_verdict s old boxes words t)
  choice_backs now words old boxes Yes = λ rounds a r. r now.controls a
  choice_backs now words old boxes No = fallback_backs now words boxes (point_words (map (interval_of old) s.fallback))
  choice_backs now words old boxes Maybe = fallback_backs now words boxes (point_words (map (interval_of old) s.fallback))

  sense_backs : (now : Now) (words states : List ℤ) (boxes : List Ends) (o : Option (ℕ × Truth)) → Backs due.Sense kind.Sense now words (sense_verdict s boxes states o)
  sense_backs now words states boxes None = λ rounds a r u c. (c, a.0, r)
  sense_backs now words states boxes (Some n) = λ rounds a r u c. no_rounds (h.states now.sensing) u rounds r

  nothing_runs : (d : Due) (now : Now) → RunsOn d now []
  nothing_runs due.Init now = tt
  nothing_runs due.Choice now = tt
  nothing_runs due.Sense now = λ u c. tt
  nothing_runs due.Ended now = refl

  runs_from : (records : List (List ℤ)) (d : Due) (now : Now) (boxes : List Ends) → AreDue (sandbox_of s) (record { boxes = boxes; due = d }) records
      → Along s.counts (λ now e. Allows m s.counts h e.kind e.words e.reply now) now (exchanges (sandbox_of s) (record { boxes = boxes; due = d }) records)
      → RunsOn d now (rounds_from s.counts h now (exchanges (sandbox_of s) (record { boxes = boxes; due = d }) records))
  runs_from [] d now boxes turns along = nothing_runs d now
  runs_from (words ∷ more) due.Ended now boxes turns along = absurd turns.0
  runs_from (words ∷ more) due.Init now boxes turns along = tt
  runs_from (words ∷ more) due.Choice now boxes turns along =
      let answer = answered s (record { boxes = boxes; due = due.Choice }) words in
      choice_backs now words boxes _ _ _ along.0 (runs_from more answer.next.due (after s.counts kind.Choice words answer.reply now) answer.next.boxes turns.1 along.1)
  runs_from (words ∷ more) due.Sense now boxes turns along =
      let answer = answered s (record { boxes = boxes; due = due.Sense }) words in
      sense_backs now words (drop 2 words) _ _ _ along.0 (runs_from more answer.next.due (after s.counts kind.Sense words answer.reply now) answer.next.boxes turns.1 along.1)

  first_run : (o : Option (ℕ × Truth)) (words : List ℤ) (boxes : List Ends) (es : List Exchange) → Allows m s.counts h kind.Init words (init_verdict boxes o).reply first
      → RunsOn (init_verdict boxes o).next.due (after s.counts kind.Init words (init_verdict boxes o).reply first) (rounds_from s.counts h (after s.counts kind.Init words (init_verdict boxes o).reply first) es)
      → StartsRun m s.counts h (after s.counts kind.Init words (init_verdict boxes o).reply first) es (init_verdict boxes o).reply
  first_run None words boxes es a r = record { starts = a.0; goes = r }
  first_run (Some n) words boxes es a r = tt

  pub allowed_is_run : (records : List (List ℤ)) → AreDue (sandbox_of s) start records → IsAllowed m s.counts h (exchanges (sandbox_of s) start records) → IsSampledRun m s.counts h (exchanges (sandbox_of s) start records)
  allowed_is_run [] turns along = tt
  allowed_is_run (words ∷ more) turns along =
      let answer = answered s start words in
      first_run _ words _ (exchanges (sandbox_of s) answer.next more) along.0
      (runs_from more answer.next.due (after s.counts kind.Init words answer.reply first) answer.next.boxes turns.1 along.1)
