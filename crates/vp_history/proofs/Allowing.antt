-- What a model has to say of every history that records represent.
use Rattle.std.proofs.Common.{◌≡◌, ◌∙◌, List, [], ◌∷◌, length}
use Rattle.std.specs.Prelude.{ℤ}
use Rattle.vp_words.specs.declared.record.Due.{Due}
use Rattle.vp_words.specs.declared.record.Due.TheVariants as due
use Rattle.vp_words.specs.declared.record.Kind.{Kind}
use Rattle.vp_words.specs.declared.record.Kind.TheVariants as kind
use Rattle.vp_words.specs.Exchanges.{AreDue, Exchange, exchanges}
use Rattle.vp_terms.specs.Model.{IsInductive, Model}
use Rattle.vp_interval.specs.Represents.{AreValid}
use Rattle.vp_interval.specs.Rounding.{Ends}
use Rattle.vp_sandbox.specs.declared.sandbox.Sandbox.{Sandbox}
use Rattle.vp_sandbox.specs.Answer.{Answered, answered, sandbox_of}
use Rattle.vp_sandbox.specs.Fits.{Fits}
use Rattle.vp_sandbox.specs.Sandbox.{State}
use Rattle.vp_history.specs.Allowed.{Allows, Denies}
use Rattle.vp_history.specs.History.{Along, History, Now, StandsIn, after}
use Rattle.vp_history.specs.Means.{Means}
use Rattle.vp_history.proofs.Known.{Known}
use Rattle.vp_history.proofs.Steps.{Keeps, Ready, Step, choice_step, init_step, sense_step}

module _ (known : Known) (s : Sandbox) (m : Model) (h : History) (fits : Fits s) (means : Means s m) where
  -- what the exchanges from here on say of the history
  pub record Says (d : Due) (now : Now) (es : List Exchange) : Type 0 where
    pub denied : Along s.counts (λ now e. Denies m s.counts h e.kind e.words e.reply now) now es
    pub allowed : IsInductive m → Keeps s m h d now → Along s.counts (λ now e. Allows m s.counts h e.kind e.words e.reply now) now es

  onto : (d : Due) (kind : Kind) (words : List ℤ) (now : Now) (answer : Answered) (es : List Exchange) → Step s m h d kind words now answer → Says answer.next.due (after s.counts kind words answer.reply now) es
      → Says d now (record { kind = kind; words = words; reply = answer.reply } ∷ es)
  onto d kind words now answer es step more = record {
    denied = (step.denies, more.denied);
    allowed = λ ind k. let a = step.allows ind k in (a.0, more.allowed ind a.1);
  }

  pub says_from : (records : List (List ℤ)) (d : Due) (now : Now) (boxes : List Ends) → length boxes ≡ 32 → AreValid boxes → Ready s m h d now boxes → AreDue (sandbox_of s) (record { boxes = boxes; due = d }) records
      → Along s.counts (λ now e. StandsIn s.counts h e.kind e.words e.reply now) now (exchanges (sandbox_of s) (record { boxes = boxes; due = d }) records)
      → Says d now (exchanges (sandbox_of s) (record { boxes = boxes; due = d }) records)
  says_from [] d now boxes size valid ready turns along = record { denied = tt; allowed = λ ind k. tt }
  says_from (words ∷ more) due.Ended now boxes size valid ready turns along = absurd turns.0
  says_from (words ∷ more) due.Init now boxes size valid ready turns along =
      let st : State = record { boxes = boxes; due = due.Init } in
      let answer = answered s st words in
      let step = init_step s m h known fits means now boxes words size valid ready.0 ready.1 turns.0 along.0 in
      onto due.Init kind.Init words now answer _ step
      (says_from more answer.next.due _ answer.next.boxes (known.keeps.size s st words ∙ size) (known.keeps.behind s st words fits size valid turns.0) step.ready turns.1 along.1)
  says_from (words ∷ more) due.Choice now boxes size valid ready turns along =
      let st : State = record { boxes = boxes; due = due.Choice } in
      let answer = answered s st words in
      let step = choice_step s m h known fits means now boxes words size valid ready turns.0 in
      onto due.Choice kind.Choice words now answer _ step
      (says_from more answer.next.due _ answer.next.boxes (known.keeps.size s st words ∙ size) (known.keeps.behind s st words fits size valid turns.0) step.ready turns.1 along.1)
  says_from (words ∷ more) due.Sense now boxes size valid ready turns along =
      let st : State = record { boxes = boxes; due = due.Sense } in
      let answer = answered s st words in
      let step = sense_step s m h known fits means now boxes words size valid ready turns.0 along.0 in
      onto due.Sense kind.Sense words now answer _ step
      (says_from more answer.next.due _ answer.next.boxes (known.keeps.size s st words ∙ size) (known.keeps.behind s st words fits size valid turns.0) step.ready turns.1 along.1)
