-- What a model has to say of a history.
use Rattle.std.specs.Prelude.{ℕ, ◌+◌, false, List, take, ℤ}
use Rattle.vp_words.specs.declared.record.Counts.{Counts}
use Rattle.vp_words.specs.declared.record.Kind.{Kind}
use Rattle.vp_words.specs.declared.record.Kind.TheVariants.{Init, Choice, Sense}
use Rattle.vp_words.specs.declared.record.Reply.{Reply}
use Rattle.vp_words.specs.declared.record.Reply.TheVariants.{Ok, Act, Violation}
use Rattle.vp_words.specs.declared.record.Why.TheVariants as why
use Rattle.vp_words.specs.Exchanges.{Exchange}
use Rattle.vp_stream.specs.Answers.{answers_of}
use Rattle.vp_terms.specs.Model.{Model}
use Rattle.vp_sandbox.specs.declared.sandbox.Sandbox.{Sandbox}
use Rattle.vp_sandbox.specs.Answer.{sandbox_of}
use Rattle.vp_history.specs.History.{Along, History, IsInBoxes, IsRepresented, Now, first, first_controls, values_of}

-- at a record and its reply: where the init record is answered `ok` the model may start there, and it is
-- safe; at each act the controller may go from the controls in force to the actuated ones; at each
-- sensing answered `ok` the plant may have gone from the last states to the new ones, which are safe
abbrev pub Allows : Model → Counts → History → Kind → List ℤ → Reply → Now → Type 0
Allows m c h Init words Ok now =
    m.init h.params (h.states 0) (first_controls c words) × m.safe h.params (h.states 0) (first_controls c words)
Allows m c h Choice words (Act acted len fallback) now =
    m.ctrl h.params (h.states now.sensing) now.controls (values_of (take len acted))
Allows m c h Sense words Ok now =
    m.plant h.params (h.states now.sensing) now.controls (h.times (now.sensing + 1)) (h.states (now.sensing + 1))
    × m.safe h.params (h.states (now.sensing + 1)) now.controls
Allows m c h kind words reply now = Unit {0}

-- the model allows the history all along
abbrev pub IsAllowed : Model → Counts → History → List Exchange → Type 0
IsAllowed m c h es = Along c (λ now e. Allows m c h e.kind e.words e.reply now) first es

-- what a violation with `false` says of the history, where its values stand in the boxes of that record
-- too: the model may not start there, or the plant can't have gone so
abbrev pub Denies : Model → Counts → History → Kind → List ℤ → Reply → Now → Type 0
Denies m c h Init words (Violation (why.Init k false)) now =
    IsInBoxes c h Init words now → ¬ m.init h.params (h.states 0) (first_controls c words)
Denies m c h Sense words (Violation (why.Plant k false)) now =
    IsInBoxes c h Sense words now →
    ¬ m.plant h.params (h.states now.sensing) now.controls (h.times (now.sensing + 1)) (h.states (now.sensing + 1))
Denies m c h kind words reply now = Unit {0}

-- and so each of these
abbrev pub IsDenied : Model → Counts → History → List Exchange → Type 0
IsDenied m c h es = Along c (λ now e. Denies m c h e.kind e.words e.reply now) first es

-- over every input the model allows every history that the records answered in the text represent
abbrev pub IsSafe : Sandbox → Model → Type 0
IsSafe s m = (bytes : List ℕ) (h : History) →
    IsRepresented s.counts h (answers_of (sandbox_of s) bytes) → IsAllowed m s.counts h (answers_of (sandbox_of s) bytes)

-- over every input a violation with `false` denies every history that the records answered before it
-- represent
abbrev pub DeniesRightly : Sandbox → Model → Type 0
DeniesRightly s m = (bytes : List ℕ) (h : History) →
    IsRepresented s.counts h (answers_of (sandbox_of s) bytes) → IsDenied m s.counts h (answers_of (sandbox_of s) bytes)
