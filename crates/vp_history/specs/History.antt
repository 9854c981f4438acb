-- Histories of rationals, and when the records that a run answered represent one.
use Rattle.std.specs.Prelude.{ℕ, ◌+◌, ◌*◌, ◌<◌, List, [], ◌∷◌, take, drop, slice_index_or, ℤ, pos}
use Rattle.vp_words.specs.declared.record.Counts.{Counts}
use Rattle.vp_words.specs.declared.record.Kind.{Kind}
use Rattle.vp_words.specs.declared.record.Kind.TheVariants.{Init, Choice, Sense}
use Rattle.vp_words.specs.declared.record.Reply.{Reply}
use Rattle.vp_words.specs.declared.record.Reply.TheVariants.{Ok, Act}
use Rattle.vp_words.specs.Exchanges.{Exchange}
use Rattle.vp_terms.specs.Control.{Values}
use Rattle.vp_terms.specs.Rational.{Rational, whole}
use Rattle.vp_interval.specs.Represents.{Represents}
use Rattle.vp_sandbox.specs.Boxes.{pair_at}

-- the rationals of a history: the parameters, the states at each sensing, of which the init record is
-- number 0, and the time that passed before each
pub record History : Type 0 where
  pub params : Values
  pub states : ℕ → Values
  pub times : ℕ → Rational

-- where a history stands: the number of its last sensing, and the controls in force
pub record Now : Type 0 where
  pub sensing : ℕ
  pub controls : Values

-- ---- the controls that words give

-- the values of words by their number; further ones are 0
abbrev pub values_of : List ℤ → Values
values_of words k = whole (slice_index_or words k (pos 0))

-- those of an init record: its words behind the pairs of parameters and states
abbrev pub first_controls : Counts → List ℤ → Values
first_controls c words = values_of (drop (2 * (c.params + c.states)) words)

-- ---- where a history stands

-- before any record
abbrev pub first : Now
first = record { sensing = 0; controls = values_of [] }

-- behind a record and its reply: the init record gives the controls in force, and then each act its
-- actuated words; a sensing that was answered `ok` is one more
abbrev pub after : Counts → Kind → List ℤ → Reply → Now → Now
after c Init words reply now = record { sensing = 0; controls = first_controls c words }
after c Choice words (Act acted len fallback) now = record { sensing = now.sensing; controls = values_of (take len acted) }
after c Sense words Ok now = record { sensing = now.sensing + 1; controls = now.controls }
after c kind words reply now = now

-- a statement about each answered record, and where the history stands before it
abbrev pub Along : Counts → (Now → Exchange → Type 0) → Now → List Exchange → Type 0
Along c P now [] = Unit {0}
Along c P now (e ∷ es) = P now e × Along c P (after c e.kind e.words e.reply now) es

-- ---- what records represent

-- n pairs of ends, from pair number k on, represent these values
pub record PairsRepresent (words : List ℤ) (k n : ℕ) (values : Values) : Type 0 where
  pub each : (i : ℕ) → i < n → Represents (pair_at words (k + i)) (values i)

-- the values of the history stand in the boxes of a record: parameters and states in those of the init
-- record, the time and the next states in those of a sensing
abbrev pub IsInBoxes : Counts → History → Kind → List ℤ → Now → Type 0
IsInBoxes c h Init words now =
    PairsRepresent words 0 c.params h.params × PairsRepresent words c.params c.states (h.states 0)
IsInBoxes c h Choice words now = Unit {0}
IsInBoxes c h Sense words now =
    Represents (pair_at words 0) (h.times (now.sensing + 1)) × PairsRepresent words 1 c.states (h.states (now.sensing + 1))

-- and so they do where the record was answered `ok`
abbrev pub StandsIn : Counts → History → Kind → List ℤ → Reply → Now → Type 0
StandsIn c h kind words Ok now = IsInBoxes c h kind words now
StandsIn c h kind words reply now = Unit {0}

-- the answered records represent the history
abbrev pub IsRepresented : Counts → History → List Exchange → Type 0
IsRepresented c h es = Along c (λ now e. StandsIn c h e.kind e.words e.reply now) first es
