-- Lists of records that are due one after another, what an answerer replies to them, and when two
-- answerers agree.
use Rattle.std.specs.Prelude.{◌≡◌, List, [], ◌∷◌, length, All, ℤ, Option, None, Some, IsTrue, IsSomeAnd}
use Rattle.vp_words.specs.declared.record.Counts.{Counts}
use Rattle.vp_words.specs.declared.record.Kind.{Kind}
use Rattle.vp_words.specs.declared.record.Reply.{Reply}
use Rattle.vp_words.specs.Answerer.{Answerer}
use Rattle.vp_words.specs.Number.{IsWord}
use Rattle.vp_words.specs.Record.{field_count, kind_due, valid_words}

-- words that a record of the kind has: as many as are due, each a word, pairs valid and controls finite
pub record IsRecordOf (c : Counts) (kind : Kind) (record_words : List ℤ) : Type 0 where
  pub count : length record_words ≡ field_count kind c
  pub words : All IsWord record_words
  pub valid : IsTrue (valid_words kind c record_words)

-- the words are a record of the kind that is due
abbrev pub IsDueRecord : {State : Type 0} → Answerer State → State → List ℤ → Type 0
IsDueRecord a s words = IsSomeAnd (kind_due (a.due s)) (λ kind. IsRecordOf a.counts kind words)

-- each record of a list is one that is due when its turn comes
abbrev pub AreDue : {State : Type 0} → Answerer State → State → List (List ℤ) → Type 0
AreDue a s [] = Unit {0}
AreDue a s (words ∷ more) = IsDueRecord a s words × AreDue a (a.next s words) more

-- the state behind a list of records
abbrev pub state_after : {State : Type 0} → Answerer State → State → List (List ℤ) → State
state_after a s [] = s
state_after a s (words ∷ more) = state_after a (a.next s words) more

-- a record that was answered, and the reply to it
pub record Exchange : Type 0 where
  pub kind : Kind
  pub words : List ℤ
  pub reply : Reply

-- a record and its reply before what is exchanged after them; nothing is, where no record is due
abbrev pub exchanged_onto : Option Kind → List ℤ → Reply → List Exchange → List Exchange
exchanged_onto None words reply more = []
exchanged_onto (Some kind) words reply more = record { kind = kind; words = words; reply = reply } ∷ more

-- what is exchanged over a list of records
abbrev pub exchanges : {State : Type 0} → Answerer State → State → List (List ℤ) → List Exchange
exchanges a s [] = []
exchanges a s (words ∷ more) = exchanged_onto (kind_due (a.due s)) words (a.reply s words) (exchanges a (a.next s words) more)

-- two answerers give the same replies to every list of records that are due for the first, and have the
-- same due at the start and behind each record
pub record Agree {A B : Type 0} (a : Answerer A) (b : Answerer B) : Type 0 where
  pub counts : a.counts ≡ b.counts
  pub replies : (records : List (List ℤ)) → AreDue a a.start records → exchanges a a.start records ≡ exchanges b b.start records
  pub due : (records : List (List ℤ)) → AreDue a a.start records → a.due (state_after a a.start records) ≡ b.due (state_after b b.start records)
