-- Records of words, what is due, and how many words a record has.
use Rattle.std.specs.Prelude.{◌≡◌, ℕ, zero, suc, ◌+◌, ◌-◌, ◌*◌, ◌≤◌, ◌++◌, ◌∷◌, [], ℤ, pos, List, length, replicate, take, Option, None, Some, Bool, true, false, ◌&&◌, nat_le, IsTrue}
use Rattle.vp_words.specs.declared.record.Kind.{Kind}
use Rattle.vp_words.specs.declared.record.Kind.TheVariants.{Init, Choice, Sense}
use Rattle.vp_words.specs.declared.record.Due.{Due}
use Rattle.vp_words.specs.declared.record.Due.TheVariants as due
use Rattle.vp_words.specs.declared.record.Counts.{Counts}
use Rattle.vp_words.specs.declared.record.Record.{Record}
use Rattle.vp_words.specs.declared.record.Reply.{Reply}
use Rattle.vp_words.specs.declared.record.Reply.TheVariants as reply
use Rattle.std.specs.List.{list_all}
use Rattle.vp_words.specs.Ends.{encloses}
use Rattle.vp_words.specs.Number.{is_finite}

-- the places of a model's variables
abbrev pub place_count : Counts → ℕ
place_count c = c.params + 2 * c.states + 2 * c.controls + 1

-- a model has a state and a control, and at most 32 places
abbrev pub IsValid : Counts → Type 0
IsValid c = (1 ≤ c.states) × (1 ≤ c.controls) × (place_count c ≤ 32)

-- the same as a test
abbrev pub is_valid : Counts → Bool
is_valid c = nat_le 1 c.states && (nat_le 1 c.controls && nat_le (place_count c) 32)

-- how many words a record of the kind has
abbrev pub field_count : Kind → Counts → ℕ
field_count Init c = 2 * c.params + 2 * c.states + c.controls
field_count Choice c = c.controls
field_count Sense c = 2 + 2 * c.states

-- how many pairs of ends stand first in a record of the kind; the other words are controls
abbrev pub pair_count : Kind → Counts → ℕ
pair_count Init c = c.params + c.states
pair_count Choice c = 0
pair_count Sense c = 1 + c.states

-- n valid pairs of ends, and then finite words alone
abbrev pub pairs_then_finite : ℕ → List ℤ → Bool
pairs_then_finite zero words = list_all is_finite words
pairs_then_finite (suc n) [] = false
pairs_then_finite (suc n) (low ∷ []) = false
pairs_then_finite (suc n) (low ∷ high ∷ words) = encloses low high && pairs_then_finite n words

-- words that a record of the kind may have
abbrev pub valid_words : Kind → Counts → List ℤ → Bool
valid_words kind c words = pairs_then_finite (pair_count kind c) words

-- the kind of record that is due, if any is
abbrev pub kind_due : Due → Option Kind
kind_due due.Init = Some Init
kind_due due.Choice = Some Choice
kind_due due.Sense = Some Sense
kind_due due.Ended = None

-- what is due where a record of the kind is
abbrev pub due_for : Kind → Due
due_for Init = due.Init
due_for Choice = due.Choice
due_for Sense = due.Sense

-- words with zeros behind them, n in all
abbrev pub padded : ℕ → List ℤ → List ℤ
padded n words = words ++ replicate (n - length words) (pos 0)

-- an act has at most 16 words
abbrev pub ActFits : Reply → Type 0
ActFits reply.Ok = Unit {0}
ActFits (reply.Act words len fallback) = len ≤ 16
ActFits (reply.Violation why) = Unit {0}

-- a reply that ends the run
abbrev pub is_violation : Reply → Bool
is_violation reply.Ok = false
is_violation (reply.Act words len fallback) = false
is_violation (reply.Violation why) = true

-- a valid record: as many words as its kind has, zeros behind them, each pair valid and each control finite
pub record IsRecord (c : Counts) (r : Record) : Type 0 where
  pub count : r.len ≡ field_count r.kind c
  pub padding : r.words ≡ padded 64 (take r.len r.words)
  pub valid : IsTrue (valid_words r.kind c (take r.len r.words))
