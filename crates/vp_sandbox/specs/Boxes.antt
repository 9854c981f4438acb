-- The boxes of a state, the boxes that a record's words are, and those over which it is tested.
use Rattle.std.specs.Prelude.{ℕ, zero, suc, ◌+◌, ◌*◌, List, [], ◌∷◌, map, take, drop, slice_get, slice_set, slice_index_or, ℤ, pos, Option, None, Some, if◌then◌else◌}
use Rattle.std.specs.Option.{option_map}
use Rattle.std.specs.Ordering.{int_eq}
use Rattle.vp_words.specs.declared.record.Counts.{Counts}
use Rattle.vp_words.specs.declared.record.Kind.{Kind}
use Rattle.vp_words.specs.declared.record.Kind.TheVariants.{Init, Choice, Sense}
use Rattle.vp_words.specs.declared.record.Reply.{Reply}
use Rattle.vp_words.specs.declared.record.Reply.TheVariants as reply
use Rattle.vp_terms.specs.Places.{place}
use Rattle.vp_terms.specs.declared.expr.Var.{Var}
use Rattle.vp_terms.specs.declared.expr.Var.TheVariants.{Param, State, Control, NextState, NextControl, Tau}
use Rattle.vp_poly.specs.Places.{places_for}
use Rattle.vp_interval.specs.Rounding.{Ends, point}

-- the places of the first state, control, next state and next control, and that of `tau`
abbrev pub first_state : Counts → ℕ
first_state c = c.params

abbrev pub first_control : Counts → ℕ
first_control c = c.params + c.states

abbrev pub first_next_state : Counts → ℕ
first_next_state c = c.params + c.states + c.controls

abbrev pub first_next_control : Counts → ℕ
first_next_control c = c.params + 2 * c.states + c.controls

abbrev pub tau_place : Counts → ℕ
tau_place c = c.params + 2 * c.states + 2 * c.controls

-- n boxes with two words each, and then the point of each further word
abbrev pub boxes_of : ℕ → List ℤ → List Ends
boxes_of zero words = map point words
boxes_of (suc n) [] = []
boxes_of (suc n) (lo ∷ []) = []
boxes_of (suc n) (lo ∷ hi ∷ words) = record { lo = lo; hi = hi } ∷ boxes_of n words

-- the boxes with these ones from the place k on
abbrev pub placed : ℕ → List Ends → List Ends → List Ends
placed k [] boxes = boxes
placed k (v ∷ vs) boxes = placed (suc k) vs (slice_set boxes k v)

-- the word of each box, where the two ends of each are the same
abbrev pub point_words : List Ends → Option (List ℤ)
point_words [] = Some []
point_words (v ∷ vs) = if int_eq v.lo v.hi then option_map (λ ws. v.lo ∷ ws) (point_words vs) else None

-- all boxes with those of a record in their places: the boxes over which the record is tested
abbrev pub tested : Counts → Kind → List ℤ → List Ends → List Ends
tested c Init words boxes = placed 0 (boxes_of (c.params + c.states) words) boxes
tested c Choice words boxes = placed (first_next_control c) (map point words) boxes
tested c Sense words boxes =
    placed (first_next_state c) (boxes_of c.states (drop 2 words)) (placed (tau_place c) (boxes_of 1 (take 2 words)) boxes)

-- ---- the same by variables

-- the interval of the pair number i of these words, and of the word number i alone
abbrev pub pair_at : List ℤ → ℕ → Ends
pair_at words i = record { lo = slice_index_or words (2 * i) (pos 0); hi = slice_index_or words (2 * i + 1) (pos 0) }

abbrev pub word_at : List ℤ → ℕ → Ends
word_at words i = point (slice_index_or words i (pos 0))

-- the box of a variable
abbrev pub box_at : Counts → List Ends → Var → Option Ends
box_at c boxes v = slice_get boxes (place (places_for c) v)

-- the box of a variable where a record is tested: what the record gives it, and else the box before
abbrev pub box_tested : Counts → Kind → List ℤ → List Ends → Var → Option Ends
box_tested c Init words boxes (Param i) = Some (pair_at words i)
box_tested c Init words boxes (State i) = Some (pair_at words (c.params + i))
box_tested c Init words boxes (Control i) = Some (word_at words (2 * (c.params + c.states) + i))
box_tested c Init words boxes v = box_at c boxes v
box_tested c Choice words boxes (NextControl i) = Some (word_at words i)
box_tested c Choice words boxes v = box_at c boxes v
box_tested c Sense words boxes Tau = Some (pair_at words 0)
box_tested c Sense words boxes (NextState i) = Some (pair_at words (suc i))
box_tested c Sense words boxes v = box_at c boxes v

-- the box of a variable behind the reply: an act gives the controls its words, an accepted sensing gives
-- each state the box of the next state, and all else stays as it was tested
abbrev pub box_after : Counts → Kind → Reply → List Ends → Var → Option Ends
box_after c Init r boxes v = box_at c boxes v
box_after c Choice (reply.Act words len fallback) boxes (Control i) = Some (word_at words i)
box_after c Choice r boxes v = box_at c boxes v
box_after c Sense reply.Ok boxes (State i) = box_at c boxes (NextState i)
box_after c Sense r boxes v = box_at c boxes v
