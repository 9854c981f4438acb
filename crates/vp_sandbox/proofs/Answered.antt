-- The box of each variable where a record is tested and behind the reply, and boxes that stay valid.
use Rattle.std.proofs.Common.{◌≡◌, refl, sym, ◌∙◌, ap, subst, ℕ, suc, ◌+◌, ◌-◌, ◌*◌, ◌<◌, ◌≤◌, Bool, true, false, nat_lt, IsTrue, ℤ, pos, List, [], ◌∷◌, length, map, take, drop, replicate, Option, None, Some, arith}
use Rattle.std.specs.List.{slice_get}
use Rattle.std.specs.Ordering.{int_eq}
use Rattle.std.proofs.Math.ListN.{get_or-append}
use Rattle.std.proofs.lemmas.List.{length-map, length-drop, length-take}
use Rattle.vp_words.specs.declared.record.Counts.{Counts}
use Rattle.vp_words.specs.declared.record.Due.{Due}
use Rattle.vp_words.specs.declared.record.Due.TheVariants as due
use Rattle.vp_words.specs.declared.record.Kind.{Kind}
use Rattle.vp_words.specs.declared.record.Kind.TheVariants.{Init, Choice, Sense}
use Rattle.vp_words.specs.Record.{IsValid, field_count, kind_due, padded, place_count}
use Rattle.vp_terms.specs.Places.{has_variable}
use Rattle.vp_terms.specs.declared.expr.Var.{Var}
use Rattle.vp_terms.specs.declared.expr.Var.TheVariants.{Param, State, Control, NextState, NextControl, Tau}
use Rattle.vp_terms.proofs.Standing.{below}
use Rattle.vp_poly.specs.Places.{places_for}
use Rattle.vp_logic.specs.Tree.{tree}
use Rattle.vp_interval.specs.declared.truth.Truth.{Truth}
use Rattle.vp_interval.specs.declared.truth.Truth.TheVariants.{No, Maybe, Yes}
use Rattle.vp_interval.specs.Formula.{truth, truths, first_from}
use Rattle.vp_interval.specs.Polynomial.{interval_of}
use Rattle.vp_interval.specs.Rounding.{Ends, point}
use Rattle.vp_sandbox.specs.declared.sandbox.Sandbox.{Sandbox}
use Rattle.vp_sandbox.specs.Answer.{acted, answered, choice_verdict, fallback_verdict, init_verdict, sense_verdict}
use Rattle.vp_sandbox.specs.Boxes.{boxes_of, box_at, box_tested, box_after, first_state, first_control, first_next_state, first_next_control, pair_at, placed, point_words, tau_place, tested, word_at}
use Rattle.vp_sandbox.proofs.Boxed.{placed_length, found_here, kept_low, kept_high, boxes_size, boxes_pair, boxes_word, points_word, pair_behind, pair_front}

-- ---- where a record is tested

module _ (c : Counts) (boxes : List Ends) (counts : IsValid c) (size : length boxes ≡ 32) where
  tested_init : (words : List ℤ) → length words ≡ 2 * c.params + 2 * c.states + c.controls → (v : Var) → IsTrue (has_variable (places_for c) v) → box_at c (tested c Init words boxes) v ≡ box_tested c Init words boxes v
  tested_init words e (Param i) h =
      let b = below i c.params h in
      let s = boxes_size (c.params + c.states) words (omega arith) in
      found_here 0 (boxes_of (c.params + c.states) words) boxes i i (pair_at words i) (omega arith) (omega arith) (omega (arith, counts.2)) (boxes_pair (c.params + c.states) words i (pair_at words i) (omega arith) (omega arith))
  tested_init words e (State i) h =
      let b = below i c.states h in
      let s = boxes_size (c.params + c.states) words (omega arith) in
      let v = pair_at words (c.params + i) in
      found_here 0 (boxes_of (c.params + c.states) words) boxes (c.params + i) (c.params + i) v (omega arith) (omega arith) (omega (arith, counts.2)) (boxes_pair (c.params + c.states) words (c.params + i) v (omega arith) (omega arith))
  tested_init words e (Control i) h =
      let b = below i c.controls h in
      let s = boxes_size (c.params + c.states) words (omega arith) in
      let v = word_at words (2 * (c.params + c.states) + i) in
      found_here 0 (boxes_of (c.params + c.states) words) boxes (c.params + c.states + i) (c.params + c.states + i) v (omega arith) (omega arith) (omega (arith, counts.2)) (boxes_word (c.params + c.states) words i v (omega arith))
  tested_init words e (NextState i) h =
      let b = below i c.states h in
      let s = boxes_size (c.params + c.states) words (omega arith) in
      kept_high 0 (boxes_of (c.params + c.states) words) boxes (c.params + c.states + c.controls + i) (omega (arith, counts.2)) (omega arith)
  tested_init words e (NextControl i) h =
      let b = below i c.controls h in
      let s = boxes_size (c.params + c.states) words (omega arith) in
      kept_high 0 (boxes_of (c.params + c.states) words) boxes (c.params + 2 * c.states + c.controls + i) (omega (arith, counts.2)) (omega arith)
  tested_init words e Tau h =
      let s = boxes_size (c.params + c.states) words (omega arith) in
      kept_high 0 (boxes_of (c.params + c.states) words) boxes (c.params + 2 * c.states + 2 * c.controls) (omega (arith, counts.2)) (omega arith)

  tested_choice : (words : List ℤ) → length words ≡ c.controls → (v : Var) → IsTrue (has_variable (places_for c) v) → box_at c (tested c Choice words boxes) v ≡ box_tested c Choice words boxes v
  tested_choice words e (Param i) h = let b = below i c.params h in kept_low (first_next_control c) (map point words) boxes i (omega (arith, counts.2)) (omega arith)
  tested_choice words e (State i) h = let b = below i c.states h in kept_low (first_next_control c) (map point words) boxes (c.params + i) (omega (arith, counts.2)) (omega arith)
  tested_choice words e (Control i) h = let b = below i c.controls h in kept_low (first_next_control c) (map point words) boxes (c.params + c.states + i) (omega (arith, counts.2)) (omega arith)
  tested_choice words e (NextState i) h = let b = below i c.states h in kept_low (first_next_control c) (map point words) boxes (c.params + c.states + c.controls + i) (omega (arith, counts.2)) (omega arith)
  tested_choice words e (NextControl i) h =
      let b = below i c.controls h in
      let n = length-map words point in
      found_here (first_next_control c) (map point words) boxes (c.params + 2 * c.states + c.controls + i) i (word_at words i) refl (omega arith) (omega (arith, counts.2)) (points_word words i (word_at words i) (omega arith))
  tested_choice words e Tau h =
      let n = length-map words point in
      kept_high (first_next_control c) (map point words) boxes (c.params + 2 * c.states + 2 * c.controls) (omega (arith, counts.2)) (omega arith)

  timed : List ℤ → List Ends
  timed words = placed (tau_place c) (boxes_of 1 (take 2 words)) boxes

  -- the time's place is behind all others
  before_time : (words : List ℤ) (k : ℕ) → k < tau_place c → slice_get (timed words) k ≡ slice_get boxes k
  unfolding timed
  before_time words k l = kept_low (tau_place c) (boxes_of 1 (take 2 words)) boxes k (omega (arith, counts.2)) l

  timed_size : (words : List ℤ) → length (timed words) ≡ 32
  unfolding timed
  timed_size words = placed_length (tau_place c) (boxes_of 1 (take 2 words)) boxes ∙ size

  sensed_size : (words : List ℤ) → length words ≡ 2 + 2 * c.states → length (boxes_of c.states (drop 2 words)) ≡ c.states
  sensed_size words e = let d = length-drop 2 words in omega (arith, boxes_size c.states (drop 2 words) (omega arith))

  sensed_low : (words : List ℤ) (k : ℕ) → k < first_next_state c → slice_get (placed (first_next_state c) (boxes_of c.states (drop 2 words)) (timed words)) k ≡ slice_get boxes k
  sensed_low words k l =
      let t = timed_size words in
      kept_low (first_next_state c) (boxes_of c.states (drop 2 words)) (timed words) k (omega (arith, counts.2)) l ∙ before_time words k (omega arith)

  tested_sense : (words : List ℤ) → length words ≡ 2 + 2 * c.states → (v : Var) → IsTrue (has_variable (places_for c) v) → box_at c (tested c Sense words boxes) v ≡ box_tested c Sense words boxes v
  unfolding timed
  tested_sense words e (Param i) h = let b = below i c.params h in sensed_low words i (omega arith)
  tested_sense words e (State i) h = let b = below i c.states h in sensed_low words (c.params + i) (omega arith)
  tested_sense words e (Control i) h = let b = below i c.controls h in sensed_low words (c.params + c.states + i) (omega arith)
  tested_sense words e (NextState i) h =
      let b = below i c.states h in
      let t = timed_size words in
      let s = sensed_size words e in
      let d = length-drop 2 words in
      let v = pair_at words (suc i) in
      found_here (first_next_state c) (boxes_of c.states (drop 2 words)) (timed words) (c.params + c.states + c.controls + i) i v refl (omega arith) (omega (arith, counts.2)) (boxes_pair c.states (drop 2 words) i v b (omega arith) ∙ pair_behind words i)
  tested_sense words e (NextControl i) h =
      let b = below i c.controls h in
      let t = timed_size words in
      let s = sensed_size words e in
      let k = c.params + 2 * c.states + c.controls + i in
      kept_high (first_next_state c) (boxes_of c.states (drop 2 words)) (timed words) k (omega (arith, counts.2)) (omega arith) ∙ before_time words k (omega arith)
  tested_sense words e Tau h =
      let t = timed_size words in
      let s = sensed_size words e in
      let k = c.params + 2 * c.states + 2 * c.controls in
      let n = length-take 2 words in
      let f = boxes_size 1 (take 2 words) (omega arith) in
      kept_high (first_next_state c) (boxes_of c.states (drop 2 words)) (timed words) k (omega (arith, counts.2)) (omega arith)
      ∙ found_here (tau_place c) (boxes_of 1 (take 2 words)) boxes k 0 (pair_at words 0) (omega arith) (omega arith) (omega (arith, counts.2)) (boxes_pair 1 (take 2 words) 0 (pair_at words 0) (omega arith) (omega arith) ∙ pair_front words)

  pub tested_boxes : (k : Kind) (words : List ℤ) → length words ≡ field_count k c → (v : Var) → IsTrue (has_variable (places_for c) v) → box_at c (tested c k words boxes) v ≡ box_tested c k words boxes v
  tested_boxes Init words e v h = tested_init words e v h
  tested_boxes Choice words e v h = tested_choice words e v h
  tested_boxes Sense words e v h = tested_sense words e v h

  pub tested_others : (k : Kind) (words : List ℤ) → length words ≡ field_count k c → (j : ℕ) → place_count c ≤ j → j < 32 → slice_get (tested c k words boxes) j ≡ slice_get boxes j
  unfolding timed
  tested_others Init words e j h l =
      let s = boxes_size (c.params + c.states) words (omega arith) in
      kept_high 0 (boxes_of (c.params + c.states) words) boxes j (omega arith) (omega arith)
  tested_others Choice words e j h l = let n = length-map words point in kept_high (first_next_control c) (map point words) boxes j (omega arith) (omega arith)
  tested_others Sense words e j h l =
      let t = timed_size words in
      let s = sensed_size words e in
      let n = length-take 2 words in
      let f = boxes_size 1 (take 2 words) (omega arith) in
      let timed_part : slice_get (timed words) j ≡ slice_get boxes j = kept_high (tau_place c) (boxes_of 1 (take 2 words)) boxes j (omega arith) (omega arith) in
      kept_high (first_next_state c) (boxes_of c.states (drop 2 words)) (timed words) j (omega arith) (omega arith) ∙ timed_part

pub tested_length : (c : Counts) (k : Kind) (words : List ℤ) (boxes : List Ends) → length (tested c k words boxes) ≡ length boxes
tested_length c Init words boxes = placed_length 0 (boxes_of (c.params + c.states) words) boxes
tested_length c Choice words boxes = placed_length (first_next_control c) (map point words) boxes
tested_length c Sense words boxes =
    placed_length (first_next_state c) (boxes_of c.states (drop 2 words)) (placed (tau_place c) (boxes_of 1 (take 2 words)) boxes)
    ∙ placed_length (tau_place c) (boxes_of 1 (take 2 words)) boxes

-- ---- behind the reply

words_count : (vs : List Ends) (ws : List ℤ) → point_words vs ≡ Some ws → length ws ≡ length vs
words_count [] ws e = let s : [] ≡ ws = cc in ap length (sym s)
words_count (v ∷ vs) ws e = case (words_count vs) (int_eq v.lo v.hi) refl (point_words vs) refl
  where
    case : ((us : List ℤ) → point_words vs ≡ Some us → length us ≡ length vs) → (b : Bool) → int_eq v.lo v.hi ≡ b → (o : Option (List ℤ)) → point_words vs ≡ o → length ws ≡ suc (length vs)
    case more true t (Some us) f =
        let g : Some (v.lo ∷ us) ≡ Some ws = sym (rw (t, f) refl) ∙ e in
        let s : v.lo ∷ us ≡ ws = cc in
        let m = more us f in
        let n = ap length s in
        omega arith
    case more true t None f = absurd (let g : None ≡ Some ws = sym (rw (t, f) refl) ∙ e in cc)
    case more false t o f = absurd (let g : None ≡ Some ws = sym (rw t refl) ∙ e in cc)

module _ (s : Sandbox) (counts : IsValid s.counts) (now : List Ends) (size : length now ≡ 32) where
  acted_boxes : (ws : List ℤ) (fallback : Bool) → length ws ≡ s.counts.controls → (v : Var) → IsTrue (has_variable (places_for s.counts) v) → box_at s.counts (acted s now ws fallback).next.boxes v ≡ box_after s.counts Choice (acted s now ws fallback).reply now v
  acted_boxes ws f e (Param i) h = let b = below i s.counts.params h in kept_low (first_control s.counts) (map point ws) now i (omega (arith, counts.2)) (omega arith)
  acted_boxes ws f e (State i) h = let b = below i s.counts.states h in kept_low (first_control s.counts) (map point ws) now (s.counts.params + i) (omega (arith, counts.2)) (omega arith)
  acted_boxes ws f e (Control i) h =
      let b = below i s.counts.controls h in
      let n = length-map ws point in
      found_here (first_control s.counts) (map point ws) now (s.counts.params + s.counts.states + i) i (word_at (padded 16 ws) i) refl (omega arith) (omega (arith, counts.2))
      (points_word ws i (word_at (padded 16 ws) i) (omega arith) ∙ ap point (sym (get_or-append ws (replicate (16 - length ws) (pos 0)) (pos 0) i (omega arith))))
  acted_boxes ws f e (NextState i) h =
      let b = below i s.counts.states h in
      let n = length-map ws point in
      kept_high (first_control s.counts) (map point ws) now (s.counts.params + s.counts.states + s.counts.controls + i) (omega (arith, counts.2)) (omega arith)
  acted_boxes ws f e (NextControl i) h =
      let b = below i s.counts.controls h in
      let n = length-map ws point in
      kept_high (first_control s.counts) (map point ws) now (s.counts.params + 2 * s.counts.states + s.counts.controls + i) (omega (arith, counts.2)) (omega arith)
  acted_boxes ws f e Tau h =
      let n = length-map ws point in
      kept_high (first_control s.counts) (map point ws) now (s.counts.params + 2 * s.counts.states + 2 * s.counts.controls) (omega (arith, counts.2)) (omega arith)

  fallback_boxes : (o : Option (List ℤ)) → ((ws : List ℤ) → o ≡ Some ws → length ws ≡ s.counts.controls) → (v : Var) → IsTrue (has_variable (places_for s.counts) v) → box_at s.counts (fallback_verdict s now o).next.boxes v ≡ box_after s.counts Choice (fallback_verdict s now o).reply now v
  fallback_boxes None e v h = refl
  fallback_boxes (Some ws) e v h = acted_boxes ws true (e ws refl) v h

  choice_boxes : (old : List Ends) (words : List ℤ) (t : Truth) → length words ≡ s.counts.controls → length s.fallback ≡ s.counts.controls → (v : Var) → IsTrue (has_variable (places_for s.counts) v) →
      box_at s.counts (choice_verdict s old now words t).next.boxes v ≡ box_after s.counts Choice (choice_verdict s old now words t).reply now v
  choice_boxes old words Yes e n v h = acted_boxes words false e v h
  choice_boxes old words No e n v h = fallback_boxes (point_words (map (interval_of old) s.fallback)) (λ ws f. words_count (map (interval_of old) s.fallback) ws f ∙ length-map s.fallback (interval_of old) ∙ n) v h
  choice_boxes old words Maybe e n v h = fallback_boxes (point_words (map (interval_of old) s.fallback)) (λ ws f. words_count (map (interval_of old) s.fallback) ws f ∙ length-map s.fallback (interval_of old) ∙ n) v h

  sense_boxes : (words : List ℤ) (o : Option (ℕ × Truth)) → length words ≡ 2 + 2 * s.counts.states → ((i : ℕ) → i < s.counts.states → box_at s.counts now (NextState i) ≡ Some (pair_at words (suc i))) → (v : Var) → IsTrue (has_variable (places_for s.counts) v) →
      box_at s.counts (sense_verdict s now (drop 2 words) o).next.boxes v ≡ box_after s.counts Sense (sense_verdict s now (drop 2 words) o).reply now v
  sense_boxes words (Some r) e g v h = refl
  sense_boxes words None e g (Param i) h = let b = below i s.counts.params h in kept_low (first_state s.counts) (boxes_of s.counts.states (drop 2 words)) now i (omega (arith, counts.2)) (omega arith)
  sense_boxes words None e g (State i) h =
      let b = below i s.counts.states h in
      let d = length-drop 2 words in
      let n = boxes_size s.counts.states (drop 2 words) (omega arith) in
      let v = pair_at words (suc i) in
      found_here (first_state s.counts) (boxes_of s.counts.states (drop 2 words)) now (s.counts.params + i) i v refl (omega arith) (omega (arith, counts.2)) (boxes_pair s.counts.states (drop 2 words) i v b (omega arith) ∙ pair_behind words i)
      ∙ sym (g i b)
  sense_boxes words None e g (Control i) h =
      let b = below i s.counts.controls h in
      let d = length-drop 2 words in
      let n = boxes_size s.counts.states (drop 2 words) (omega arith) in
      kept_high (first_state s.counts) (boxes_of s.counts.states (drop 2 words)) now (s.counts.params + s.counts.states + i) (omega (arith, counts.2)) (omega arith)
  sense_boxes words None e g (NextState i) h =
      let b = below i s.counts.states h in
      let d = length-drop 2 words in
      let n = boxes_size s.counts.states (drop 2 words) (omega arith) in
      kept_high (first_state s.counts) (boxes_of s.counts.states (drop 2 words)) now (s.counts.params + s.counts.states + s.counts.controls + i) (omega (arith, counts.2)) (omega arith)
  sense_boxes words None e g (NextControl i) h =
      let b = below i s.counts.controls h in
      let d = length-drop 2 words in
      let n = boxes_size s.counts.states (drop 2 words) (omega arith) in
      kept_high (first_state s.counts) (boxes_of s.counts.states (drop 2 words)) now (s.counts.params + 2 * s.counts.states + s.counts.controls + i) (omega (arith, counts.2)) (omega arith)
  sense_boxes words None e g Tau h =
      let d = length-drop 2 words in
      let n = boxes_size s.counts.states (drop 2 words) (omega arith) in
      kept_high (first_state s.counts) (boxes_of s.counts.states (drop 2 words)) now (s.counts.params + 2 * s.counts.states + 2 * s.counts.controls) (omega (arith, counts.2)) (omega arith)

  init_boxes : (o : Option (ℕ × Truth)) (v : Var) → box_at s.counts (init_verdict now o).next.boxes v ≡ box_after s.counts Init (init_verdict now o).reply now v
  init_boxes None v = refl
  init_boxes (Some r) v = refl

is_below : (a b : ℕ) → a < b → IsTrue (nat_lt a b)
is_below a b l = grind arith

-- the box of each variable behind the reply
abbrev pub StandsAfter : Sandbox → Due → List Ends → List ℤ → Var → Kind → Type 0
StandsAfter s d boxes words v k =
    length words ≡ field_count k s.counts → box_at s.counts (answered s (record { boxes = boxes; due = d }) words).next.boxes v ≡ box_after s.counts k (answered s (record { boxes = boxes; due = d }) words).reply (tested s.counts k words boxes) v

module _ (s : Sandbox) (counts : IsValid s.counts) (few : length s.fallback ≡ s.counts.controls) (boxes : List Ends) (size : length boxes ≡ 32) (words : List ℤ) (v : Var) (h : IsTrue (has_variable (places_for s.counts) v)) where
  after_init : StandsAfter s due.Init boxes words v Init
  after_init e =
      let now = tested s.counts Init words boxes in
      init_boxes s counts now (tested_length s.counts Init words boxes ∙ size) (first_from 1 (truths now (map tree s.init))) v

  after_choice : StandsAfter s due.Choice boxes words v Choice
  after_choice e =
      let now = tested s.counts Choice words boxes in
      choice_boxes s counts now (tested_length s.counts Choice words boxes ∙ size) boxes words (truth now (tree s.ctrl)) e few v h

  after_sense : StandsAfter s due.Sense boxes words v Sense
  after_sense e =
      let now = tested s.counts Sense words boxes in
      sense_boxes s counts now (tested_length s.counts Sense words boxes ∙ size) words (first_from 1 (truths now (map tree s.plant))) e
      (λ i l. tested_boxes s.counts boxes counts size Sense words e (NextState i) (is_below i s.counts.states l)) v h

  pub after_boxes : (d : Due) (k : Kind) → kind_due d ≡ Some k → StandsAfter s d boxes words v k
  after_boxes due.Init k e = let same : Init ≡ k = cc in subst (StandsAfter s due.Init boxes words v) same after_init
  after_boxes due.Choice k e = let same : Choice ≡ k = cc in subst (StandsAfter s due.Choice boxes words v) same after_choice
  after_boxes due.Sense k e = let same : Sense ≡ k = cc in subst (StandsAfter s due.Sense boxes words v) same after_sense
  after_boxes due.Ended k e = absurd (cc)
