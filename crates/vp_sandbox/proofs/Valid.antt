-- The boxes of valid records are valid, and stay so behind each reply.
use Rattle.std.proofs.Common.{◌≡◌, ◌⊎◌, inl, inr, refl, sym, ◌∙◌, ap, subst, ℕ, suc, ◌+◌, Bool, true, false, IsTrue, ℤ, pos, List, [], ◌∷◌, length, map, take, drop, Option, None, Some, arith}
use Rattle.std.specs.List.{All}
use Rattle.std.specs.Option.{option_map}
use Rattle.std.specs.Ordering.{int_eq}
use Rattle.std.proofs.lemmas.Int.{ints}
use Rattle.std.proofs.lemmas.List.Elements.{All-nil, All-cons, All-replicate}
use Rattle.vp_words.specs.declared.record.Counts.{Counts}
use Rattle.vp_words.specs.declared.record.Due.{Due}
use Rattle.vp_words.specs.declared.record.Due.TheVariants as due
use Rattle.vp_words.specs.declared.record.Kind.{Kind}
use Rattle.vp_words.specs.declared.record.Kind.TheVariants.{Init, Choice, Sense}
use Rattle.vp_words.specs.Exchanges.{IsRecordOf, IsDueRecord, AreDue, state_after}
use Rattle.vp_words.specs.Record.{pairs_then_finite}
use Rattle.vp_poly.specs.declared.mono.Term.{Term}
use Rattle.vp_logic.specs.Tree.{tree}
use Rattle.vp_interval.specs.declared.truth.Truth.{Truth}
use Rattle.vp_interval.specs.declared.truth.Truth.TheVariants.{No, Maybe, Yes}
use Rattle.vp_interval.specs.Formula.{truth, truths, first_from}
use Rattle.vp_interval.specs.Polynomial.{interval_of}
use Rattle.vp_interval.specs.Represents.{AreValid}
use Rattle.vp_interval.specs.Rounding.{Ends, IsValid, point}
use Rattle.vp_interval.proofs.Fitting.{all_places, small_norm}
use Rattle.vp_interval.proofs.Points.{valid_point, finite_point}
use Rattle.vp_interval.proofs.Witnesses.{valid_polynomial}
use Rattle.vp_sandbox.specs.declared.sandbox.Sandbox.{Sandbox}
use Rattle.vp_sandbox.specs.Answer.{answered, choice_verdict, fallback_verdict, init_verdict, sense_verdict, sandbox_of, start}
use Rattle.vp_sandbox.specs.Boxes.{boxes_of, first_control, first_next_control, first_next_state, first_state, placed, point_words, tau_place, tested}
use Rattle.vp_sandbox.specs.Fits.{Fits, PolysFit, in_init}
use Rattle.vp_sandbox.specs.Sandbox.{State}
use Rattle.vp_sandbox.proofs.Boxed.{placed_length, is_valid, placed_all, points_valid, boxes_valid, sensed_all}
use Rattle.vp_sandbox.proofs.Answered.{tested_length}

-- ---- the boxes that a record is tested over

sensed_valid : (n : ℕ) (words : List ℤ) → IsTrue (pairs_then_finite (1 + n) words) → IsTrue (pairs_then_finite (suc n) words)
sensed_valid n words h = let e : 1 + n ≡ suc n = omega arith in subst (λ (m : ℕ). IsTrue (pairs_then_finite m words)) e h

pub tested_valid : (c : Counts) (k : Kind) (words : List ℤ) (boxes : List Ends) → IsRecordOf c k words → AreValid boxes → AreValid (tested c k words boxes)
tested_valid c Init words boxes h b = placed_all is_valid 0 (boxes_of (c.params + c.states) words) boxes (boxes_valid (c.params + c.states) words h.words h.valid) b
tested_valid c Choice words boxes h b = placed_all is_valid (first_next_control c) (map point words) boxes (points_valid words h.valid) b
tested_valid c Sense words boxes h b =
    let p = sensed_all is_valid c.states words (boxes_valid (suc c.states) words h.words (sensed_valid c.states words h.valid)) in
    placed_all is_valid (first_next_state c) (boxes_of c.states (drop 2 words)) (placed (tau_place c) (boxes_of 1 (take 2 words)) boxes) p.1
    (placed_all is_valid (tau_place c) (boxes_of 1 (take 2 words)) boxes p.0 b)

-- ---- the fallback's words

same_or_not : (a b : ℤ) → (a ≡ b) ⊎ (int_eq a b ≡ false)
same_or_not a b = grind (arith, ints)

same_ends : (a b : ℤ) → a ≡ b → int_eq a b ≡ true
same_ends a b e = grind (arith, ints)

words_apart : (v : Ends) (vs : List Ends) → int_eq v.lo v.hi ≡ false → point_words (v ∷ vs) ≡ None
words_apart v vs e = rw e refl

words_joined : (v : Ends) (vs : List Ends) (o : Option (List ℤ)) → v.lo ≡ v.hi → point_words vs ≡ o → point_words (v ∷ vs) ≡ option_map (λ (us : List ℤ). v.lo ∷ us) o
words_joined v vs o e f = rw (same_ends v.lo v.hi e) (ap (option_map (λ (us : List ℤ). v.lo ∷ us)) f)

words_with : (v : Ends) (ws : List ℤ) (o : Option (List ℤ)) → IsValid v.lo v.hi → v.lo ≡ v.hi → ((us : List ℤ) → o ≡ Some us → All is_valid (map point us)) → option_map (λ (us : List ℤ). v.lo ∷ us) o ≡ Some ws → All is_valid (map point ws)
words_with v ws None h e more f = absurd (cc)
words_with v ws (Some us) h e more f =
    let s : v.lo ∷ us ≡ ws = cc in
    subst (λ (l : List ℤ). All is_valid (map point l)) s (All-cons is_valid (point v.lo) (map point us) (valid_point v.lo (finite_point v h e)) (more us refl))

words_more : (v : Ends) (vs : List Ends) (ws : List ℤ) → IsValid v.lo v.hi → ((us : List ℤ) → point_words vs ≡ Some us → All is_valid (map point us)) → point_words (v ∷ vs) ≡ Some ws → All is_valid (map point ws)
words_more v vs ws h more f =
    elim (same_or_not v.lo v.hi) [
      | inl e ↦ words_with v ws (point_words vs) h e more (sym (words_joined v vs (point_words vs) e refl) ∙ f)
      | inr e ↦ let g = words_apart v vs e in absurd (cc)
    ]

words_valid : (old : List Ends) (allowed : ℕ → Bool) (ps : List (List Term)) (ws : List ℤ) → length old ≡ 32 → AreValid old → PolysFit allowed ps → point_words (map (interval_of old) ps) ≡ Some ws → All is_valid (map point ws)
words_valid old allowed [] ws size valid fits e = let s : [] ≡ ws = cc in subst (λ (l : List ℤ). All is_valid (map point l)) s (All-nil is_valid)
words_valid old allowed (p ∷ ps) ws size valid fits e =
    words_more (interval_of old p) (map (interval_of old) ps) ws (valid_polynomial old p valid (rw size (all_places p fits.0.poly)) (small_norm p fits.0.small))
    (λ us f. words_valid old allowed ps us size valid fits.1 f) e

-- ---- behind the reply

module _ (s : Sandbox) where
  init_next : (now : List Ends) (o : Option (ℕ × Truth)) → AreValid now → AreValid (init_verdict now o).next.boxes
  init_next now None h = h
  init_next now (Some r) h = h

  sense_next : (now : List Ends) (words : List ℤ) (o : Option (ℕ × Truth)) → AreValid now → AreValid (boxes_of s.counts.states words) → AreValid (sense_verdict s now words o).next.boxes
  sense_next now words None h v = placed_all is_valid (first_state s.counts) (boxes_of s.counts.states words) now v h
  sense_next now words (Some r) h v = h

  fallback_next : (now : List Ends) (o : Option (List ℤ)) → AreValid now → ((ws : List ℤ) → o ≡ Some ws → All is_valid (map point ws)) → AreValid (fallback_verdict s now o).next.boxes
  fallback_next now None h v = h
  fallback_next now (Some ws) h v = placed_all is_valid (first_control s.counts) (map point ws) now (v ws refl) h

  choice_next : (old now : List Ends) (words : List ℤ) (t : Truth) → AreValid now → All is_valid (map point words)
      → ((ws : List ℤ) → point_words (map (interval_of old) s.fallback) ≡ Some ws → All is_valid (map point ws)) → AreValid (choice_verdict s old now words t).next.boxes
  choice_next old now words Yes h v f = placed_all is_valid (first_control s.counts) (map point words) now v h
  choice_next old now words No h v f = fallback_next now (point_words (map (interval_of old) s.fallback)) h f
  choice_next old now words Maybe h v f = fallback_next now (point_words (map (interval_of old) s.fallback)) h f

  next_valid : Fits s → (d : Due) (boxes : List Ends) (words : List ℤ) → length boxes ≡ 32 → AreValid boxes → IsDueRecord (sandbox_of s) (record { boxes = boxes; due = d }) words → AreValid (answered s (record { boxes = boxes; due = d }) words).next.boxes
  next_valid fits due.Init boxes words size b h =
      let now = tested s.counts Init words boxes in
      init_next now (first_from 1 (truths now (map tree s.init))) (tested_valid s.counts Init words boxes h b)
  next_valid fits due.Choice boxes words size b h =
      let now = tested s.counts Choice words boxes in
      choice_next boxes now words (truth now (tree s.ctrl)) (tested_valid s.counts Choice words boxes h b) (points_valid words h.valid)
      (λ ws e. words_valid boxes (in_init s.counts) s.fallback ws size b fits.fallback e)
  next_valid fits due.Sense boxes words size b h =
      let now = tested s.counts Sense words boxes in
      sense_next now (drop 2 words) (first_from 1 (truths now (map tree s.plant))) (tested_valid s.counts Sense words boxes h b)
      (sensed_all is_valid s.counts.states words (boxes_valid (suc s.counts.states) words h.words (sensed_valid s.counts.states words h.valid))).1
  next_valid fits due.Ended boxes words size b h = b

  next_length : (d : Due) (boxes : List Ends) (words : List ℤ) → length (answered s (record { boxes = boxes; due = d }) words).next.boxes ≡ length boxes
  next_length due.Init boxes words = go (first_from 1 (truths (tested s.counts Init words boxes) (map tree s.init)))
    where
      go : (o : Option (ℕ × Truth)) → length (init_verdict (tested s.counts Init words boxes) o).next.boxes ≡ length boxes
      go None = tested_length s.counts Init words boxes
      go (Some r) = tested_length s.counts Init words boxes
  next_length due.Choice boxes words = go (truth (tested s.counts Choice words boxes) (tree s.ctrl))
    where
      back : (o : Option (List ℤ)) → length (fallback_verdict s (tested s.counts Choice words boxes) o).next.boxes ≡ length boxes
      back None = tested_length s.counts Choice words boxes
      back (Some ws) = placed_length (first_control s.counts) (map point ws) (tested s.counts Choice words boxes) ∙ tested_length s.counts Choice words boxes

      go : (t : Truth) → length (choice_verdict s boxes (tested s.counts Choice words boxes) words t).next.boxes ≡ length boxes
      go Yes = placed_length (first_control s.counts) (map point words) (tested s.counts Choice words boxes) ∙ tested_length s.counts Choice words boxes
      go No = back (point_words (map (interval_of boxes) s.fallback))
      go Maybe = back (point_words (map (interval_of boxes) s.fallback))
  next_length due.Sense boxes words = go (first_from 1 (truths (tested s.counts Sense words boxes) (map tree s.plant)))
    where
      go : (o : Option (ℕ × Truth)) → length (sense_verdict s (tested s.counts Sense words boxes) (drop 2 words) o).next.boxes ≡ length boxes
      go None = placed_length (first_state s.counts) (boxes_of s.counts.states (drop 2 words)) (tested s.counts Sense words boxes) ∙ tested_length s.counts Sense words boxes
      go (Some r) = tested_length s.counts Sense words boxes
  next_length due.Ended boxes words = refl

  pub state_next_valid : Fits s → (st : State) (words : List ℤ) → length st.boxes ≡ 32 → AreValid st.boxes → IsDueRecord (sandbox_of s) st words → AreValid (answered s st words).next.boxes
  state_next_valid fits st words size b h = next_valid fits st.due st.boxes words size b h

  pub state_next_length : (st : State) (words : List ℤ) → length (answered s st words).next.boxes ≡ length st.boxes
  state_next_length st words = next_length st.due st.boxes words

  pub valid_after : Fits s → (st : State) (rs : List (List ℤ)) → length st.boxes ≡ 32 → AreValid st.boxes → AreDue (sandbox_of s) st rs → (length (state_after (sandbox_of s) st rs).boxes ≡ 32) × AreValid (state_after (sandbox_of s) st rs).boxes
  valid_after fits st [] size b h = (size, b)
  valid_after fits st (r ∷ rs) size b h =
      valid_after fits (answered s st r).next rs (state_next_length st r ∙ size) (state_next_valid fits st r size b h.0) h.1

  pub always_valid : Fits s → (rs : List (List ℤ)) → AreDue (sandbox_of s) start rs → (length (state_after (sandbox_of s) start rs).boxes ≡ 32) × AreValid (state_after (sandbox_of s) start rs).boxes
  always_valid fits rs h = valid_after fits start rs refl (All-replicate is_valid 32 (point (pos 0)) (valid_point (pos 0) (omega (arith, ints), omega (arith, ints)))) h
