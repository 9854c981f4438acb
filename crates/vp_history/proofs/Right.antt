-- What a sandbox reports isn't Yes over the boxes of its record.
use Rattle.std.proofs.Common.{◌≡◌, ◌≢◌, ℕ, zero, suc, ◌-◌, false, List, [], ◌∷◌, length, map, drop, Option, None, Some, refl, sym, ap, ◌∙◌, subst}
use Rattle.std.specs.Prelude.{ℤ, slice_get}
use Rattle.std.specs.Option.{option_map}
use Rattle.std.proofs.lemmas.Option.{slice_get-map}
use Rattle.vp_words.specs.declared.record.Due.{Due}
use Rattle.vp_words.specs.declared.record.Due.TheVariants as due
use Rattle.vp_words.specs.declared.record.Kind.TheVariants as kind
use Rattle.vp_words.specs.Exchanges.{AreDue}
use Rattle.vp_logic.specs.Tree.{Tree, tree}
use Rattle.vp_logic.specs.Truth.{tree_holds}
use Rattle.vp_interval.specs.declared.truth.Truth.{Truth}
use Rattle.vp_interval.specs.declared.truth.Truth.TheVariants.{No, Maybe, Yes}
use Rattle.vp_interval.specs.Formula.{FormFits, IsFirst, PartsFit, first_from, truth, truths}
use Rattle.vp_interval.specs.Polynomial.{interval_of}
use Rattle.vp_interval.specs.Represents.{AreValid}
use Rattle.vp_interval.specs.Rounding.{Ends}
use Rattle.vp_sandbox.specs.declared.sandbox.Sandbox.{Sandbox}
use Rattle.vp_sandbox.specs.Answer.{answered, choice_verdict, fallback_verdict, init_verdict, is_unknown, sandbox_of, sense_verdict, start}
use Rattle.vp_sandbox.specs.Boxes.{point_words, tested}
use Rattle.vp_sandbox.specs.Fits.{Fits}
use Rattle.vp_sandbox.specs.Sandbox.{State}
use Rattle.vp_history.specs.Reports.{AreRight, IsNamed, IsRight, told}
use Rattle.vp_history.proofs.Known.{KeepsValid, MayBeTested, Truthful}
use Rattle.vp_history.proofs.Telling.{told_no}

told_is : (t : Truth) → t ≢ Yes → told (is_unknown t) ≡ t
told_is No h = refl
told_is Maybe h = refl
told_is Yes h = absurd (h refl)

told_false : (t : Truth) → t ≢ Yes → is_unknown t ≡ false → t ≡ No
told_false No h e = refl
told_false Maybe h e = absurd cc
told_false Yes h e = absurd (h refl)

fits_at : (n : ℕ) (ts : List Tree) (i : ℕ) (t : Tree) → PartsFit n ts → slice_get ts i ≡ Some t → FormFits n t
fits_at n [] i t h e = absurd cc
fits_at n (x ∷ ts) zero t h e = let q : x ≡ t = cc in subst (FormFits n) q h.0
fits_at n (x ∷ ts) (suc i) t h e = fits_at n ts i t h.1 e

-- the conjunct that is named
named : Truthful → (boxes : List Ends) (conjuncts : List Tree) (k : ℕ) (t : Truth) → AreValid boxes → PartsFit (length boxes) conjuncts → first_from 1 (truths boxes conjuncts) ≡ Some (k, t) → IsNamed conjuncts boxes k (is_unknown t)
named known boxes conjuncts k t valid fits e =
    let f : IsFirst (truths boxes conjuncts) k t = known.some (truths boxes conjuncts) k t e in
    record {
      first = subst (IsFirst (truths boxes conjuncts) k) (sym (told_is t f.not_yes)) f;
      fails = λ u c z g held.
          let n : t ≡ No = told_false t f.not_yes u in
          let v : Some (truth boxes c) ≡ Some t = ap (option_map (truth boxes)) (sym g) ∙ sym (slice_get-map (truth boxes) conjuncts (k - 1)) ∙ f.at in
          let w : truth boxes c ≡ No = cc in
          told_no (truth boxes c) (tree_holds c z) w (known.one boxes c z valid held (fits_at (length boxes) conjuncts (k - 1) c fits g));
    }

module _ (keeps : KeepsValid) (may : MayBeTested) (known : Truthful) (s : Sandbox) (fits : Fits s) where
  init_right : (boxes : List Ends) (o : Option (ℕ × Truth)) → AreValid boxes → PartsFit (length boxes) (map tree s.init) → first_from 1 (truths boxes (map tree s.init)) ≡ o → IsRight s boxes (init_verdict boxes o).reply
  init_right boxes None valid fit e = tt
  init_right boxes (Some r) valid fit e = named known boxes (map tree s.init) r.0 r.1 valid fit e

  sense_right : (boxes : List Ends) (states : List ℤ) (o : Option (ℕ × Truth)) → AreValid boxes → PartsFit (length boxes) (map tree s.plant) → first_from 1 (truths boxes (map tree s.plant)) ≡ o → IsRight s boxes (sense_verdict s boxes states o).reply
  sense_right boxes states None valid fit e = tt
  sense_right boxes states (Some r) valid fit e = named known boxes (map tree s.plant) r.0 r.1 valid fit e

  fallback_right : (boxes : List Ends) (o : Option (List ℤ)) → truth boxes (tree s.ctrl) ≢ Yes → IsRight s boxes (fallback_verdict s boxes o).reply
  fallback_right boxes None n = n
  fallback_right boxes (Some ws) n = n

  not_yes : (t u : Truth) → u ≢ Yes → t ≡ u → t ≢ Yes
  not_yes t u h e f = h (sym e ∙ f)

  choice_right : (old boxes : List Ends) (words : List ℤ) (t : Truth) → truth boxes (tree s.ctrl) ≡ t → IsRight s boxes (choice_verdict s old boxes words t).reply
  choice_right old boxes words Yes e = tt
  choice_right old boxes words No e = fallback_right boxes (point_words (map (interval_of old) s.fallback)) (not_yes (truth boxes (tree s.ctrl)) No (λ q. cc) e)
  choice_right old boxes words Maybe e = fallback_right boxes (point_words (map (interval_of old) s.fallback)) (not_yes (truth boxes (tree s.ctrl)) Maybe (λ q. cc) e)

  right_from : (records : List (List ℤ)) (d : Due) (boxes : List Ends) → length boxes ≡ 32 → AreValid boxes → AreDue (sandbox_of s) (record { boxes = boxes; due = d }) records → AreRight s (record { boxes = boxes; due = d }) records
  right_from [] d boxes size valid turns = tt
  right_from (words ∷ more) due.Ended boxes size valid turns = absurd turns.0
  right_from (words ∷ more) due.Init boxes size valid turns =
      let st : State = record { boxes = boxes; due = due.Init } in
      let next = (answered s st words).next in
      let fit = subst (λ (n : ℕ). PartsFit n (map tree s.init)) (sym (keeps.size_tested s.counts kind.Init words boxes ∙ size)) (may.init s fits) in (
        init_right (tested s.counts kind.Init words boxes) _ (keeps.before s.counts kind.Init words boxes turns.0 valid) fit refl,
        right_from more next.due next.boxes (keeps.size s st words ∙ size) (keeps.behind s st words fits size valid turns.0) turns.1,
      )
  right_from (words ∷ more) due.Choice boxes size valid turns =
      let st : State = record { boxes = boxes; due = due.Choice } in
      let next = (answered s st words).next in (
        choice_right boxes (tested s.counts kind.Choice words boxes) words _ refl,
        right_from more next.due next.boxes (keeps.size s st words ∙ size) (keeps.behind s st words fits size valid turns.0) turns.1,
      )
  right_from (words ∷ more) due.Sense boxes size valid turns =
      let st : State = record { boxes = boxes; due = due.Sense } in
      let next = (answered s st words).next in
      let fit = subst (λ (n : ℕ). PartsFit n (map tree s.plant)) (sym (keeps.size_tested s.counts kind.Sense words boxes ∙ size)) (may.plant s fits) in (
        sense_right (tested s.counts kind.Sense words boxes) (drop 2 words) _ (keeps.before s.counts kind.Sense words boxes turns.0 valid) fit refl,
        right_from more next.due next.boxes (keeps.size s st words ∙ size) (keeps.behind s st words fits size valid turns.0) turns.1,
      )

  pub reports_are_right : (records : List (List ℤ)) → AreDue (sandbox_of s) start records → AreRight s start records
  reports_are_right records turns = let b = keeps.always s [] fits tt in right_from records due.Init start.boxes b.0 b.1 turns
