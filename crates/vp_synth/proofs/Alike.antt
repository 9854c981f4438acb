-- Sandboxes that differ in the boxes of their forms alone answer alike.
use Rattle.std.proofs.Common.{◌≡◌, List, [], ◌∷◌, map, refl, ap, ◌∙◌, ℕ, ℤ, Bool, true, false}
use Rattle.std.specs.Prelude.{Option, None, Some, drop}
use Rattle.vp_words.specs.declared.record.Counts.{Counts}
use Rattle.vp_words.specs.declared.record.Due.{Due}
use Rattle.vp_words.specs.declared.record.Due.TheVariants as due
use Rattle.vp_words.specs.declared.record.Kind.TheVariants as kind
use Rattle.vp_words.specs.Exchanges.{Agree, exchanges, state_after}
use Rattle.vp_poly.specs.declared.mono.Term.{Term}
use Rattle.vp_logic.specs.Tree.{Tree, tree}
use Rattle.vp_interval.specs.declared.truth.Truth.{Truth}
use Rattle.vp_interval.specs.declared.truth.Truth.TheVariants.{No, Maybe, Yes}
use Rattle.vp_interval.specs.Formula.{first_from, truth, truths}
use Rattle.vp_interval.specs.Polynomial.{interval_of}
use Rattle.vp_interval.specs.Rounding.{Ends}
use Rattle.vp_sandbox.specs.declared.sandbox.Sandbox.{Sandbox}
use Rattle.vp_sandbox.specs.Answer.{acted, answered, choice_verdict, fallback_verdict, sandbox_of, sense_verdict, start}
use Rattle.vp_sandbox.specs.Boxes.{point_words, tested}
use Rattle.vp_sandbox.specs.Sandbox.{State}
use Rattle.vp_synth.specs.Sandboxes.{SameParts}

act : (s t : Sandbox) → SameParts s t → (boxes : List Ends) (words : List ℤ) (f : Bool) → acted s boxes words f ≡ acted t boxes words f
act s t h boxes words f = rw h.counts refl

fallback : (s t : Sandbox) → SameParts s t → (boxes : List Ends) (o : Option (List ℤ)) → fallback_verdict s boxes o ≡ fallback_verdict t boxes o
fallback s t h boxes None = refl
fallback s t h boxes (Some words) = act s t h boxes words true

falls : (s t : Sandbox) → SameParts s t → (old boxes : List Ends) → fallback_verdict s boxes (point_words (map (interval_of old) s.fallback)) ≡ fallback_verdict t boxes (point_words (map (interval_of old) t.fallback))
falls s t h old boxes = fallback s t h boxes _ ∙ ap (λ (ps : List (List Term)). fallback_verdict t boxes (point_words (map (interval_of old) ps))) h.fallback

chosen : (s t : Sandbox) → SameParts s t → (old boxes : List Ends) (words : List ℤ) (x : Truth) → choice_verdict s old boxes words x ≡ choice_verdict t old boxes words x
chosen s t h old boxes words No = falls s t h old boxes
chosen s t h old boxes words Maybe = falls s t h old boxes
chosen s t h old boxes words Yes = act s t h boxes words false

sensed : (s t : Sandbox) → SameParts s t → (boxes : List Ends) (words : List ℤ) (o : Option (ℕ × Truth)) → sense_verdict s boxes words o ≡ sense_verdict t boxes words o
sensed s t h boxes words None = rw h.counts refl
sensed s t h boxes words (Some r) = refl

at : (s t : Sandbox) → SameParts s t → (boxes : List Ends) (d : Due) (words : List ℤ) → answered s (record { boxes = boxes; due = d }) words ≡ answered t (record { boxes = boxes; due = d }) words
at s t h boxes due.Init words = rw h.counts (rw h.init refl)
at s t h boxes due.Choice words =
    chosen s t h boxes (tested s.counts kind.Choice words boxes) words (truth (tested s.counts kind.Choice words boxes) (tree s.ctrl))
    ∙ (ap (λ (c : Counts). choice_verdict t boxes (tested c kind.Choice words boxes) words (truth (tested c kind.Choice words boxes) (tree s.ctrl))) h.counts
    ∙ ap (λ (f : Tree). choice_verdict t boxes (tested t.counts kind.Choice words boxes) words (truth (tested t.counts kind.Choice words boxes) f)) h.ctrl)
at s t h boxes due.Sense words =
    sensed s t h (tested s.counts kind.Sense words boxes) (drop 2 words) (first_from 1 (truths (tested s.counts kind.Sense words boxes) (map tree s.plant)))
    ∙ (ap (λ (c : Counts). sense_verdict t (tested c kind.Sense words boxes) (drop 2 words) (first_from 1 (truths (tested c kind.Sense words boxes) (map tree s.plant)))) h.counts
    ∙ ap (λ (l : List Tree). sense_verdict t (tested t.counts kind.Sense words boxes) (drop 2 words) (first_from 1 (truths (tested t.counts kind.Sense words boxes) l))) h.plant)
at s t h boxes due.Ended words = refl

-- they answer each record alike
pub answers : (s t : Sandbox) → SameParts s t → (st : State) (words : List ℤ) → answered s st words ≡ answered t st words
answers s t h st words = at s t h st.boxes st.due words

same_exchanges : (s t : Sandbox) → SameParts s t → (st : State) (rs : List (List ℤ)) → exchanges (sandbox_of s) st rs ≡ exchanges (sandbox_of t) st rs
same_exchanges s t h st [] = refl
same_exchanges s t h st (r ∷ rs) = rw (answers s t h st r) (rw (same_exchanges s t h (answered t st r).next rs) refl)

same_states : (s t : Sandbox) → SameParts s t → (st : State) (rs : List (List ℤ)) → state_after (sandbox_of s) st rs ≡ state_after (sandbox_of t) st rs
same_states s t h st [] = refl
same_states s t h st (r ∷ rs) = rw (answers s t h st r) (same_states s t h (answered t st r).next rs)

pub agree : (s t : Sandbox) → SameParts s t → Agree (sandbox_of s) (sandbox_of t)
agree s t h = record {
  counts = h.counts;
  replies = λ rs _. same_exchanges s t h start rs;
  due = λ rs _. ap (λ (st : State). st.due) (same_states s t h start rs);
}
