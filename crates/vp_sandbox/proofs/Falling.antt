-- The fallback's intervals where a choice is tested.
use Rattle.std.proofs.Common.{◌≡◌, ℕ, ◌<◌, ◌≤◌, nat_lt, List, [], ◌∷◌, length, map, slice_get, Bool, IsTrue, refl, ap, subst, arith, ℤ}
use Rattle.std.proofs.lemmas.Bool.Decides.{nat_tests}
use Rattle.vp_words.specs.declared.record.Counts.{Counts}
use Rattle.vp_words.specs.declared.record.Kind.TheVariants.{Choice}
use Rattle.vp_poly.specs.declared.mono.Term.{Term}
use Rattle.vp_poly.specs.Places.{HaveOnly}
use Rattle.vp_interval.specs.Polynomial.{interval_of}
use Rattle.vp_interval.specs.Rounding.{Ends, point}
use Rattle.vp_sandbox.specs.Boxes.{first_next_control, first_next_state, placed, tested}
use Rattle.vp_sandbox.specs.Fits.{PolysFit, in_init}
use Rattle.vp_sandbox.proofs.Boxed.{kept_low}

module _ (alike : (allowed : ℕ → Bool) (ts : List Term) (boxes others : List Ends) → HaveOnly allowed ts
    → ((k : ℕ) → IsTrue (allowed k) → slice_get boxes k ≡ slice_get others k) → interval_of boxes ts ≡ interval_of others ts)
    (c : Counts) (boxes : List Ends) (words : List ℤ) (long : first_next_state c ≤ length boxes) where
  kept : (k : ℕ) → IsTrue (in_init c k) → slice_get (tested c Choice words boxes) k ≡ slice_get boxes k
  kept k h =
      let low : k < first_next_state c = grind (arith, nat_tests) in
      kept_low (first_next_control c) (map point words) boxes k (omega arith) (omega arith)

  pub same_fallback : (ps : List (List Term)) → PolysFit (in_init c) ps → map (interval_of (tested c Choice words boxes)) ps ≡ map (interval_of boxes) ps
  same_fallback [] h = refl
  same_fallback (p ∷ ps) h =
      let one = alike (in_init c) p (tested c Choice words boxes) boxes h.0.places kept in
      subst (λ (v : Ends). interval_of (tested c Choice words boxes) p ∷ map (interval_of (tested c Choice words boxes)) ps ≡ v ∷ map (interval_of boxes) ps) one
      (ap (λ (vs : List Ends). interval_of (tested c Choice words boxes) p ∷ vs) (same_fallback ps h.1))
