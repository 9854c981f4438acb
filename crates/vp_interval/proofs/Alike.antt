-- The interval of a polynomial goes by the boxes of its own places.
use Rattle.std.proofs.Common.{◌≡◌, ℕ, zero, suc, arith, List, [], ◌∷◌, map, Bool, true, false, IsTrue, Some, slice_get, refl, sym, ap, subst, ◌∙◌, pos}
use Rattle.std.specs.Prelude.{slice_index, unwrap_or}
use Rattle.std.specs.List.{reduce}
use Rattle.vp_poly.specs.declared.mono.Term.{Term}
use Rattle.vp_poly.specs.Places.{HasOnly, HaveOnly}
use Rattle.vp_interval.specs.Rounding.{Ends, point, sum, product, power}
use Rattle.vp_interval.specs.Polynomial.{powers_of, joined, of_term, interval_of}

-- a place with an exponent passes the test
passes : (b : Bool) (n : ℕ) → (b ≡ false → suc n ≡ 0) → IsTrue b
passes true n h = refl
passes false n h = let no = h refl in absurd cc

no_boxes : (ks : List ℕ) → powers_of ks [] ≡ []
no_boxes [] = refl
no_boxes (k ∷ ks) = refl

powers_alike : (allowed : ℕ → Bool) (ks : List ℕ) (bs cs : List Ends) → ((k : ℕ) → allowed k ≡ false → slice_index ks k ≡ 0)
    → ((k : ℕ) → IsTrue (allowed k) → slice_get bs k ≡ slice_get cs k) → powers_of ks bs ≡ powers_of ks cs
powers_alike allowed [] bs cs h same = refl
powers_alike allowed (k ∷ ks) [] [] h same = refl
powers_alike allowed (zero ∷ ks) [] (c ∷ cs) h same =
    sym (no_boxes ks) ∙ powers_alike (λ k. allowed (suc k)) ks [] cs (λ k. h (suc k)) (λ k. same (suc k))
powers_alike allowed (zero ∷ ks) (b ∷ bs) [] h same =
    powers_alike (λ k. allowed (suc k)) ks bs [] (λ k. h (suc k)) (λ k. same (suc k)) ∙ no_boxes ks
powers_alike allowed (zero ∷ ks) (b ∷ bs) (c ∷ cs) h same = powers_alike (λ k. allowed (suc k)) ks bs cs (λ k. h (suc k)) (λ k. same (suc k))
powers_alike allowed (suc n ∷ ks) [] (c ∷ cs) h same = let no = same 0 (passes (allowed 0) n (h 0)) in absurd cc
powers_alike allowed (suc n ∷ ks) (b ∷ bs) [] h same = let no = same 0 (passes (allowed 0) n (h 0)) in absurd cc
powers_alike allowed (suc n ∷ ks) (b ∷ bs) (c ∷ cs) h same =
    let first : Some b ≡ Some c = same 0 (passes (allowed 0) n (h 0)) in
    let one : b ≡ c = cc in
    subst (λ (x : Ends). power b (suc n) ∷ powers_of ks bs ≡ power x (suc n) ∷ powers_of ks cs) one
    (ap (λ (vs : List Ends). power b (suc n) ∷ vs) (powers_alike (λ k. allowed (suc k)) ks bs cs (λ k. h (suc k)) (λ k. same (suc k))))

module _ (allowed : ℕ → Bool) (bs cs : List Ends) (same : (k : ℕ) → IsTrue (allowed k) → slice_get bs k ≡ slice_get cs k) where
  terms_alike : (ts : List Term) → HaveOnly allowed ts → map (of_term bs) ts ≡ map (of_term cs) ts
  terms_alike [] h = refl
  terms_alike (t ∷ ts) h =
      let first : HasOnly allowed t.mono.powers = h 0 t (omega arith) in
      let one : of_term bs t ≡ of_term cs t = ap (λ (ps : List Ends). joined product (reduce product ps) (point t.coef)) (powers_alike allowed t.mono.powers bs cs first.others same) in
      subst (λ (x : Ends). of_term bs t ∷ map (of_term bs) ts ≡ x ∷ map (of_term cs) ts) one
      (ap (λ (vs : List Ends). of_term bs t ∷ vs) (terms_alike ts (λ k d lt. h (suc k) d (omega arith))))

  pub interval_alike : (ts : List Term) → HaveOnly allowed ts → interval_of bs ts ≡ interval_of cs ts
  interval_alike ts h = ap (λ (vs : List Ends). unwrap_or (reduce sum vs) (point (pos 0))) (terms_alike ts h)
