-- The conjuncts of all slacks, one after the other.
use Rattle.std.proofs.Common.{◌≡◌, ◌⊎◌, inl, inr, ℕ, suc, ◌+◌, ◌<◌, Bool, true, false, ◌&&◌, IsTrue, List, [], ◌∷◌, ◌++◌, length, map, take, slice_get, get_or, Some, refl, sym, ap, ◌∙◌, subst, arith, append_assoc}
use Rattle.std.specs.Prelude.{◌↔◌}
use Rattle.std.proofs.lemmas.List.{map-append, take_more}
use Rattle.std.proofs.lemmas.List.Folds.{list_all-append}
use Rattle.std.proofs.lemmas.Option.{get_or_from_slice_get}
use Rattle.vp_terms.specs.Control.{Values}
use Rattle.vp_terms.specs.Meaning.{Assignment}
use Rattle.vp_terms.specs.Places.{place_count}
use Rattle.vp_terms.specs.Plant.{IsWithin}
use Rattle.vp_terms.specs.Rational.{difference}
use Rattle.vp_terms.specs.declared.expr.Places.{Places}
use Rattle.vp_terms.specs.declared.expr.Var.TheVariants.{NextState}
use Rattle.vp_terms.specs.declared.package.Slack.{Slack}
use Rattle.vp_poly.specs.declared.canonical.PolyErr.{PolyErr}
use Rattle.vp_poly.specs.declared.canonical.PolyErr.TheVariants as poly
use Rattle.vp_poly.specs.declared.scaled.Scaled.{Scaled}
use Rattle.vp_poly.specs.Canonical.{StandsAt, StandsWithin}
use Rattle.vp_poly.specs.Coefficient.{Coefficients}
use Rattle.vp_poly.specs.Points.{IsAt}
use Rattle.vp_poly.specs.Value.{Point}
use Rattle.vp_poly.specs.Weights.{Weights}
use Rattle.vp_logic.specs.declared.norm.Norm.{Norm}
use Rattle.vp_logic.specs.Sized.{EachHasOnly, EachIsSized}
use Rattle.vp_logic.specs.Tree.{Tree, tree}
use Rattle.vp_logic.specs.Truth.{parts_hold, tree_holds}
use Rattle.vp_monitor.specs.declared.error.Place.TheVariants as at
use Rattle.vp_monitor.specs.Errors.{of_poly}
use Rattle.vp_monitor.specs.Meaning.{is_in_plant}
use Rattle.vp_monitor.specs.Plant.{AreAllSlackConjuncts, AreSlackConjuncts}
use Rattle.vp_monitor.specs.Refusals.{IsFirstSlackOver, SlackFits, SlackFitsBelow}
use Rattle.vp_monitor.specs.Slack.{TellsSlack}
use Rattle.vp_monitor.specs.Standing.{AreWithinSlack, Flowing, flowed}
use Rattle.vp_monitor.proofs.Parting.{EachIsSized-append}
use Rattle.vp_monitor.proofs.States.{length-front}

no_more : {A : Type 0} (xs : List A) → xs ++ [] ≡ xs
no_more {A} [] = refl
no_more {A} (x ∷ xs) = ap (λ (ys : List A). x ∷ ys) (no_more xs)

all-append : (p : Places) (f : ℕ → Coefficients) (w : ℕ → Weights) (i j : ℕ) (ss : List Slack) (ts : List Tree) (s : Slack) (us : List Tree) → j ≡ i + length ss → AreAllSlackConjuncts p f w i ss ts → AreSlackConjuncts p j (f j) (w j) s us →
    AreAllSlackConjuncts p f w i (ss ++ s ∷ []) (ts ++ us)
all-append p f w i j [] ts s us e h k =
    let r : j ≡ i = omega arith in
    (us, [], ap (λ (xs : List Tree). xs ++ us) h ∙ sym (no_more us), subst (λ (n : ℕ). AreSlackConjuncts p n (f n) (w n) s us) r k, refl)
all-append p f w i j (r ∷ ss) ts s us e h k =
    (h.0, h.1 ++ us, ap (λ (xs : List Tree). xs ++ us) h.2 ∙ append_assoc h.0 h.1 us, h.3, all-append p f w (suc i) j ss h.1 s us (omega arith) h.4 k)

pub EachHasOnly-append : (allowed : ℕ → Bool) (ts us : List Tree) → EachHasOnly allowed ts → EachHasOnly allowed us → EachHasOnly allowed (ts ++ us)
EachHasOnly-append allowed [] us h k = k
EachHasOnly-append allowed (t ∷ ts) us h k = (h.0, EachHasOnly-append allowed ts us h.1 k)

within-join : (a : Assignment) (x : Values) (i j : ℕ) (ss : List Slack) (s : Slack) → j ≡ i + length ss → AreWithinSlack a x i ss → IsWithin s a (difference (a (NextState j)) (x j)) → AreWithinSlack a x i (ss ++ s ∷ [])
within-join a x i j [] s e h k = let r : j ≡ i = omega arith in (subst (λ (n : ℕ). IsWithin s a (difference (a (NextState n)) (x n))) r k, tt)
within-join a x i j (r ∷ ss) s e h k = (h.0, within-join a x (suc i) j ss s (omega arith) h.1 k)

within-front : (a : Assignment) (x : Values) (i : ℕ) (ss : List Slack) (s : Slack) → AreWithinSlack a x i (ss ++ s ∷ []) → AreWithinSlack a x i ss
within-front a x i [] s h = tt
within-front a x i (r ∷ ss) s h = (h.0, within-front a x (suc i) ss s h.1)

within-last : (a : Assignment) (x : Values) (i j : ℕ) (ss : List Slack) (s : Slack) → j ≡ i + length ss → AreWithinSlack a x i (ss ++ s ∷ []) → IsWithin s a (difference (a (NextState j)) (x j))
within-last a x i j [] s e h = let r : i ≡ j = omega arith in subst (λ (n : ℕ). IsWithin s a (difference (a (NextState n)) (x n))) r h.0
within-last a x i j (r ∷ ss) s e h = within-last a x (suc i) j ss s (omega arith) h.1

-- the conjuncts of the first n slacks
pub record HaveSlack (p : Places) (flowing : List Scaled) (slack : List Slack) (n : ℕ) (ts : List Tree) : Type 0 where
  pub exact : (f : ℕ → Coefficients) (w : ℕ → Weights) → Flowing p flowing f w → AreAllSlackConjuncts p f w 0 (take n slack) ts
  pub fits : (f : ℕ → Coefficients) (w : ℕ → Weights) → Flowing p flowing f w → SlackFitsBelow p w slack n
  pub meaning : (z : Point) (a : Assignment) (x : Values) → IsAt p z a → StandsAt p flowing z (flowed x a) → IsTrue (parts_hold ts z) ↔ AreWithinSlack a x 0 (take n slack)
  pub sized : EachIsSized (place_count p) ts
  pub only : (allowed : ℕ → Bool) → StandsWithin p flowing (is_in_plant p) allowed → EachHasOnly allowed ts

pub slack_none : (p : Places) (flowing : List Scaled) (slack : List Slack) (ns : List Norm) → ns ≡ [] → HaveSlack p flowing slack 0 (map tree ns)
slack_none p flowing slack ns e = subst (λ (ms : List Norm). HaveSlack p flowing slack 0 (map tree ms)) (sym e) (record {
  exact = λ f w h. refl;
  fits = λ f w h i s l. absurd (omega arith);
  meaning = λ z a x h k. (λ y. tt, λ y. refl);
  sized = tt;
  only = λ allowed h. tt;
})

both_parts : (b c : Bool) → IsTrue (b && c) → IsTrue b × IsTrue c
both_parts true true h = (refl, refl)
both_parts true false h = absurd (cc)
both_parts false c h = absurd (cc)

join_parts : (b c : Bool) → IsTrue b → IsTrue c → IsTrue (b && c)
join_parts true c h k = k
join_parts false c h k = absurd (cc)

same_or_below : (j n : ℕ) → j < n + 1 → (j ≡ n) ⊎ (j < n)
same_or_below j n l = grind arith

fits_more : (p : Places) (w : ℕ → Weights) (slack : List Slack) (n : ℕ) (s : Slack) → s ≡ get_or slack n s → SlackFitsBelow p w slack n → SlackFits p (w n) s → SlackFitsBelow p w slack (n + 1)
fits_more p w slack n s is h k = λ j r l g. by j r (same_or_below j n l) g
  where
    by : (j : ℕ) (r : Slack) → (j ≡ n) ⊎ (j < n) → slice_get slack j ≡ Some r → SlackFits p (w j) r
    by j r (inl q) g =
        let e : s ≡ r = is ∙ get_or_from_slice_get slack n r s (subst (λ (i : ℕ). slice_get slack i ≡ Some r) q g) in
        subst (λ (i : ℕ). SlackFits p (w i) r) (sym q) (subst (SlackFits p (w n)) e k)
    by j r (inr l) g = h j r l g

module _ (p : Places) (flowing : List Scaled) (slack : List Slack) (n : ℕ) (s : Slack) (ns ms ps : List Norm) (l : n < length slack) (is : s ≡ get_or slack n s) (h : HaveSlack p flowing slack n (map tree ns)) (q : ps ≡ ns ++ ms) where
  front : take (n + 1) slack ≡ take n slack ++ s ∷ []
  front = take_more slack n s l ∙ ap (λ (r : Slack). take n slack ++ r ∷ []) (sym is)

  trees : map tree ps ≡ map tree ns ++ map tree ms
  trees = ap (map tree) q ∙ map-append tree ns ms

  size : length (take n slack) ≡ n
  size = length-front n slack (omega arith)

  pub slack_more : ((f : ℕ → Coefficients) (w : ℕ → Weights) → Flowing p flowing f w → AreSlackConjuncts p n (f n) (w n) s (map tree ms)) → ((f : ℕ → Coefficients) (w : ℕ → Weights) → Flowing p flowing f w → SlackFits p (w n) s) →
      ((z : Point) (a : Assignment) (x : Values) → IsAt p z a → StandsAt p flowing z (flowed x a) → IsTrue (parts_hold (map tree ms) z) ↔ IsWithin s a (difference (a (NextState n)) (x n))) → EachIsSized (place_count p) (map tree ms) →
      ((allowed : ℕ → Bool) → StandsWithin p flowing (is_in_plant p) allowed → EachHasOnly allowed (map tree ms)) → HaveSlack p flowing slack (n + 1) (map tree ps)
  slack_more exact fits meaning sized only = record {
    exact = λ f w k.
        subst (λ (ss : List Slack). AreAllSlackConjuncts p f w 0 ss (map tree ps)) (sym front)
        (subst (λ (ts : List Tree). AreAllSlackConjuncts p f w 0 (take n slack ++ s ∷ []) ts) (sym trees) (all-append p f w 0 n (take n slack) (map tree ns) s (map tree ms) (let z = size in omega arith) (h.exact f w k) (exact f w k)));
    fits = λ f w k. fits_more p w slack n s is (h.fits f w k) (fits f w k);
    meaning = λ z a x i k.
        subst (λ (ss : List Slack). IsTrue (parts_hold (map tree ps) z) ↔ AreWithinSlack a x 0 ss) (sym front)
        (subst (λ (ts : List Tree). IsTrue (parts_hold ts z) ↔ AreWithinSlack a x 0 (take n slack ++ s ∷ [])) (sym trees)
        (let e = list_all-append (λ r. tree_holds r z) (map tree ns) (map tree ms) in
        let b = h.meaning z a x i k in
        let d = meaning z a x i k in (
          λ y. let g = both_parts (parts_hold (map tree ns) z) (parts_hold (map tree ms) z) (sym e ∙ y) in within-join a x 0 n (take n slack) s (let r = size in omega arith) (b.0 g.0) (d.0 g.1),
          λ y. e ∙ join_parts (parts_hold (map tree ns) z) (parts_hold (map tree ms) z) (b.1 (within-front a x 0 (take n slack) s y)) (d.1 (within-last a x 0 n (take n slack) s (let r = size in omega arith) y)),
        )));
    sized = subst (EachIsSized (place_count p)) (sym trees) (EachIsSized-append (place_count p) (map tree ns) (map tree ms) h.sized sized);
    only = λ allowed k. subst (EachHasOnly allowed) (sym trees) (EachHasOnly-append allowed (map tree ns) (map tree ms) (h.only allowed k) (only allowed k));
  }

-- why there are none
pub tells_slack : (p : Places) (w : ℕ → Weights) (slack : List Slack) (i : ℕ) (r : PolyErr) → (r ≡ poly.Wide → IsFirstSlackOver p w slack i) → TellsSlack p w slack (of_poly (at.Slack i) r)
tells_slack p w slack i poly.Wide h = h refl
tells_slack p w slack i poly.Memory h = tt
