-- Where each variable's value stands in its box, some point has these values and stands in all boxes.
use Rattle.std.proofs.Common.{◌≡◌, ◌⊎◌, inl, inr, ℕ, ◌<◌, ◌≤◌, IsTrue, List, Some, refl, sym, ap, ◌∙◌, subst, arith}
use Rattle.std.specs.Prelude.{slice_get}
use Rattle.std.proofs.lemmas.Bool.Decides.{leb_tells}
use Rattle.vp_words.specs.declared.record.Counts.{Counts}
use Rattle.vp_terms.specs.Meaning.{Assignment}
use Rattle.vp_terms.specs.Places.{has_variable, place, place_count}
use Rattle.vp_terms.specs.Rational.{Rational, Equals}
use Rattle.vp_terms.specs.declared.expr.Var.{Var}
use Rattle.vp_poly.specs.Places.{places_for}
use Rattle.vp_poly.specs.Points.{IsAt}
use Rattle.vp_poly.specs.Value.{Point}
use Rattle.vp_interval.specs.Represents.{AreValid, RepresentEach, Represents}
use Rattle.vp_interval.specs.Rounding.{Ends}
use Rattle.vp_sandbox.specs.Boxes.{box_at}
use Rattle.vp_history.proofs.Known.{Known}

-- the box of each variable of the model represents its value
pub record Holds (c : Counts) (boxes : List Ends) (a : Assignment) : Type 0 where
  pub each : (v : Var) (b : Ends) → IsTrue (has_variable (places_for c) v) → box_at c boxes v ≡ Some b → Represents b (a v)

-- a point with these values that stands in all boxes
pub record Shown (c : Counts) (boxes : List Ends) (a : Assignment) : Type 0 where
  pub at : Point
  pub held : RepresentEach boxes at
  pub is_at : IsAt (places_for c) at a

below_or : (j k : ℕ) → (j < k) ⊎ (k ≤ j)
below_or j k = elim (leb_tells k j) [ inl h ↦ inr h.1 | inr h ↦ inl h.1 ]

module _ (known : Known) (c : Counts) (boxes : List Ends) (a : Assignment) (other : Point) where
  -- the value of the variable at the place; a place that no variable has keeps its value
  pick : (k : ℕ) → (k < place_count (places_for c)) ⊎ (place_count (places_for c) ≤ k) → Rational
  pick k (inl l) = a (known.placed.used (places_for c) k l).0
  pick k (inr g) = other k

  picked : Holds c boxes a → RepresentEach boxes other → (k : ℕ) (b : Ends) → slice_get boxes k ≡ Some b → (d : (k < place_count (places_for c)) ⊎ (place_count (places_for c) ≤ k)) → Represents b (pick k d)
  unfolding pick
  picked h o k b e (inl l) = let u = known.placed.used (places_for c) k l in h.each u.0 b u.1 (ap (slice_get boxes) u.2 ∙ e)
  picked h o k b e (inr g) = o.each k b e

  picked_at : (v : Var) → IsTrue (has_variable (places_for c) v) → (d : (place (places_for c) v < place_count (places_for c)) ⊎ (place_count (places_for c) ≤ place (places_for c) v)) → Equals (pick (place (places_for c) v) d) (a v)
  unfolding pick
  picked_at v h (inl l) =
      let u = known.placed.used (places_for c) (place (places_for c) v) l in
      subst (λ (w : Var). Equals (a w) (a v)) (sym (known.placed.different (places_for c) u.0 v u.1 h u.2)) (record { crossed = refl })
  picked_at v h (inr g) = let l = known.placed.in_range (places_for c) v h in absurd (omega arith)

  pub shown_from : Holds c boxes a → RepresentEach boxes other → Shown c boxes a
  shown_from h o = record {
    at = λ k. pick k (below_or k (place_count (places_for c)));
    held = record { each = λ k b e. picked h o k b e (below_or k (place_count (places_for c))) };
    is_at = record { each = λ v l. picked_at v l (below_or (place (places_for c) v) (place_count (places_for c))) };
  }

pub shown : Known → (c : Counts) (boxes : List Ends) (a : Assignment) → AreValid boxes → Holds c boxes a → Shown c boxes a
shown known c boxes a valid h = let o = known.represented.some boxes valid in shown_from known c boxes a o.0 h o.1
