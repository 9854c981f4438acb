-- When the parts of a sandbox mean those of a model.
use Rattle.std.specs.Prelude.{◌≡◌, ◌↔◌, ℕ, List, map, slice_get, Some, IsTrue}
use Rattle.vp_terms.specs.Control.{AgreeFrom, Values, changing}
use Rattle.vp_terms.specs.Model.{Model}
use Rattle.vp_terms.specs.Rational.{Rational, Equals}
use Rattle.vp_poly.specs.declared.mono.Term.{Term}
use Rattle.vp_poly.specs.Places.{places_for}
use Rattle.vp_poly.specs.Points.{IsAt}
use Rattle.vp_poly.specs.Value.{Point, value_at}
use Rattle.vp_logic.specs.Tree.{tree}
use Rattle.vp_logic.specs.Truth.{parts_hold, tree_holds}
use Rattle.vp_sandbox.specs.declared.sandbox.Sandbox.{Sandbox}

-- v are the values of these polynomials at the point
pub record AreValues (polynomials : List (List Term)) (z : Point) (v : Values) : Type 0 where
  pub each : (k : ℕ) (p : List Term) → slice_get polynomials k ≡ Some p → Equals (v k) (value_at p z)

-- at every point that has the values of a round, the init conjuncts all hold exactly where the model may
-- start, the controller's form exactly where the controller leads to the next controls, the plant's
-- conjuncts all hold exactly where the plant may take the step, and the fallback's polynomials have the
-- values w exactly where the fallback gives the controls w
pub record Means (s : Sandbox) (m : Model) : Type 0 where
  pub init : (z : Point) (p x u v y : Values) (t : Rational) → IsAt (places_for s.counts) z (changing p x u v t y) →
      IsTrue (parts_hold (map tree s.init) z) ↔ m.init p x u
  pub ctrl : (z : Point) (p x u v y : Values) (t : Rational) → IsAt (places_for s.counts) z (changing p x u v t y) →
      AgreeFrom s.counts.controls u v → IsTrue (tree_holds (tree s.ctrl) z) ↔ m.ctrl p x u v
  pub plant : (z : Point) (p x u v y : Values) (t : Rational) → IsAt (places_for s.counts) z (changing p x u v t y) →
      IsTrue (parts_hold (map tree s.plant) z) ↔ m.plant p x u t y
  pub fallback : (z : Point) (p x u v y w : Values) (t : Rational) → IsAt (places_for s.counts) z (changing p x u v t y) →
      AgreeFrom s.counts.controls u w → AreValues s.fallback z w ↔ m.fallback p x u w
