-- What monitors mean for a package, and how small they are.
use Rattle.std.specs.Prelude.{◌≡◌, ◌↔◌, ℕ, ◌<◌, ◌≤◌, ◌^◌, Bool, IsTrue, List, map, slice_get, Some, All}
use Rattle.vp_terms.specs.Control.{AgreeFrom, Values, changing}
use Rattle.vp_terms.specs.Model.{model_of}
use Rattle.vp_terms.specs.Places.{place, place_count}
use Rattle.vp_terms.specs.Plant.{Flow}
use Rattle.vp_terms.specs.Rational.{Rational, Equals}
use Rattle.vp_terms.specs.WellFormed.{in_model, is_allowed}
use Rattle.vp_terms.specs.declared.expr.Places.{Places}
use Rattle.vp_terms.specs.declared.expr.Var.{Var}
use Rattle.vp_terms.specs.declared.expr.Var.TheVariants.{Param, State, Control, NextState, NextControl, Tau}
use Rattle.vp_terms.specs.declared.package.Package.{Package}
use Rattle.vp_poly.specs.declared.mono.Term.{Term}
use Rattle.vp_poly.specs.Places.{HaveOnly, places_for}
use Rattle.vp_poly.specs.Points.{IsAt}
use Rattle.vp_poly.specs.Poly.{IsPoly, degree, norm}
use Rattle.vp_poly.specs.Value.{Point, value_at}
use Rattle.vp_logic.specs.Sized.{EachHasOnly, EachIsSized, IsSized, TreeHasOnly}
use Rattle.vp_logic.specs.Tree.{tree}
use Rattle.vp_logic.specs.Truth.{parts_hold, tree_holds}
use Rattle.vp_ctrl.specs.Paths.{AllowsPaths, EachPathHasOnly, EachPathIsSized, some_path_holds}
use Rattle.std.specs.Prelude.{nat_lt, false, true}
use Rattle.vp_monitor.specs.declared.types.Monitors.{Monitors}

-- at every point that has the values of a round: the three formulas' forms hold exactly where the formulas
-- do, before the round; some path holds exactly where the controller leads to the next controls; the plant's
-- conjuncts all hold exactly where the plant may take the step; and the fallback's polynomials have the
-- values w exactly where the fallback gives the controls w
pub record Mean (flow : Flow) (pkg : Package) (m : Monitors) : Type 0 where
  pub init : (z : Point) (p x u v y : Values) (t : Rational) → IsAt (places_for m.counts) z (changing p x u v t y) →
      IsTrue (tree_holds (tree m.init) z) ↔ (model_of flow pkg).init p x u
  pub inv : (z : Point) (p x u v y : Values) (t : Rational) → IsAt (places_for m.counts) z (changing p x u v t y) →
      IsTrue (tree_holds (tree m.inv) z) ↔ (model_of flow pkg).inv p x u
  pub safe : (z : Point) (p x u v y : Values) (t : Rational) → IsAt (places_for m.counts) z (changing p x u v t y) →
      IsTrue (tree_holds (tree m.safe) z) ↔ (model_of flow pkg).safe p x u
  pub ctrl : (z : Point) (p x u v y : Values) (t : Rational) → IsAt (places_for m.counts) z (changing p x u v t y) →
      AgreeFrom m.counts.controls u v → IsTrue (some_path_holds z m.paths) ↔ (model_of flow pkg).ctrl p x u v
  pub plant : (z : Point) (p x u v y : Values) (t : Rational) → IsAt (places_for m.counts) z (changing p x u v t y) →
      IsTrue (parts_hold (map tree m.plant) z) ↔ (model_of flow pkg).plant p x u t y
  pub fallback : (z : Point) (p x u v y w : Values) (t : Rational) → IsAt (places_for m.counts) z (changing p x u v t y) →
      AgreeFrom m.counts.controls u w →
      ((k : ℕ) (q : List Term) → slice_get m.fallback k ≡ Some q → Equals (w k) (value_at q z)) ↔ (model_of flow pkg).fallback p x u w

-- ---- sizes and places

-- a polynomial with a norm below 2^62 and a degree of at most 12
pub record IsSmall (q : List Term) : Type 0 where
  pub poly : IsPoly q
  pub small : norm q < 2 ^ 62
  pub low : degree q ≤ 12

-- all polynomials are small, and have places of the model alone
pub record AreSized (m : Monitors) : Type 0 where
  pub init : IsSized (place_count (places_for m.counts)) (tree m.init)
  pub inv : IsSized (place_count (places_for m.counts)) (tree m.inv)
  pub safe : IsSized (place_count (places_for m.counts)) (tree m.safe)
  pub paths : EachPathIsSized (place_count (places_for m.counts)) m.paths
  pub plant : EachIsSized (place_count (places_for m.counts)) (map tree m.plant)
  pub fallback : All IsSmall m.fallback

-- the variables that formulas and the fallback may have: parameters, states and controls
abbrev pub AllowsModel : Places → (ℕ → Bool) → Type 0
AllowsModel p allowed = (v : Var) → IsTrue (is_allowed in_model p v) → IsTrue (allowed (place p v))

-- those that the plant may have: these, next states and `tau`
abbrev pub is_in_plant : Places → Var → Bool
is_in_plant p (Param i) = nat_lt i p.params
is_in_plant p (State i) = nat_lt i p.states
is_in_plant p (Control i) = nat_lt i p.controls
is_in_plant p (NextState i) = nat_lt i p.states
is_in_plant p (NextControl i) = false
is_in_plant p Tau = true

abbrev pub AllowsPlant : Places → (ℕ → Bool) → Type 0
AllowsPlant p allowed = (v : Var) → IsTrue (is_in_plant p v) → IsTrue (allowed (place p v))

-- each part has the places of variables alone that it may have
pub record HaveOwnPlaces (m : Monitors) : Type 0 where
  pub init : (allowed : ℕ → Bool) → AllowsModel (places_for m.counts) allowed → TreeHasOnly allowed (tree m.init)
  pub paths : (allowed : ℕ → Bool) → AllowsPaths (places_for m.counts) allowed → EachPathHasOnly allowed m.paths
  pub plant : (allowed : ℕ → Bool) → AllowsPlant (places_for m.counts) allowed → EachHasOnly allowed (map tree m.plant)
  pub fallback : (allowed : ℕ → Bool) → AllowsModel (places_for m.counts) allowed → All (HaveOnly allowed) m.fallback
