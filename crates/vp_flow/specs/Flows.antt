-- What the flow of a state is, over the right sides.
use Rattle.std.specs.Prelude.{◌≡◌, ℕ, ◌≤◌, ◌<◌, true, List, length, slice_get, IfSome, All, slice_index}
use Rattle.vp_poly.specs.declared.scaled.Scaled.{Scaled}
use Rattle.vp_poly.specs.Poly.{IsPoly}
use Rattle.vp_poly.specs.Coefficient.{Coefficients}
use Rattle.vp_poly.specs.Canonical.{IsWeighed}
use Rattle.vp_poly.specs.Times.{HasCoefficients}
use Rattle.vp_poly.specs.Places.{places_for}
use Rattle.vp_flow.specs.Series.{flow_of, tau_place}
use Rattle.vp_flow.specs.Sides.{side}
use Rattle.vp_poly.specs.Weights.{Weights, fits}
use Rattle.vp_flow.specs.Weights.{flow_weight}
use Rattle.vp_flow.specs.declared.bounds.Bounds.{Bounds}
use Rattle.vp_flow.specs.declared.rates.Rates.{Rates}

-- the right sides are those of the rates times their common denominator
pub record AreOf (r : Rates) (rates : ℕ → Coefficients) : Type 0 where
  pub each : (j : ℕ) → j < r.counts.states → HasCoefficients r.bounds.common (side r.sides j) (rates j)

-- s is the flow of the state i, times the denominator of its weight
pub record IsFlow (r : Rates) (h : ℕ → ℕ) (i : ℕ) (s : Scaled) : Type 0 where
  pub weight : s.weight ≡ flow_weight r.bounds (h i)
  pub weighed : IsWeighed s.poly s.weight
  pub poly : IsPoly s.poly
  pub coefficients : (rates : ℕ → Coefficients) → AreOf r rates → HasCoefficients s.weight.den s.poly (flow_of (places_for r.counts) rates i (h i))

-- w is the weight of a flow of height h, and isn't over
pub record IsOfBounds (b : Bounds) (h : ℕ) (w : Weights) : Type 0 where
  pub weight : w ≡ flow_weight b h
  pub fits : fits w ≡ true

-- the weights of the flows of the first n states
pub record AreOfBounds (b : Bounds) (heights : List ℕ) (n : ℕ) (ws : List Weights) : Type 0 where
  pub count : length ws ≡ n
  pub each : (i : ℕ) → IfSome (slice_get ws i) (IsOfBounds b (slice_index heights i))

-- the flows of the first n states
pub record AreFlowsOf (r : Rates) (h : ℕ → ℕ) (n : ℕ) (flows : List Scaled) : Type 0 where
  pub count : length flows ≡ n
  pub each : (i : ℕ) → IfSome (slice_get flows i) (IsFlow r h i)

-- the right sides have no `tau`, and it has a place
pub record AreTimed (r : Rates) : Type 0 where
  pub common : 1 ≤ r.bounds.common
  pub places : tau_place (places_for r.counts) < 32
  pub no_tau : (j : ℕ) → j < r.counts.states → All (λ t. slice_index t.mono.powers (tau_place (places_for r.counts)) ≡ 0) (side r.sides j)
