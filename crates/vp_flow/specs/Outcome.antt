-- What the flow of a package is, and what refuses it.
use Rattle.std.specs.Prelude.{◌≡◌, ◌≢◌, ◌↔◌, ℕ, suc, ◌<◌, Bool, true, false, cond, Some, IfSome, List, [], ◌∷◌, length, slice_get}
use Rattle.vp_terms.specs.declared.package.Package.{Package}
use Rattle.vp_poly.specs.declared.scaled.Scaled.{Scaled}
use Rattle.vp_poly.specs.Canonical.{IsCanonical, IsWeighed, own_weight}
use Rattle.vp_poly.specs.Weights.{fits}
use Rattle.vp_flow.specs.Series.{flow_of}
use Rattle.vp_flow.specs.Sides.{AreHeights, AreRightSides, Reaches, is_linear, model, polys, rates_of, side}
use Rattle.vp_flow.specs.Bounds.{bounds_of}
use Rattle.vp_flow.specs.Weights.{flow_weight}
use Rattle.vp_flow.specs.declared.error.FlowErr.{FlowErr}
use Rattle.vp_flow.specs.declared.error.FlowErr.TheVariants as flow

-- the name is that of the first state with the property P
pub record IsFirstNamed (names : List (List ℕ)) (P : ℕ → Type 0) (name : List ℕ) : Type 0 where
  pub state : ℕ
  pub named : slice_get names state ≡ Some name
  pub has : P state
  pub first : (j : ℕ) → j < state → ¬ P j

-- the names of the states that pass the test, in order, where the first has the number k
abbrev pub named_where : (ℕ → Bool) → ℕ → List (List ℕ) → List (List ℕ)
named_where t k [] = []
named_where t k (x ∷ xs) = cond (t k) (x ∷ named_where t (suc k) xs) (named_where t (suc k) xs)

-- the right side of the state i is over
abbrev pub IsOver : Package → ℕ → Type 0
IsOver pkg i = IfSome (slice_get pkg.plant.rates i) (λ e. fits (own_weight (model pkg) e) ≡ false)

-- each right side has degree at most 1 in the states
pub record AreLinear (pkg : Package) (qs : List Scaled) : Type 0 where
  pub each : (i : ℕ) → i < length pkg.names.states → is_linear (model pkg) (side (polys qs) i) ≡ true

-- the first state whose right side has degree above 1 in the states
pub record IsBent (pkg : Package) (name : List ℕ) : Type 0 where
  pub sides : List Scaled
  pub right : AreRightSides pkg sides
  pub first : IsFirstNamed pkg.names.states (λ i. is_linear (model pkg) (side (polys sides) i) ≡ false) name

-- these are the names of all states that reach themselves, and there are some
pub record HasCycle (pkg : Package) (names : List (List ℕ)) : Type 0 where
  pub sides : List Scaled
  pub right : AreRightSides pkg sides
  pub linear : AreLinear pkg sides
  pub test : ℕ → Bool
  pub exact : (i : ℕ) → i < length pkg.names.states → (test i ≡ true) ↔ Reaches (model pkg) (polys sides) i i
  pub all : names ≡ named_where test 0 pkg.names.states
  pub some : names ≢ []

-- the first state whose flow is over
pub record IsWide (pkg : Package) (name : List ℕ) : Type 0 where
  pub sides : List Scaled
  pub right : AreRightSides pkg sides
  pub linear : AreLinear pkg sides
  pub heights : ℕ → ℕ
  pub are_heights : AreHeights (model pkg) (polys sides) heights
  pub first : IsFirstNamed pkg.names.states (λ i. fits (flow_weight (bounds_of sides) (heights i)) ≡ false) name

-- what refuses the flow of a package; want of memory says nothing of it
abbrev pub Refuses : Package → FlowErr → Type 0
Refuses pkg (flow.Rate name) = IsFirstNamed pkg.names.states (IsOver pkg) name
Refuses pkg (flow.NotLinear name) = IsBent pkg name
Refuses pkg (flow.Cycle names) = HasCycle pkg names
Refuses pkg (flow.Wide name) = IsWide pkg name
Refuses pkg flow.Memory = Unit {0}

-- s is the flow of the state i, of height h: its Lie series, times the denominator of its weight and within that weight
pub record IsFlowOf (pkg : Package) (qs : List Scaled) (i h : ℕ) (s : Scaled) : Type 0 where
  pub weight : s.weight ≡ flow_weight (bounds_of qs) h
  pub weighed : IsWeighed s.poly s.weight
  pub canonical : IsCanonical s.weight.den s.poly (flow_of (model pkg) (rates_of pkg) i h)

-- the flows of all states
pub record AreFlows (pkg : Package) (flows : List Scaled) : Type 0 where
  pub sides : List Scaled
  pub right : AreRightSides pkg sides
  pub linear : AreLinear pkg sides
  pub heights : ℕ → ℕ
  pub are_heights : AreHeights (model pkg) (polys sides) heights
  pub count : length flows ≡ length pkg.names.states
  pub each : (i : ℕ) → IfSome (slice_get flows i) (IsFlowOf pkg sides i (heights i))
