-- Why a package has no monitors: conditions in their order, of which the first that holds is told.
use Rattle.std.specs.Prelude.{◌≡◌, ◌≢◌, ⊤, ◌⊎◌, ℕ, ◌<◌, ◌≤◌, Bool, true, false, Some, None, List, length, slice_get}
use Rattle.vp_terms.specs.Places.{place_count}
use Rattle.vp_terms.specs.declared.expr.Expr.{Expr}
use Rattle.vp_terms.specs.declared.expr.Expr.TheVariants.{Var as Variable}
use Rattle.vp_terms.specs.declared.expr.Var.TheVariants.{NextControl, Tau}
use Rattle.vp_terms.specs.declared.formula.Formula.{Formula}
use Rattle.vp_terms.specs.declared.expr.Places.{Places}
use Rattle.vp_terms.specs.declared.package.Slack.{Slack}
use Rattle.vp_terms.specs.declared.package.Plant.{Plant}
use Rattle.vp_terms.specs.declared.package.Package.{Package}
use Rattle.vp_poly.specs.declared.scaled.Scaled.{Scaled}
use Rattle.vp_poly.specs.Canonical.{own_weight, own_weights}
use Rattle.vp_poly.specs.Weights.{Weights, fits, weight_between}
use Rattle.vp_logic.specs.Narrow.{is_narrow}
use Rattle.vp_ctrl.specs.declared.path.PathErr.TheVariants as path
use Rattle.vp_ctrl.specs.Hidden.{first_hidden}
use Rattle.vp_ctrl.specs.Paths.{Refuses as RefusedPaths}
use Rattle.vp_ctrl.specs.Ways.{way_count, ways}
use Rattle.vp_ctrl.specs.Widths.{ways_are_narrow}
use Rattle.vp_flow.specs.declared.error.FlowErr.TheVariants as flow
use Rattle.vp_flow.specs.Outcome.{AreFlows, Refuses as RefusedFlow}
use Rattle.vp_flow.specs.Sides.{model}
use Rattle.vp_monitor.specs.declared.error.MonErr.{MonErr}
use Rattle.vp_monitor.specs.declared.error.MonErr.TheVariants.{Wide, Paths, Hidden, NotLinear, Cycle, Fraction, Memory}
use Rattle.vp_monitor.specs.declared.error.Place.TheVariants.{Init, Inv, Safe, Ctrl, Flow, Time, Slack as SlackOf, Domain, Fallback}
use Rattle.vp_monitor.specs.Plant.{IsTight, above_low_weight, arrived, below_high_weight, flow_weights, span_weight}

-- ---- what isn't over

-- no comparison of a formula is over, and they have few terms
abbrev pub fits_in : Places → Formula → Bool
fits_in p f = is_narrow p (own_weights (place_count p)) f

-- nor is the difference of two expressions
abbrev pub difference_fits : Places → Expr → Expr → Bool
difference_fits p a b = fits (weight_between p (own_weights (place_count p)) a b)

-- some expression that the conjuncts of a slack are made of is over, where w is the weight of the flow: the
-- difference of its bounds, the drift less the low bound, or, unless the bounds are the same, the high
-- bound less the drift
abbrev pub IsSlackOver : Places → Weights → Slack → Type 0
IsSlackOver p w s =
    (fits (span_weight p s) ≡ false)
    ⊎ ((fits (above_low_weight p w s) ≡ false)
    ⊎ ((¬ IsTight p s) × (fits (below_high_weight p w s) ≡ false)))

-- and none is
pub record SlackFits (p : Places) (w : Weights) (s : Slack) : Type 0 where
  pub span : fits (span_weight p s) ≡ true
  pub low : fits (above_low_weight p w s) ≡ true
  pub high : (¬ IsTight p s) → fits (below_high_weight p w s) ≡ true

-- the slacks of the first n states fit
abbrev pub SlackFitsBelow : Places → (ℕ → Weights) → List Slack → ℕ → Type 0
SlackFitsBelow p w slack n = (i : ℕ) (s : Slack) → i < n → slice_get slack i ≡ Some s → SlackFits p (w i) s

-- ---- what passes

pub record FormulasPass (pkg : Package) : Type 0 where
  pub init : fits_in (model pkg) pkg.init ≡ true
  pub inv : fits_in (model pkg) pkg.inv ≡ true
  pub safe : fits_in (model pkg) pkg.safe ≡ true

pub record CtrlPasses (pkg : Package) : Type 0 where
  pub few : way_count pkg.ctrl ≤ 256
  pub unhidden : first_hidden (ways pkg.ctrl) ≡ None
  pub narrow : ways_are_narrow (model pkg) (ways pkg.ctrl) ≡ true

pub record FlowPasses (pkg : Package) : Type 0 where
  pub flows : List Scaled
  pub are_flows : AreFlows pkg flows

pub record TimePasses (p : Places) (plant : Plant) : Type 0 where
  pub low : difference_fits p (Variable Tau) plant.low ≡ true
  pub high : difference_fits p plant.high (Variable Tau) ≡ true

-- the weight of the flow of a state
abbrev pub weight_of_flow : (pkg : Package) → FlowPasses pkg → ℕ → Weights
weight_of_flow pkg f i = flow_weights f.are_flows.sides f.are_flows.heights i

-- the fallback's expression e of a control: its equation isn't over, and it has a whole polynomial
pub record IsFallbackGood (p : Places) (k : ℕ) (e : Expr) : Type 0 where
  pub fits : difference_fits p (Variable (NextControl k)) e ≡ true
  pub whole : (own_weight p e).den ≡ 1

-- and so those of the first n controls
abbrev pub FallbackGoodBelow : Places → List Expr → ℕ → Type 0
FallbackGoodBelow p es n = (k : ℕ) (e : Expr) → k < n → slice_get es k ≡ Some e → IsFallbackGood p k e

-- ---- what passes before each stage

pub record BeforeFlow (pkg : Package) : Type 0 where
  pub formulas : FormulasPass pkg
  pub ctrl : CtrlPasses pkg

-- the flow, the time and the slacks of the first n states
pub record SlackPasses (pkg : Package) (n : ℕ) : Type 0 where
  pub flow : FlowPasses pkg
  pub time : TimePasses (model pkg) pkg.plant
  pub slack : SlackFitsBelow (model pkg) (weight_of_flow pkg flow) pkg.plant.slack n

pub record PlantPasses (pkg : Package) : Type 0 where
  pub slack : SlackPasses pkg (length pkg.plant.slack)
  pub domain : fits_in (model pkg) (arrived pkg.plant) ≡ true

pub record BeforeFallback (pkg : Package) (n : ℕ) : Type 0 where
  pub before : BeforeFlow pkg
  pub plant : PlantPasses pkg
  pub fallback : FallbackGoodBelow (model pkg) pkg.fallback n

-- nothing refuses the monitors
abbrev pub Passes : Package → Type 0
Passes pkg = BeforeFallback pkg (length pkg.fallback)

-- ---- refusals

-- the flow is refused, with the number of the state in place of its name where a weight is over
abbrev pub RefusesFlow : Package → MonErr → Type 0
RefusesFlow pkg (Wide (Flow i)) =
    (name : List ℕ) × (slice_get pkg.names.states i ≡ Some name) × (RefusedFlow pkg (flow.Rate name) ⊎ RefusedFlow pkg (flow.Wide name))
RefusesFlow pkg (NotLinear name) = RefusedFlow pkg (flow.NotLinear name)
RefusesFlow pkg (Cycle names) = RefusedFlow pkg (flow.Cycle names)
RefusesFlow pkg Memory = ⊤
RefusesFlow pkg e = ⊥

-- a bound of the time is over
abbrev pub IsTimeOver : Places → Plant → Type 0
IsTimeOver p plant = (difference_fits p (Variable Tau) plant.low ≡ false) ⊎ (difference_fits p plant.high (Variable Tau) ≡ false)

-- the slack of state i is over, the first, where w are the weights of the flows
abbrev pub IsFirstSlackOver : Places → (ℕ → Weights) → List Slack → ℕ → Type 0
IsFirstSlackOver p w slack i = (s : Slack) × (slice_get slack i ≡ Some s) × IsSlackOver p (w i) s × SlackFitsBelow p w slack i

-- the conjuncts of the plant are refused
abbrev pub RefusesPlant : Package → MonErr → Type 0
RefusesPlant pkg (Wide Time) = FlowPasses pkg × IsTimeOver (model pkg) pkg.plant
RefusesPlant pkg (Wide (SlackOf i)) =
    (f : FlowPasses pkg) × TimePasses (model pkg) pkg.plant × IsFirstSlackOver (model pkg) (weight_of_flow pkg f) pkg.plant.slack i
RefusesPlant pkg (Wide Domain) = SlackPasses pkg (length pkg.plant.slack) × (fits_in (model pkg) (arrived pkg.plant) ≡ false)
RefusesPlant pkg Memory = ⊤
RefusesPlant pkg e = ⊥

-- the fallback of control k is over
abbrev pub IsFallbackOver : Places → List Expr → ℕ → Type 0
IsFallbackOver p es k = (e : Expr) × (slice_get es k ≡ Some e) × (difference_fits p (Variable (NextControl k)) e ≡ false)

-- that of control k has a denominator other than 1, and isn't over
abbrev pub IsFraction : Places → List Expr → ℕ → Type 0
IsFraction p es k =
    (e : Expr) × (slice_get es k ≡ Some e) × (difference_fits p (Variable (NextControl k)) e ≡ true) × ((own_weight p e).den ≢ 1)

-- the fallback is refused, at the first control that is over or has a fraction
abbrev pub RefusesFallback : Package → MonErr → Type 0
RefusesFallback pkg (Wide (Fallback k)) = IsFallbackOver (model pkg) pkg.fallback k × FallbackGoodBelow (model pkg) pkg.fallback k
RefusesFallback pkg (Fraction name) =
    (k : ℕ) × (slice_get pkg.names.controls k ≡ Some name) × IsFraction (model pkg) pkg.fallback k × FallbackGoodBelow (model pkg) pkg.fallback k
RefusesFallback pkg Memory = ⊤
RefusesFallback pkg e = ⊥

-- the controller is refused
abbrev pub RefusesPaths : Package → MonErr → Type 0
RefusesPaths pkg (Wide Ctrl) = RefusedPaths pkg path.Wide
RefusesPaths pkg (Paths count) = RefusedPaths pkg (path.Paths count)
RefusesPaths pkg (Hidden name) = RefusedPaths pkg (path.Hidden name)
RefusesPaths pkg Memory = ⊤
RefusesPaths pkg e = ⊥

-- a formula is over, the first of the three
abbrev pub RefusesFormula : Package → MonErr → Type 0
RefusesFormula pkg (Wide Init) = fits_in (model pkg) pkg.init ≡ false
RefusesFormula pkg (Wide Inv) = (fits_in (model pkg) pkg.init ≡ true) × (fits_in (model pkg) pkg.inv ≡ false)
RefusesFormula pkg (Wide Safe) = (fits_in (model pkg) pkg.init ≡ true) × (fits_in (model pkg) pkg.inv ≡ true) × (fits_in (model pkg) pkg.safe ≡ false)
RefusesFormula pkg Memory = ⊤
RefusesFormula pkg e = ⊥

-- the refusal is due, at the first stage that refuses; want of memory always may be
abbrev pub Refuses : Package → MonErr → Type 0
Refuses pkg e =
    RefusesFormula pkg e
    ⊎ ((FormulasPass pkg × RefusesPaths pkg e)
    ⊎ ((BeforeFlow pkg × RefusesFlow pkg e)
    ⊎ ((BeforeFlow pkg × RefusesPlant pkg e)
    ⊎ (BeforeFlow pkg × PlantPasses pkg × RefusesFallback pkg e))))
