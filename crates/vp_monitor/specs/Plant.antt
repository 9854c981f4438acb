-- The conjuncts of the plant monitor.
use Rattle.std.specs.Prelude.{◌≡◌, ◌⊎◌, ℕ, suc, List, [], ◌∷◌, ◌++◌}
use Rattle.vp_terms.specs.Rational.{Equals, difference}
use Rattle.vp_terms.specs.Places.{place_count}
use Rattle.vp_terms.specs.declared.expr.Places.{Places}
use Rattle.vp_terms.specs.declared.expr.Var.{Var}
use Rattle.vp_terms.specs.declared.expr.Var.TheVariants.{Param, State, Control, NextState, NextControl, Tau}
use Rattle.vp_terms.specs.declared.expr.Expr.{Expr}
use Rattle.vp_terms.specs.declared.expr.Expr.TheVariants.{Var as Variable}
use Rattle.vp_terms.specs.declared.formula.Cmp.TheVariants.{Le, Ge as AtLeast}
use Rattle.vp_terms.specs.declared.formula.Formula.{Formula}
use Rattle.vp_terms.specs.declared.formula.Formula.TheVariants.{Cmp as Compare}
use Rattle.vp_terms.specs.declared.package.Slack.{Slack}
use Rattle.vp_terms.specs.declared.package.Plant.{Plant}
use Rattle.vp_terms.specs.declared.package.Package.{Package}
use Rattle.vp_poly.specs.declared.mono.Term.{Term}
use Rattle.vp_poly.specs.declared.scaled.Scaled.{Scaled}
use Rattle.vp_poly.specs.Canonical.{IsCanonical, own_weight, own_weights, variables}
use Rattle.vp_poly.specs.Coefficient.{Coefficients, coefficients}
use Rattle.vp_poly.specs.Replaced.{formula_replaced}
use Rattle.vp_poly.specs.Weights.{Weights, weight_between, weight_one, weight_sum}
use Rattle.vp_logic.specs.declared.norm.Rel.{Rel}
use Rattle.vp_logic.specs.declared.norm.Rel.TheVariants.{Ge, Eq}
use Rattle.vp_logic.specs.Normal.{IsNormal}
use Rattle.vp_logic.specs.Tree.{Tree, atom, conjuncts_of}
use Rattle.vp_flow.specs.Bounds.{bounds_of}
use Rattle.vp_flow.specs.Outcome.{AreFlows}
use Rattle.vp_flow.specs.Series.{flow_of}
use Rattle.vp_flow.specs.Sides.{model, rates_of}
use Rattle.vp_flow.specs.Weights.{flow_weight}

-- the tree is the normal form of a formula whose variables stand for themselves
abbrev pub IsOwnNormal : Places → Formula → Tree → Type 0
IsOwnNormal p f t = IsNormal p (own_weights (place_count p)) (variables p) f t

-- the tree is the atom of the canonical polynomial with these coefficients, over the denominator of w
pub record IsAtomOf (w : Weights) (f : Coefficients) (rel : Rel) (t : Tree) : Type 0 where
  pub poly : List Term
  pub is : t ≡ atom rel poly
  pub canonical : IsCanonical w.den poly f

-- ---- the time of a round

-- `tau >= low` and `tau <= high`
abbrev pub since_low : Plant → Formula
since_low plant = Compare AtLeast (Variable Tau) plant.low

abbrev pub until_high : Plant → Formula
until_high plant = Compare Le (Variable Tau) plant.high

-- the two conjuncts are their normal forms
pub record AreTimeConjuncts (p : Places) (plant : Plant) (ts : List Tree) : Type 0 where
  pub low : Tree
  pub high : Tree
  pub are : ts ≡ low ∷ high ∷ []
  pub is_low : IsOwnNormal p (since_low plant) low
  pub is_high : IsOwnNormal p (until_high plant) high

-- ---- the slack of a state i, whose flow Phi has the coefficients f and the weight w

-- the drift x@ - Phi
abbrev pub drift : Places → ℕ → Coefficients → Coefficients
drift p i f m = difference (variables p (NextState i) m) (f m)

abbrev pub drift_weight : Weights → Weights
drift_weight w = weight_sum weight_one w

-- the drift less the low bound
abbrev pub above_low : Places → ℕ → Coefficients → Slack → Coefficients
above_low p i f s m = difference (drift p i f m) (coefficients (variables p) s.low m)

abbrev pub above_low_weight : Places → Weights → Slack → Weights
above_low_weight p w s = weight_sum (drift_weight w) (own_weight p s.low)

-- the high bound less the drift
abbrev pub below_high : Places → ℕ → Coefficients → Slack → Coefficients
below_high p i f s m = difference (coefficients (variables p) s.high m) (drift p i f m)

abbrev pub below_high_weight : Places → Weights → Slack → Weights
below_high_weight p w s = weight_sum (own_weight p s.high) (drift_weight w)

-- the weight of the high bound less the low one
abbrev pub span_weight : Places → Slack → Weights
span_weight p s = weight_between p (own_weights (place_count p)) s.high s.low

-- the two bounds are the same polynomial
pub record IsTight (p : Places) (s : Slack) : Type 0 where
  pub same : (m : List ℕ) → Equals (coefficients (variables p) s.high m) (coefficients (variables p) s.low m)

-- the conjuncts of the state: one equation where the bounds are the same, and else two inequalities
abbrev pub AreSlackConjuncts : Places → ℕ → Coefficients → Weights → Slack → List Tree → Type 0
AreSlackConjuncts p i f w s ts =
    (IsTight p s × (t : Tree) × (ts ≡ t ∷ []) × IsAtomOf (above_low_weight p w s) (above_low p i f s) Eq t)
    ⊎ ((¬ IsTight p s) × (t u : Tree) × (ts ≡ t ∷ u ∷ []) × IsAtomOf (above_low_weight p w s) (above_low p i f s) Ge t
    × IsAtomOf (below_high_weight p w s) (below_high p i f s) Ge u)

-- those of the states from number i on, one after the other
abbrev pub AreAllSlackConjuncts : Places → (ℕ → Coefficients) → (ℕ → Weights) → ℕ → List Slack → List Tree → Type 0
AreAllSlackConjuncts p f w i [] ts = ts ≡ []
AreAllSlackConjuncts p f w i (s ∷ ss) ts =
    (us vs : List Tree) × (ts ≡ us ++ vs) × AreSlackConjuncts p i (f i) (w i) s us × AreAllSlackConjuncts p f w (suc i) ss vs

-- ---- the domain, at the new states

-- each state stands for its next value
abbrev pub arriving : Var → Expr
arriving (Param i) = Variable (Param i)
arriving (State i) = Variable (NextState i)
arriving (Control i) = Variable (Control i)
arriving (NextState i) = Variable (NextState i)
arriving (NextControl i) = Variable (NextControl i)
arriving Tau = Variable Tau

abbrev pub arrived : Plant → Formula
arrived plant = formula_replaced arriving plant.domain

-- the conjuncts of its normal form
pub record AreDomainConjuncts (p : Places) (plant : Plant) (ts : List Tree) : Type 0 where
  pub form : Tree
  pub are : ts ≡ conjuncts_of form
  pub is_form : IsOwnNormal p (arrived plant) form

-- ---- all conjuncts

-- the coefficients and the weights of the flows of states with these heights
abbrev pub flow_coefficients : Package → (ℕ → ℕ) → ℕ → Coefficients
flow_coefficients pkg heights i = flow_of (model pkg) (rates_of pkg) i (heights i)

abbrev pub flow_weights : List Scaled → (ℕ → ℕ) → ℕ → Weights
flow_weights sides heights i = flow_weight (bounds_of sides) (heights i)

-- those of the time; then of the slack of each state; then of the domain at the new states
pub record ArePlantConjuncts (pkg : Package) (ts : List Tree) : Type 0 where
  pub flows : List Scaled
  pub are_flows : AreFlows pkg flows
  pub time : List Tree
  pub slack : List Tree
  pub domain : List Tree
  pub are : ts ≡ time ++ slack ++ domain
  pub are_time : AreTimeConjuncts (model pkg) pkg.plant time
  pub are_slack : AreAllSlackConjuncts (model pkg) (flow_coefficients pkg are_flows.heights) (flow_weights are_flows.sides are_flows.heights) 0 pkg.plant.slack slack
  pub are_domain : AreDomainConjuncts (model pkg) pkg.plant domain
