-- What the laws of the crates below say.
use Rattle.std.proofs.Common.{◌≡◌, ◌<◌, ◌≤◌, Bool, true, not, IsTrue, List}
use Rattle.vp_terms.specs.Rational.{Equals}
use Rattle.vp_terms.specs.Meaning.{Assignment, value, holds}
use Rattle.vp_terms.specs.Places.{has_variable, place, place_count}
use Rattle.vp_terms.specs.Variables.{all_variables, all_variables_of}
use Rattle.vp_terms.specs.WellFormed.{is_allowed, is_good_expr, is_good_formula}
use Rattle.vp_terms.specs.declared.expr.Places.{Places}
use Rattle.vp_terms.specs.declared.expr.Var.{Var}
use Rattle.vp_terms.specs.declared.expr.Expr.{Expr}
use Rattle.vp_terms.specs.declared.formula.Formula.{Formula}
use Rattle.vp_terms.specs.declared.well_formed.Kinds.{Kinds}
use Rattle.vp_poly.specs.Canonical.{own_weights, variables}
use Rattle.vp_poly.specs.Coefficient.{Coefficients, coefficients}
use Rattle.vp_poly.specs.Points.{IsAt}
use Rattle.vp_poly.specs.Replaced.{formula_replaced, replaced}
use Rattle.vp_poly.specs.Value.{Point}
use Rattle.vp_poly.specs.Weights.{Weights, weight, weight_at, weight_in}
use Rattle.vp_logic.specs.Narrow.{comparisons_fit, is_narrow, terms_of}
use Rattle.vp_logic.specs.Normal.{IsNormal}
use Rattle.vp_logic.specs.Tree.{Tree, negated}
use Rattle.vp_logic.specs.Truth.{tree_holds}

-- ---- variables have places of their own

pub record Placed : Type 0 where
  pub in_range : (p : Places) (v : Var) → IsTrue (has_variable p v) → place p v < place_count p
  pub different : (p : Places) (v w : Var) → IsTrue (has_variable p v) → IsTrue (has_variable p w) → place p v ≡ place p w → v ≡ w

-- ---- replaced variables

abbrev pub CoefficientsCompose : Type 0
CoefficientsCompose = (f : Var → Coefficients) (s : Var → Expr) (e : Expr) → coefficients f (replaced s e) ≡ coefficients (λ v. coefficients f (s v)) e

abbrev pub WeightsCompose : Type 0
WeightsCompose = (w : Var → Weights) (s : Var → Expr) (e : Expr) → weight w (replaced s e) ≡ weight (λ v. weight w (s v)) e

-- the weights and coefficients of the variables of the model are those of the expressions that they stand for
abbrev pub WeighedAlike : Places → List Weights → List Weights → (Var → Expr) → Type 0
WeighedAlike p ws vs s = (v : Var) → IsTrue (has_variable p v) → weight_at p ws v ≡ weight_in p vs (s v)

abbrev pub CoefficientsAlike : Places → (Var → Coefficients) → (Var → Coefficients) → (Var → Expr) → Type 0
CoefficientsAlike p c d s = (v : Var) → IsTrue (has_variable p v) → c v ≡ coefficients d (s v)

pub record FormsCompose : Type 0 where
  pub forms : (p : Places) (ws vs : List Weights) (c d : Var → Coefficients) (s : Var → Expr) → WeighedAlike p ws vs s → CoefficientsAlike p c d s → (f : Formula) (t : Tree) → IsTrue (all_variables_of (has_variable p) f) → IsNormal p ws c f t → IsNormal p vs d (formula_replaced s f) t
  pub narrow : (p : Places) (ws vs : List Weights) (c d : Var → Coefficients) (s : Var → Expr) → WeighedAlike p ws vs s → CoefficientsAlike p c d s → (f : Formula) → IsTrue (all_variables_of (has_variable p) f) → is_narrow p ws f ≡ is_narrow p vs (formula_replaced s f)

abbrev pub TermsCompose : Type 0
TermsCompose = (p : Places) (ws vs : List Weights) (c d : Var → Coefficients) (s : Var → Expr) → WeighedAlike p ws vs s → CoefficientsAlike p c d s → (f : Formula) → IsTrue (all_variables_of (has_variable p) f) → terms_of p ws f ≡ terms_of p vs (formula_replaced s f)

-- ---- what formulas and their normal forms mean

pub record MeaningDepends : Type 0 where
  pub values : (t : Var → Bool) (e : Expr) (a b : Assignment) → IsTrue (all_variables t e) → ((v : Var) → IsTrue (t v) → Equals (a v) (b v)) → Equals (value e a) (value e b)
  pub truth : (t : Var → Bool) (f : Formula) (a b : Assignment) → IsTrue (all_variables_of t f) → ((v : Var) → IsTrue (t v) → Equals (a v) (b v)) → holds f a ≡ holds f b

pub record MeaningComposes : Type 0 where
  pub values : (a : Assignment) (s : Var → Expr) (e : Expr) → value (replaced s e) a ≡ value e (λ v. value (s v) a)
  pub truth : (a : Assignment) (s : Var → Expr) (f : Formula) → holds (formula_replaced s f) a ≡ holds f (λ v. value (s v) a)
  pub variables : (t u : Var → Bool) (s : Var → Expr) (e : Expr) → ((v : Var) → IsTrue (t v) → IsTrue (all_variables u (s v))) → IsTrue (all_variables t e) → IsTrue (all_variables u (replaced s e))
  pub formula_variables : (t u : Var → Bool) (s : Var → Expr) (f : Formula) → ((v : Var) → IsTrue (t v) → IsTrue (all_variables u (s v))) → IsTrue (all_variables_of t f) → IsTrue (all_variables_of u (formula_replaced s f))

pub record PartsAllowed : Type 0 where
  pub expressions : (k : Kinds) (p : Places) (e : Expr) → IsTrue (is_good_expr k p e) → IsTrue (all_variables (is_allowed k p) e)
  pub formulas : (k : Kinds) (p : Places) (f : Formula) → IsTrue (is_good_formula k p f) → IsTrue (all_variables_of (is_allowed k p) f)

pub record FormsHold : Type 0 where
  pub formulas : (p : Places) → place_count p ≤ 32 → (x : Point) (a : Assignment) → IsAt p x a → (f : Formula) (t : Tree) → IsTrue (all_variables_of (has_variable p) f) → comparisons_fit p (own_weights (place_count p)) f ≡ true → IsNormal p (own_weights (place_count p)) (variables p) f t → tree_holds t x ≡ holds f a
  pub negated : (t : Tree) (x : Point) → tree_holds (negated t) x ≡ not (tree_holds t x)

-- all that the meaning of paths rests on
pub record Meant : Type 0 where
  pub depends : MeaningDepends
  pub composes : MeaningComposes
  pub allowed : PartsAllowed
  pub forms : FormsHold
