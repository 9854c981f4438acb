-- The forms of formulas whose variables stand for themselves.
use Rattle.std.proofs.Common.{◌≡◌, Bool, IsTrue, List, refl, ap, subst}
use Rattle.vp_words.specs.declared.record.Counts.{Counts}
use Rattle.vp_terms.specs.Rational.{Rational, Equals}
use Rattle.vp_terms.specs.Control.{Values, assigned, changing}
use Rattle.vp_terms.specs.Places.{has_variable, place, place_count}
use Rattle.vp_terms.specs.Variables.{all_variables, all_variables_of}
use Rattle.vp_terms.specs.WellFormed.{in_model, is_allowed, is_good_expr, is_good_formula}
use Rattle.vp_terms.specs.declared.expr.Expr.{Expr}
use Rattle.vp_terms.specs.declared.expr.Places.{Places}
use Rattle.vp_terms.specs.declared.expr.Var.{Var}
use Rattle.vp_terms.specs.declared.expr.Var.TheVariants.{Param, State, Control, NextState, NextControl, Tau}
use Rattle.vp_terms.specs.declared.formula.Formula.{Formula}
use Rattle.vp_terms.specs.declared.well_formed.Kinds.{Kinds}
use Rattle.vp_terms.proofs.RationalLaws.{Equals-refl}
use Rattle.vp_poly.specs.declared.scaled.Scaled.{Scaled}
use Rattle.vp_poly.specs.Canonical.{own_weights, variables, weights_of}
use Rattle.vp_poly.specs.Places.{places_for}
use Rattle.vp_poly.specs.Weights.{Weights}
use Rattle.vp_logic.specs.Narrow.{is_narrow}
use Rattle.vp_logic.specs.Normal.{IsNormal}
use Rattle.vp_logic.specs.Tree.{Tree}
use Rattle.vp_poly.specs.declared.canonical.PolyErr.{PolyErr}
use Rattle.vp_poly.specs.declared.canonical.PolyErr.TheVariants as poly
use Rattle.vp_monitor.specs.declared.error.Place.{Place}
use Rattle.vp_monitor.specs.Errors.{Tells, of_poly}
use Rattle.vp_monitor.specs.Plant.{IsOwnNormal}
use Rattle.vp_monitor.specs.Standing.{AreSelves}

-- what is known of variables
pub record Variables : Type 0 where
  pub expressions : (k : Kinds) (p : Places) (e : Expr) → IsTrue (is_good_expr k p e) → IsTrue (all_variables (is_allowed k p) e)
  pub formulas : (k : Kinds) (p : Places) (f : Formula) → IsTrue (is_good_formula k p f) → IsTrue (all_variables_of (is_allowed k p) f)
  pub allowed : (k : Kinds) (p : Places) (v : Var) → IsTrue (is_allowed k p v) → IsTrue (has_variable p v)
  pub weaker : (t u : Var → Bool) (e : Expr) → ((v : Var) → IsTrue (t v) → IsTrue (u v)) → IsTrue (all_variables t e) → IsTrue (all_variables u e)
  pub weaker_formula : (t u : Var → Bool) (f : Formula) → ((v : Var) → IsTrue (t v) → IsTrue (u v)) → IsTrue (all_variables_of t f) → IsTrue (all_variables_of u f)

-- well formed expressions and formulas have variables of the model alone
pub in_places : Variables → (k : Kinds) (p : Places) (e : Expr) → IsTrue (is_good_expr k p e) → IsTrue (all_variables (has_variable p) e)
in_places law k p e g = law.weaker (is_allowed k p) (has_variable p) e (law.allowed k p) (law.expressions k p e g)

pub formula_in_places : Variables → (k : Kinds) (p : Places) (f : Formula) → IsTrue (is_good_formula k p f) → IsTrue (all_variables_of (has_variable p) f)
formula_in_places law k p f g = law.weaker_formula (is_allowed k p) (has_variable p) f (law.allowed k p) (law.formulas k p f g)

-- formulas of a model read parameters, states and controls before the round
pub before_round : (p : Places) (q x u v y : Values) (t : Rational) (w : Var) → IsTrue (is_allowed in_model p w) → Equals (changing q x u v t y w) (assigned q x u w)
before_round p q x u v y t (Param i) h = Equals-refl (q i)
before_round p q x u v y t (State i) h = Equals-refl (x i)
before_round p q x u v y t (Control i) h = Equals-refl (u i)
before_round p q x u v y t (NextState i) h = absurd (cc)
before_round p q x u v y t (NextControl i) h = absurd (cc)
before_round p q x u v y t Tau h = absurd (cc)

-- the weights of an environment of variables themselves
pub own_weights_are : (c : Counts) (env : List Scaled) → AreSelves c env → weights_of env ≡ own_weights (place_count (places_for c))
own_weights_are c env h = ap weights_of h.exact

pub own_form : (c : Counts) (env : List Scaled) → AreSelves c env → (f : Formula) (t : Tree) → IsNormal (places_for c) (weights_of env) (variables (places_for c)) f t → IsOwnNormal (places_for c) f t
own_form c env h f t n = subst (λ (ws : List Weights). IsNormal (places_for c) ws (variables (places_for c)) f t) (own_weights_are c env h) n

pub narrow_is : (c : Counts) (env : List Scaled) → AreSelves c env → (f : Formula) → is_narrow (places_for c) (weights_of env) f ≡ is_narrow (places_for c) (own_weights (place_count (places_for c))) f
narrow_is c env h f = ap (λ (ws : List Weights). is_narrow (places_for c) ws f) (own_weights_are c env h)

-- why there is no form
pub tells : (place : Place) (P : Type 0) (r : PolyErr) → (r ≡ poly.Wide → P) → Tells place P (of_poly place r)
tells place P poly.Wide h = (refl, h refl)
tells place P poly.Memory h = tt
