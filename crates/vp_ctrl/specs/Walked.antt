-- How far a walk along a way has come.
use Rattle.std.specs.Prelude.{◌≡◌, ℕ, Bool, true, ◌<◌, ◌≤◌, List, [], ◌∷◌, IsTrue, map, sum_by}
use Rattle.std.specs.List.{list_all}
use Rattle.vp_terms.specs.Places.{has_variable, place_count}
use Rattle.vp_terms.specs.WellFormed.{in_model, is_good_expr, is_good_formula}
use Rattle.vp_terms.specs.declared.expr.Places.{Places}
use Rattle.vp_terms.specs.declared.expr.Var.{Var}
use Rattle.vp_terms.specs.declared.expr.Expr.{Expr}
use Rattle.vp_poly.specs.declared.scaled.Scaled.{Scaled}
use Rattle.vp_poly.specs.Coefficient.{coefficients}
use Rattle.vp_poly.specs.Weights.{weight_at, weight_in}
use Rattle.vp_poly.specs.Canonical.{IsEnvironment, StandsFor, StandsWithin, own_weights, variables, weights_of}
use Rattle.vp_logic.specs.Sized.{EachHasOnly, EachIsSized}
use Rattle.vp_logic.specs.Tree.{Tree, tree}
use Rattle.vp_ctrl.specs.declared.walk.Walk.{Walk}
use Rattle.vp_ctrl.specs.Ways.{Move, Gives, GivesAny, Passes, Fails, Way}
use Rattle.vp_ctrl.specs.Following.{StandIns, Condition, stands}
use Rattle.vp_ctrl.specs.Widths.{all_conditions, all_right_sides, condition_fits, condition_terms, is_small}
use Rattle.vp_ctrl.specs.Paths.{AllowsPaths, AreParts, ArePaths, EachPathHasOnly, EachPathIsSized, is_on_path}
use Rattle.vp_ctrl.specs.declared.path.Path.{Path}

-- the polynomials in `env` are those of what each variable of the model stands for
pub record Follows (p : Places) (env : List Scaled) (s : StandIns) : Type 0 where
  pub environment : IsEnvironment (place_count p) env
  pub weights : (v : Var) → IsTrue (has_variable p v) → weight_at p (weights_of env) v ≡ weight_in p (own_weights (place_count p)) (stands s v)
  pub stand_for : StandsFor p env (λ v. coefficients (variables p) (stands s v))
  pub only : (allowed : ℕ → Bool) → AllowsPaths p allowed → StandsWithin p env (is_on_path p) allowed

-- the parts are those of the conditions, and have small polynomials with places of paths alone
pub record HasParts (p : Places) (cs : List Condition) (parts : List Tree) : Type 0 where
  pub are : AreParts p cs parts
  pub sized : EachIsSized (place_count p) parts
  pub only : (allowed : ℕ → Bool) → AllowsPaths p allowed → EachHasOnly allowed parts

-- no right side and no comparison is over, and all comparisons have at most 65,536 terms
pub record AreNarrow (p : Places) (rs : List Expr) (cs : List Condition) : Type 0 where
  pub small : list_all (is_small p) rs ≡ true
  pub fit : list_all (condition_fits p) cs ≡ true
  pub few : sum_by (condition_terms p) cs ≤ 65536

-- and so over all ways
abbrev pub WaysAreNarrow : Places → List Way → Type 0
WaysAreNarrow p ws = AreNarrow p (all_right_sides ws) (all_conditions p ws)

-- the walk has come to where controls stand for s, with these right sides and conditions
pub record HasCome (p : Places) (walk : Walk) (s : StandIns) (rs : List Expr) (cs : List Condition) : Type 0 where
  pub follows : Follows p walk.env.items s
  pub parts : HasParts p cs (map tree walk.parts.items)
  pub narrow : AreNarrow p rs cs
  pub terms : walk.terms ≡ sum_by (condition_terms p) cs

-- the statement may stand in a controller
abbrev pub IsGoodMove : Places → Move → Type 0
IsGoodMove p (Gives c e) = (c < p.controls) × IsTrue (is_good_expr in_model p e)
IsGoodMove p (GivesAny c) = c < p.controls
IsGoodMove p (Passes f) = IsTrue (is_good_formula in_model p f)
IsGoodMove p (Fails f) = IsTrue (is_good_formula in_model p f)

-- and so each of a way
abbrev pub IsGoodWay : Places → Way → Type 0
IsGoodWay p [] = Unit {0}
IsGoodWay p (m ∷ w) = IsGoodMove p m × IsGoodWay p w

-- and so each way of a list
abbrev pub AreGoodWays : Places → List Way → Type 0
AreGoodWays p [] = Unit {0}
AreGoodWays p (w ∷ ws) = IsGoodWay p w × AreGoodWays p ws

-- the paths are those of the ways
pub record HaveCome (p : Places) (ws : List Way) (paths : List Path) : Type 0 where
  pub are : ArePaths p ws paths
  pub sized : EachPathIsSized (place_count p) paths
  pub only : (allowed : ℕ → Bool) → AllowsPaths p allowed → EachPathHasOnly allowed paths
  pub narrow : WaysAreNarrow p ws
