-- Ways whose expressions are not over, and that have few terms.
use Rattle.std.specs.Prelude.{ℕ, Bool, ◌&&◌, nat_le, List, sum_by}
use Rattle.std.specs.List.{flat_map, list_all}
use Rattle.vp_terms.specs.Places.{place_count}
use Rattle.vp_terms.specs.declared.expr.Places.{Places}
use Rattle.vp_terms.specs.declared.expr.Expr.{Expr}
use Rattle.vp_poly.specs.Weights.{fits, weight_in}
use Rattle.vp_poly.specs.Canonical.{own_weights}
use Rattle.vp_logic.specs.Narrow.{comparisons_fit, terms_of}
use Rattle.vp_ctrl.specs.Ways.{Way}
use Rattle.vp_ctrl.specs.Following.{Condition, at_first, right_sides, conditions}

-- a right side isn't over
abbrev pub is_small : Places → Expr → Bool
is_small p e = fits (weight_in p (own_weights (place_count p)) e)

-- no comparison of a condition is over
abbrev pub condition_fits : Places → Condition → Bool
condition_fits p c = comparisons_fit p (own_weights (place_count p)) c.formula

-- the terms of its comparisons
abbrev pub condition_terms : Places → Condition → ℕ
condition_terms p c = terms_of p (own_weights (place_count p)) c.formula

-- no right side and no comparison is over, and all comparisons have at most 65,536 terms
abbrev pub are_narrow : Places → List Expr → List Condition → Bool
are_narrow p rs cs = list_all (is_small p) rs && (list_all (condition_fits p) cs && nat_le (sum_by (condition_terms p) cs) 65536)

-- the assigned right sides of all ways
abbrev pub all_right_sides : List Way → List Expr
all_right_sides ws = flat_map (right_sides at_first) ws

-- and the conditions of all ways
abbrev pub all_conditions : Places → List Way → List Condition
all_conditions p ws = flat_map (conditions p.controls) ws

-- and so for the right sides and the conditions of all ways
abbrev pub ways_are_narrow : Places → List Way → Bool
ways_are_narrow p ws = are_narrow p (all_right_sides ws) (all_conditions p ws)
