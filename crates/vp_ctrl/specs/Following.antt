-- What controls stand for along a way, and the conditions of a way in terms of the values at its start.
use Rattle.std.specs.Prelude.{ℕ, List, [], ◌∷◌, ◌++◌, Bool, true, false, not, ◌==◌, if◌then◌else◌}
use Rattle.std.specs.List.{flat_map, list_all, range_with_len}
use Rattle.vp_terms.specs.Meaning.{Assignment, holds}
use Rattle.vp_terms.specs.declared.expr.Var.{Var}
use Rattle.vp_terms.specs.declared.expr.Var.TheVariants.{Param, State, Control, NextState, NextControl, Tau}
use Rattle.vp_terms.specs.declared.expr.Expr.{Expr}
use Rattle.vp_terms.specs.declared.expr.Expr.TheVariants.{Var as Variable}
use Rattle.vp_terms.specs.declared.formula.Cmp.TheVariants as cmp
use Rattle.vp_terms.specs.declared.formula.Formula.{Formula}
use Rattle.vp_terms.specs.declared.formula.Formula.TheVariants.{Cmp as Compare}
use Rattle.vp_poly.specs.Replaced.{replaced, formula_replaced}
use Rattle.vp_ctrl.specs.Ways.{Move, Gives, GivesAny, Passes, Fails, Way}

-- the expression that each control stands for
abbrev pub StandIns : Type 0
StandIns = ℕ → Expr

-- at first each control stands for itself
abbrev pub at_first : StandIns
at_first k = Variable (Control k)

-- then c stands for e
abbrev pub instead : StandIns → ℕ → Expr → StandIns
instead s c e k = if c == k then e else s k

-- what each variable stands for: all but controls stand for themselves
abbrev pub stands : StandIns → Var → Expr
stands s (Param i) = Variable (Param i)
stands s (State i) = Variable (State i)
stands s (Control i) = s i
stands s (NextState i) = Variable (NextState i)
stands s (NextControl i) = Variable (NextControl i)
stands s Tau = Variable Tau

-- an assignment puts its right side, with all controls replaced, and `:= *` the next value
abbrev pub after : StandIns → Move → StandIns
after s (Gives c e) = instead s c (replaced (stands s) e)
after s (GivesAny c) = instead s c (Variable (NextControl c))
after s (Passes f) = s
after s (Fails f) = s

-- and behind all moves of a way
abbrev pub after_all : StandIns → Way → StandIns
after_all s [] = s
after_all s (m ∷ w) = after_all (after s m) w

-- a formula that has to hold, or has to fail
pub record Condition : Type 0 where
  pub formula : Formula
  pub denied : Bool

-- the formula, with all controls replaced
abbrev pub of_formula : StandIns → Formula → Bool → Condition
of_formula s f denied = record { formula = formula_replaced (stands s) f; denied = denied }

-- the right side that a move assigns, with all controls replaced
abbrev pub right_side : StandIns → Move → List Expr
right_side s (Gives c e) = replaced (stands s) e ∷ []
right_side s (GivesAny c) = []
right_side s (Passes f) = []
right_side s (Fails f) = []

-- those of all moves of a way
abbrev pub right_sides : StandIns → Way → List Expr
right_sides s [] = []
right_sides s (m ∷ w) = right_side s m ++ right_sides (after s m) w

-- the test of a move, with all controls replaced
abbrev pub test : StandIns → Move → List Condition
test s (Gives c e) = []
test s (GivesAny c) = []
test s (Passes f) = of_formula s f false ∷ []
test s (Fails f) = of_formula s f true ∷ []

-- those of all moves of a way
abbrev pub tests : StandIns → Way → List Condition
tests s [] = []
tests s (m ∷ w) = test s m ++ tests (after s m) w

-- whether `:= *` was the last to change the control, where `given` says so of what went before
abbrev pub given_last : ℕ → Bool → Move → Bool
given_last k given (Gives c e) = if c == k then false else given
given_last k given (GivesAny c) = if c == k then true else given
given_last k given (Passes f) = given
given_last k given (Fails f) = given

-- and behind all moves of a way
abbrev pub is_given_last : ℕ → Bool → Way → Bool
is_given_last k given [] = given
is_given_last k given (m ∷ w) = is_given_last k (given_last k given m) w

-- the control's next value is what it stands for
abbrev pub equals_next : StandIns → ℕ → Condition
equals_next s k = record { formula = Compare cmp.Eq (Variable (NextControl k)) (s k); denied = false }

-- this equation at the end, unless `:= *` gave the control last
abbrev pub equation : StandIns → Way → ℕ → List Condition
equation s w k =
    if is_given_last k false w then [] else (equals_next s k ∷ [])

-- the conditions of a way with n controls: the tests in order, then these equations
abbrev pub conditions : ℕ → Way → List Condition
conditions n w = tests at_first w ++ flat_map (equation (after_all at_first w) w) (range_with_len 0 n)

-- whether all conditions hold
abbrev pub condition_holds : Assignment → Condition → Bool
condition_holds a c = if c.denied then not (holds c.formula a) else holds c.formula a

abbrev pub conditions_hold : List Condition → Assignment → Bool
conditions_hold cs a = list_all (condition_holds a) cs
