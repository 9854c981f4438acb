-- Which terminals may stand in a piece, one by one, and what that makes of its trees.
use Rattle.std.proofs.Common.{ℕ, ◌+◌, Bool, true, ◌&&◌, nat_lt, nat_le, List, [], ◌∷◌, if◌then◌else◌}
use Rattle.vp_terms.specs.declared.expr.Places.{Places}
use Rattle.vp_terms.specs.declared.well_formed.Kinds.{Kinds}
use Rattle.vp_terms.specs.WellFormed.{is_allowed, in_model}
use Rattle.vp_terms.specs.Tree.{ExprTree, Constant, Place, Sum, Difference, Product, Power, FormulaTree, Always, Compares, Both, Either, Denial, ProgTree, Nothing, Gives, GivesAny, Passes, OneOf, Then, Where}
use Rattle.vp_grammar.specs.declared.terminal.Terminal.{Terminal}
use Rattle.vp_grammar.specs.declared.terminal.Terminal.TheVariants as terminal
use Rattle.vp_grammar.specs.Strays.{is_known, is_control, assigns}

-- a terminal that is no variable, or whose variable may stand there
abbrev pub may_stand : Kinds → Places → Terminal → Bool
may_stand k p (terminal.Name s v) = is_known k p v
may_stand k p (terminal.Variable s v) = is_known k p v
may_stand k p t = true

-- each terminal passes the test together with what follows it
abbrev pub all_before : (Terminal → List Terminal → Bool) → List Terminal → Bool
all_before test [] = true
all_before test (t ∷ ts) = test t ts && all_before test ts

-- in a controller a name before `:=` is a control's, and any other variable is one of the model's formulas
abbrev pub may_control : Places → Terminal → List Terminal → Bool
may_control p (terminal.Name s v) ts = if assigns ts then is_control p v else is_known in_model p v
may_control p t ts = may_stand in_model p t

-- in entries a name before the mark is looked at apart, and any other variable may stand there
abbrev pub may_enter : (List Terminal → Bool) → Kinds → Places → Terminal → List Terminal → Bool
may_enter left k p (terminal.Name s v) ts = if left ts then true else is_known k p v
may_enter left k p t ts = may_stand k p t

-- each variable of the tree may stand there, and each exponent is at most 12
abbrev pub is_good_tree : Kinds → Places → ExprTree → Bool
is_good_tree k p (Constant r) = true
is_good_tree k p (Place v) = is_allowed k p v
is_good_tree k p (Sum e f) = is_good_tree k p e && is_good_tree k p f
is_good_tree k p (Difference e f) = is_good_tree k p e && is_good_tree k p f
is_good_tree k p (Product e f) = is_good_tree k p e && is_good_tree k p f
is_good_tree k p (Power e n) = is_good_tree k p e && nat_le n 12

-- and so in each comparison
abbrev pub is_good_condition : Kinds → Places → FormulaTree → Bool
is_good_condition k p Always = true
is_good_condition k p (Compares c e f) = is_good_tree k p e && is_good_tree k p f
is_good_condition k p (Both f g) = is_good_condition k p f && is_good_condition k p g
is_good_condition k p (Either f g) = is_good_condition k p f && is_good_condition k p g
is_good_condition k p (Denial f) = is_good_condition k p f

-- and so in each statement, and each control is one of the model's
abbrev pub is_good_program : Places → ProgTree → Bool
is_good_program p Nothing = true
is_good_program p (Gives c e) = nat_lt c p.controls && is_good_tree in_model p e
is_good_program p (GivesAny c) = nat_lt c p.controls
is_good_program p (Passes f) = is_good_condition in_model p f
is_good_program p (OneOf a b) = is_good_program p a && is_good_program p b
is_good_program p (Then a b) = is_good_program p a && is_good_program p b
is_good_program p (Where f a b) = is_good_condition in_model p f && (is_good_program p a && is_good_program p b)

-- the number of comparisons and `true`s
abbrev pub formula_size : FormulaTree → ℕ
formula_size Always = 1
formula_size (Compares c e f) = 1
formula_size (Both f g) = formula_size f + formula_size g
formula_size (Either f g) = formula_size f + formula_size g
formula_size (Denial f) = formula_size f

abbrev pub program_size : ProgTree → ℕ
program_size Nothing = 0
program_size (Gives c e) = 0
program_size (GivesAny c) = 0
program_size (Passes f) = formula_size f
program_size (OneOf a b) = program_size a + program_size b
program_size (Then a b) = program_size a + program_size b
program_size (Where f a b) = formula_size f + (program_size a + program_size b)
