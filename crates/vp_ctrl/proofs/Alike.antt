-- Programs with one tree have the same ways, but for boxes.
use Rattle.std.proofs.Common.{◌≡◌, ℕ, ◌+◌, ◌*◌, Bool, true, false, ◌||◌, ◌==◌, if◌then◌else◌, List, [], ◌∷◌, ◌++◌, map, Option, None, Some, refl, sym, ap, ap₂, ◌∙◌}
use Rattle.std.specs.List.{flat_map, range_with_len}
use Rattle.std.proofs.Math.Path.{fun_ext}
use Rattle.std.proofs.lemmas.List.{map-append}
use Rattle.vp_terms.specs.Tree.{ExprTree, Constant, Place, Sum, Difference, Product, Power, FormulaTree, Always, Compares, Both, Either, Denial, ProgTree, Nothing, Gives as GivesOf, GivesAny as GivesAnyOf, Passes as PassesOf, OneOf, Then, Where, expr_tree, formula_tree, prog_tree}
use Rattle.vp_terms.specs.declared.expr.Var.{Var}
use Rattle.vp_terms.specs.declared.expr.Var.TheVariants.{Param, State, Control, NextState, NextControl, Tau}
use Rattle.vp_terms.specs.declared.expr.Expr.{Expr}
use Rattle.vp_terms.specs.declared.expr.Expr.TheVariants.{Num, Var as Variable, Add', Sub', Mul', Pow'}
use Rattle.vp_terms.specs.declared.formula.Cmp.TheVariants as cmp
use Rattle.vp_terms.specs.declared.formula.Formula.{Formula}
use Rattle.vp_terms.specs.declared.formula.Formula.TheVariants.{True, Cmp as Compare, And', Or', Not'}
use Rattle.vp_terms.specs.declared.prog.Prog.{Prog}
use Rattle.vp_terms.specs.declared.prog.Prog.TheVariants.{Skip, Assign, Any, Test, Choice', Seq', If'}
use Rattle.vp_poly.specs.Replaced.{replaced, formula_replaced}
use Rattle.vp_ctrl.specs.Following.{StandIns, Condition, after, after_all, at_first, conditions, equals_next, equation, given_last, instead, is_given_last, right_side, right_sides, stands, test, tests}
use Rattle.vp_ctrl.specs.Hidden.{again, changed, changed_again, first_hidden, gives_any, is_given, or_next}
use Rattle.vp_ctrl.specs.Ways.{Move, Gives, GivesAny, Passes, Fails, Way, joined, ways, way_count}

-- ---- replaced variables

abbrev tree_replaced : (Var → ExprTree) → ExprTree → ExprTree
tree_replaced s (Constant r) = Constant r
tree_replaced s (Place v) = s v
tree_replaced s (Sum e f) = Sum (tree_replaced s e) (tree_replaced s f)
tree_replaced s (Difference e f) = Difference (tree_replaced s e) (tree_replaced s f)
tree_replaced s (Product e f) = Product (tree_replaced s e) (tree_replaced s f)
tree_replaced s (Power e n) = Power (tree_replaced s e) n

replaced-tree : (s : Var → Expr) (e : Expr) → expr_tree (replaced s e) ≡ tree_replaced (λ v. expr_tree (s v)) (expr_tree e)
replaced-tree s (Num r) = refl
replaced-tree s (Variable v) = refl
replaced-tree s (Add' p e q f) = ap₂ Sum (replaced-tree s e) (replaced-tree s f)
replaced-tree s (Sub' p e q f) = ap₂ Difference (replaced-tree s e) (replaced-tree s f)
replaced-tree s (Mul' p e q f) = ap₂ Product (replaced-tree s e) (replaced-tree s f)
replaced-tree s (Pow' p e n) = ap (λ (t : ExprTree). Power t n) (replaced-tree s e)

abbrev formula_tree_replaced : (Var → ExprTree) → FormulaTree → FormulaTree
formula_tree_replaced s Always = Always
formula_tree_replaced s (Compares c e f) = Compares c (tree_replaced s e) (tree_replaced s f)
formula_tree_replaced s (Both f g) = Both (formula_tree_replaced s f) (formula_tree_replaced s g)
formula_tree_replaced s (Either f g) = Either (formula_tree_replaced s f) (formula_tree_replaced s g)
formula_tree_replaced s (Denial f) = Denial (formula_tree_replaced s f)

formula-tree : (s : Var → Expr) (f : Formula) → formula_tree (formula_replaced s f) ≡ formula_tree_replaced (λ v. expr_tree (s v)) (formula_tree f)
formula-tree s True = refl
formula-tree s (Compare c e f) = ap₂ (λ (a b : ExprTree). Compares c a b) (replaced-tree s e) (replaced-tree s f)
formula-tree s (And' l f r g) = ap₂ Both (formula-tree s f) (formula-tree s g)
formula-tree s (Or' l f r g) = ap₂ Either (formula-tree s f) (formula-tree s g)
formula-tree s (Not' l f) = ap Denial (formula-tree s f)

-- what stands for each variable has the same tree
abbrev pub StandAlike : (Var → Expr) → (Var → Expr) → Type 0
StandAlike s t = (v : Var) → expr_tree (s v) ≡ expr_tree (t v)

pub replaced-alike : (s t : Var → Expr) → StandAlike s t → (e f : Expr) → expr_tree e ≡ expr_tree f → expr_tree (replaced s e) ≡ expr_tree (replaced t f)
replaced-alike s t h e f k = replaced-tree s e ∙ ap₂ tree_replaced (fun_ext h) k ∙ sym (replaced-tree t f)

pub formula_replaced-alike : (s t : Var → Expr) → StandAlike s t → (f g : Formula) → formula_tree f ≡ formula_tree g → formula_tree (formula_replaced s f) ≡ formula_tree (formula_replaced t g)
formula_replaced-alike s t h f g k = formula-tree s f ∙ ap₂ formula_tree_replaced (fun_ext h) k ∙ sym (formula-tree t g)

-- ---- ways

-- a move without boxes
pub data MoveTree : Type 0 where
  TreeGives : ℕ → ExprTree → MoveTree
  TreeGivesAny : ℕ → MoveTree
  TreePasses : FormulaTree → MoveTree
  TreeFails : FormulaTree → MoveTree

abbrev pub move_tree : Move → MoveTree
move_tree (Gives c e) = TreeGives c (expr_tree e)
move_tree (GivesAny c) = TreeGivesAny c
move_tree (Passes f) = TreePasses (formula_tree f)
move_tree (Fails f) = TreeFails (formula_tree f)

abbrev WayTree : Type 0
WayTree = List MoveTree

abbrev pub way_tree : Way → List MoveTree
way_tree w = map move_tree w

abbrev pub way_trees : List Way → List (List MoveTree)
way_trees ws = map way_tree ws

abbrev tree_joined : List WayTree → List WayTree → List WayTree
tree_joined ws vs = flat_map (λ w. map (λ v. w ++ v) vs) ws

abbrev tree_ways : ProgTree → List WayTree
tree_ways Nothing = [] ∷ []
tree_ways (GivesOf c e) = (TreeGives c e ∷ []) ∷ []
tree_ways (GivesAnyOf c) = (TreeGivesAny c ∷ []) ∷ []
tree_ways (PassesOf f) = (TreePasses f ∷ []) ∷ []
tree_ways (OneOf a b) = tree_ways a ++ tree_ways b
tree_ways (Then a b) = tree_joined (tree_ways a) (tree_ways b)
tree_ways (Where f a b) = map (λ w. TreePasses f ∷ w) (tree_ways a) ++ map (λ w. TreeFails f ∷ w) (tree_ways b)

with_each-tree : (w : Way) (vs : List Way) → way_trees (map (λ v. w ++ v) vs) ≡ map (λ v. way_tree w ++ v) (way_trees vs)
with_each-tree w [] = refl
with_each-tree w (v ∷ vs) = ap₂ (λ (x : WayTree) (xs : List WayTree). x ∷ xs) (map-append move_tree w v) (with_each-tree w vs)

joined-tree : (ws vs : List Way) → way_trees (joined ws vs) ≡ tree_joined (way_trees ws) (way_trees vs)
joined-tree [] vs = refl
joined-tree (w ∷ ws) vs =
    map-append way_tree (map (λ v. w ++ v) vs) (joined ws vs)
    ∙ ap₂ (λ (xs ys : List WayTree). xs ++ ys) (with_each-tree w vs) (joined-tree ws vs)

first-tree : (m : Move) (ws : List Way) → way_trees (map (λ w. m ∷ w) ws) ≡ map (λ w. move_tree m ∷ w) (way_trees ws)
first-tree m [] = refl
first-tree m (w ∷ ws) = ap (λ (xs : List WayTree). (move_tree m ∷ way_tree w) ∷ xs) (first-tree m ws)

ways-tree : (a : Prog) → way_trees (ways a) ≡ tree_ways (prog_tree a)
ways-tree Skip = refl
ways-tree (Assign c e) = refl
ways-tree (Any c) = refl
ways-tree (Test f) = refl
ways-tree (Choice' l a r b) =
    map-append way_tree (ways a) (ways b) ∙ ap₂ (λ (xs ys : List WayTree). xs ++ ys) (ways-tree a) (ways-tree b)
ways-tree (Seq' l a r b) = joined-tree (ways a) (ways b) ∙ ap₂ tree_joined (ways-tree a) (ways-tree b)
ways-tree (If' f l a r b) =
    map-append way_tree (map (λ w. Passes f ∷ w) (ways a)) (map (λ w. Fails f ∷ w) (ways b))
    ∙ ap₂ (λ (xs ys : List WayTree). xs ++ ys)
    (first-tree (Passes f) (ways a) ∙ ap (λ (xs : List WayTree). map (λ w. TreePasses (formula_tree f) ∷ w) xs) (ways-tree a))
    (first-tree (Fails f) (ways b) ∙ ap (λ (xs : List WayTree). map (λ w. TreeFails (formula_tree f) ∷ w) xs) (ways-tree b))

pub ways-alike : (a b : Prog) → prog_tree a ≡ prog_tree b → way_trees (ways a) ≡ way_trees (ways b)
ways-alike a b h = ways-tree a ∙ ap tree_ways h ∙ sym (ways-tree b)

abbrev tree_count : ProgTree → ℕ
tree_count Nothing = 1
tree_count (GivesOf c e) = 1
tree_count (GivesAnyOf c) = 1
tree_count (PassesOf f) = 1
tree_count (OneOf a b) = tree_count a + tree_count b
tree_count (Then a b) = tree_count a * tree_count b
tree_count (Where f a b) = tree_count a + tree_count b

count-tree : (a : Prog) → way_count a ≡ tree_count (prog_tree a)
count-tree Skip = refl
count-tree (Assign c e) = refl
count-tree (Any c) = refl
count-tree (Test f) = refl
count-tree (Choice' l a r b) = ap₂ (λ (m n : ℕ). m + n) (count-tree a) (count-tree b)
count-tree (Seq' l a r b) = ap₂ (λ (m n : ℕ). m * n) (count-tree a) (count-tree b)
count-tree (If' f l a r b) = ap₂ (λ (m n : ℕ). m + n) (count-tree a) (count-tree b)

pub count-alike : (a b : Prog) → prog_tree a ≡ prog_tree b → way_count a ≡ way_count b
count-alike a b h = count-tree a ∙ ap tree_count h ∙ sym (count-tree b)

-- ---- hidden controls

abbrev tree_gives_any : ℕ → MoveTree → Bool
tree_gives_any k (TreeGives c e) = false
tree_gives_any k (TreeGivesAny c) = c == k
tree_gives_any k (TreePasses f) = false
tree_gives_any k (TreeFails f) = false

abbrev tree_is_given : ℕ → WayTree → Bool
tree_is_given k [] = false
tree_is_given k (m ∷ w) = tree_gives_any k m || tree_is_given k w

abbrev tree_changed : MoveTree → Option ℕ
tree_changed (TreeGives c e) = Some c
tree_changed (TreeGivesAny c) = Some c
tree_changed (TreePasses f) = None
tree_changed (TreeFails f) = None

abbrev tree_changed_again : WayTree → Option ℕ → Option ℕ
tree_changed_again before None = None
tree_changed_again before (Some c) = if tree_is_given c before then Some c else None

abbrev tree_again : WayTree → WayTree → Option ℕ
tree_again before [] = None
tree_again before (m ∷ w) = or_next (tree_changed_again before (tree_changed m)) (tree_again (before ++ m ∷ []) w)

abbrev tree_hidden : List WayTree → Option ℕ
tree_hidden [] = None
tree_hidden (w ∷ ws) = or_next (tree_again [] w) (tree_hidden ws)

gives_any-tree : (k : ℕ) (m : Move) → gives_any k m ≡ tree_gives_any k (move_tree m)
gives_any-tree k (Gives c e) = refl
gives_any-tree k (GivesAny c) = refl
gives_any-tree k (Passes f) = refl
gives_any-tree k (Fails f) = refl

is_given-tree : (k : ℕ) (w : Way) → is_given k w ≡ tree_is_given k (way_tree w)
is_given-tree k [] = refl
is_given-tree k (m ∷ w) = ap₂ (λ (a b : Bool). a || b) (gives_any-tree k m) (is_given-tree k w)

changed-tree : (m : Move) → changed m ≡ tree_changed (move_tree m)
changed-tree (Gives c e) = refl
changed-tree (GivesAny c) = refl
changed-tree (Passes f) = refl
changed-tree (Fails f) = refl

changed_again-tree : (w : Way) (o : Option ℕ) → changed_again w o ≡ tree_changed_again (way_tree w) o
changed_again-tree w None = refl
changed_again-tree w (Some c) = ap (λ (b : Bool). if b then Some c else None) (is_given-tree c w)

again-tree : (before w : Way) → again before w ≡ tree_again (way_tree before) (way_tree w)
again-tree before [] = refl
again-tree before (m ∷ w) =
    ap₂ or_next
    (changed_again-tree before (changed m) ∙ ap (tree_changed_again (way_tree before)) (changed-tree m))
    (again-tree (before ++ m ∷ []) w ∙ ap (λ (b : WayTree). tree_again b (way_tree w)) (map-append move_tree before (m ∷ [])))

hidden-tree : (ws : List Way) → first_hidden ws ≡ tree_hidden (way_trees ws)
hidden-tree [] = refl
hidden-tree (w ∷ ws) = ap₂ or_next (again-tree [] w) (hidden-tree ws)

pub hidden-alike : (a b : Prog) → prog_tree a ≡ prog_tree b → first_hidden (ways a) ≡ first_hidden (ways b)
hidden-alike a b h = hidden-tree (ways a) ∙ ap tree_hidden (ways-alike a b h) ∙ sym (hidden-tree (ways b))

-- ---- conditions and right sides

-- a condition
pub record ConditionTree : Type 0 where
  pub formula : FormulaTree
  pub denied : Bool

abbrev pub condition_tree : Condition → ConditionTree
condition_tree c = record { formula = formula_tree c.formula; denied = c.denied }

-- controls stand for expressions with the same trees
abbrev Alike : StandIns → StandIns → Type 0
Alike s t = (k : ℕ) → expr_tree (s k) ≡ expr_tree (t k)

stands-alike : (s t : StandIns) → Alike s t → StandAlike (stands s) (stands t)
stands-alike s t h (Param i) = refl
stands-alike s t h (State i) = refl
stands-alike s t h (Control i) = h i
stands-alike s t h (NextState i) = refl
stands-alike s t h (NextControl i) = refl
stands-alike s t h Tau = refl

either-alike : (b : Bool) (e f g h : Expr) → expr_tree e ≡ expr_tree g → expr_tree f ≡ expr_tree h → expr_tree (if b then e else f) ≡ expr_tree (if b then g else h)
either-alike true e f g h k l = k
either-alike false e f g h k l = l

instead-alike : (s t : StandIns) (c d : ℕ) (e f : Expr) → Alike s t → c ≡ d → expr_tree e ≡ expr_tree f → Alike (instead s c e) (instead t d f)
instead-alike s t c d e f h q r k =
    either-alike (c == k) e (s k) f (t k) r (h k) ∙ ap (λ (n : ℕ). expr_tree (if n == k then f else t k)) q

after-alike : (s t : StandIns) (m n : Move) → Alike s t → move_tree m ≡ move_tree n → Alike (after s m) (after t n)
after-alike s t (Gives c e) (Gives d f) h g =
    let same : c ≡ d = cc in
    let right : expr_tree e ≡ expr_tree f = cc in
    instead-alike s t c d (replaced (stands s) e) (replaced (stands t) f) h same (replaced-alike (stands s) (stands t) (stands-alike s t h) e f right)
after-alike s t (GivesAny c) (GivesAny d) h g =
    let same : c ≡ d = cc in
    instead-alike s t c d (Variable (NextControl c)) (Variable (NextControl d)) h same (ap (λ (n : ℕ). Place (NextControl n)) same)
after-alike s t (Passes e) (Passes f) h g = h
after-alike s t (Fails e) (Fails f) h g = h
after-alike s t (Gives c e) (GivesAny d) h g = absurd (cc)
after-alike s t (Gives c e) (Passes f) h g = absurd (cc)
after-alike s t (Gives c e) (Fails f) h g = absurd (cc)
after-alike s t (GivesAny c) (Gives d f) h g = absurd (cc)
after-alike s t (GivesAny c) (Passes f) h g = absurd (cc)
after-alike s t (GivesAny c) (Fails f) h g = absurd (cc)
after-alike s t (Passes e) (Gives d f) h g = absurd (cc)
after-alike s t (Passes e) (GivesAny d) h g = absurd (cc)
after-alike s t (Passes e) (Fails f) h g = absurd (cc)
after-alike s t (Fails e) (Gives d f) h g = absurd (cc)
after-alike s t (Fails e) (GivesAny d) h g = absurd (cc)
after-alike s t (Fails e) (Passes f) h g = absurd (cc)

after_all-alike : (s t : StandIns) (w v : Way) → Alike s t → way_tree w ≡ way_tree v → Alike (after_all s w) (after_all t v)
after_all-alike s t [] [] h g = h
after_all-alike s t [] (n ∷ v) h g = absurd (cc)
after_all-alike s t (m ∷ w) [] h g = absurd (cc)
after_all-alike s t (m ∷ w) (n ∷ v) h g =
    let first : move_tree m ≡ move_tree n = cc in
    let rest : way_tree w ≡ way_tree v = cc in
    after_all-alike (after s m) (after t n) w v (after-alike s t m n h first) rest

-- the right side and the test of a move, by its tree
abbrev tree_stands : (ℕ → ExprTree) → Var → ExprTree
tree_stands s (Param i) = Place (Param i)
tree_stands s (State i) = Place (State i)
tree_stands s (Control i) = s i
tree_stands s (NextState i) = Place (NextState i)
tree_stands s (NextControl i) = Place (NextControl i)
tree_stands s Tau = Place Tau

stands-tree : (s : StandIns) (v : Var) → expr_tree (stands s v) ≡ tree_stands (λ k. expr_tree (s k)) v
stands-tree s (Param i) = refl
stands-tree s (State i) = refl
stands-tree s (Control i) = refl
stands-tree s (NextState i) = refl
stands-tree s (NextControl i) = refl
stands-tree s Tau = refl

abbrev tree_side : (ℕ → ExprTree) → MoveTree → List ExprTree
tree_side s (TreeGives c e) = tree_replaced (tree_stands s) e ∷ []
tree_side s (TreeGivesAny c) = []
tree_side s (TreePasses f) = []
tree_side s (TreeFails f) = []

abbrev tree_condition : (ℕ → ExprTree) → FormulaTree → Bool → ConditionTree
tree_condition s f b = record { formula = formula_tree_replaced (tree_stands s) f; denied = b }

abbrev tree_test : (ℕ → ExprTree) → MoveTree → List ConditionTree
tree_test s (TreeGives c e) = []
tree_test s (TreeGivesAny c) = []
tree_test s (TreePasses f) = tree_condition s f false ∷ []
tree_test s (TreeFails f) = tree_condition s f true ∷ []

side-tree : (s : StandIns) (m : Move) → map expr_tree (right_side s m) ≡ tree_side (λ k. expr_tree (s k)) (move_tree m)
side-tree s (Gives c e) =
    ap (λ (t : ExprTree). t ∷ []) (replaced-tree (stands s) e ∙ ap (λ (g : Var → ExprTree). tree_replaced g (expr_tree e)) (fun_ext (stands-tree s)))
side-tree s (GivesAny c) = refl
side-tree s (Passes f) = refl
side-tree s (Fails f) = refl

condition-tree : (s : StandIns) (f : Formula) (b : Bool) → condition_tree (record { formula = formula_replaced (stands s) f; denied = b }) ≡ tree_condition (λ k. expr_tree (s k)) (formula_tree f) b
condition-tree s f b =
    ap (λ (t : FormulaTree). record { formula = t; denied = b })
    (formula-tree (stands s) f ∙ ap (λ (g : Var → ExprTree). formula_tree_replaced g (formula_tree f)) (fun_ext (stands-tree s)))

test-tree : (s : StandIns) (m : Move) → map condition_tree (test s m) ≡ tree_test (λ k. expr_tree (s k)) (move_tree m)
test-tree s (Gives c e) = refl
test-tree s (GivesAny c) = refl
test-tree s (Passes f) = ap (λ (t : ConditionTree). t ∷ []) (condition-tree s f false)
test-tree s (Fails f) = ap (λ (t : ConditionTree). t ∷ []) (condition-tree s f true)

side-alike : (s t : StandIns) (m n : Move) → Alike s t → move_tree m ≡ move_tree n → map expr_tree (right_side s m) ≡ map expr_tree (right_side t n)
side-alike s t m n h g = side-tree s m ∙ ap₂ tree_side (fun_ext h) g ∙ sym (side-tree t n)

test-alike : (s t : StandIns) (m n : Move) → Alike s t → move_tree m ≡ move_tree n → map condition_tree (test s m) ≡ map condition_tree (test t n)
test-alike s t m n h g = test-tree s m ∙ ap₂ tree_test (fun_ext h) g ∙ sym (test-tree t n)

sides-alike : (s t : StandIns) (w v : Way) → Alike s t → way_tree w ≡ way_tree v → map expr_tree (right_sides s w) ≡ map expr_tree (right_sides t v)
sides-alike s t [] [] h g = refl
sides-alike s t [] (n ∷ v) h g = absurd (cc)
sides-alike s t (m ∷ w) [] h g = absurd (cc)
sides-alike s t (m ∷ w) (n ∷ v) h g =
    let first : move_tree m ≡ move_tree n = cc in
    let rest : way_tree w ≡ way_tree v = cc in
    map-append expr_tree (right_side s m) (right_sides (after s m) w)
    ∙ ap₂ (λ (xs ys : List ExprTree). xs ++ ys) (side-alike s t m n h first) (sides-alike (after s m) (after t n) w v (after-alike s t m n h first) rest)
    ∙ sym (map-append expr_tree (right_side t n) (right_sides (after t n) v))

tests-alike : (s t : StandIns) (w v : Way) → Alike s t → way_tree w ≡ way_tree v → map condition_tree (tests s w) ≡ map condition_tree (tests t v)
tests-alike s t [] [] h g = refl
tests-alike s t [] (n ∷ v) h g = absurd (cc)
tests-alike s t (m ∷ w) [] h g = absurd (cc)
tests-alike s t (m ∷ w) (n ∷ v) h g =
    let first : move_tree m ≡ move_tree n = cc in
    let rest : way_tree w ≡ way_tree v = cc in
    map-append condition_tree (test s m) (tests (after s m) w)
    ∙ ap₂ (λ (xs ys : List ConditionTree). xs ++ ys) (test-alike s t m n h first) (tests-alike (after s m) (after t n) w v (after-alike s t m n h first) rest)
    ∙ sym (map-append condition_tree (test t n) (tests (after t n) v))

abbrev tree_given_last : ℕ → Bool → MoveTree → Bool
tree_given_last k given (TreeGives c e) = if c == k then false else given
tree_given_last k given (TreeGivesAny c) = if c == k then true else given
tree_given_last k given (TreePasses f) = given
tree_given_last k given (TreeFails f) = given

abbrev tree_is_given_last : ℕ → Bool → WayTree → Bool
tree_is_given_last k given [] = given
tree_is_given_last k given (m ∷ w) = tree_is_given_last k (tree_given_last k given m) w

given_last-tree : (k : ℕ) (given : Bool) (m : Move) → given_last k given m ≡ tree_given_last k given (move_tree m)
given_last-tree k given (Gives c e) = refl
given_last-tree k given (GivesAny c) = refl
given_last-tree k given (Passes f) = refl
given_last-tree k given (Fails f) = refl

is_given_last-tree : (k : ℕ) (given : Bool) (w : Way) → is_given_last k given w ≡ tree_is_given_last k given (way_tree w)
is_given_last-tree k given [] = refl
is_given_last-tree k given (m ∷ w) =
    is_given_last-tree k (given_last k given m) w ∙ ap (λ (b : Bool). tree_is_given_last k b (way_tree w)) (given_last-tree k given m)

unless-alike : (b : Bool) (c d : Condition) → condition_tree c ≡ condition_tree d → map condition_tree (if b then [] else (c ∷ [])) ≡ map condition_tree (if b then [] else (d ∷ []))
unless-alike true c d h = refl
unless-alike false c d h = ap (λ (t : ConditionTree). t ∷ []) h

equation-alike : (s t : StandIns) (w v : Way) (k : ℕ) → Alike s t → way_tree w ≡ way_tree v → map condition_tree (equation s w k) ≡ map condition_tree (equation t v k)
equation-alike s t w v k h g =
    let last : is_given_last k false w ≡ is_given_last k false v = is_given_last-tree k false w ∙ ap (tree_is_given_last k false) g ∙ sym (is_given_last-tree k false v) in
    unless-alike (is_given_last k false w) (equals_next s k) (equals_next t k)
    (ap (λ (e : ExprTree). record { formula = Compares cmp.Eq (Place (NextControl k)) e; denied = false }) (h k))
    ∙ ap (λ (b : Bool). map condition_tree (if b then [] else (equals_next t k ∷ []))) last

equations-alike : (s t : StandIns) (w v : Way) (ks : List ℕ) → Alike s t → way_tree w ≡ way_tree v → map condition_tree (flat_map (equation s w) ks) ≡ map condition_tree (flat_map (equation t v) ks)
equations-alike s t w v [] h g = refl
equations-alike s t w v (k ∷ ks) h g =
    map-append condition_tree (equation s w k) (flat_map (equation s w) ks)
    ∙ ap₂ (λ (xs ys : List ConditionTree). xs ++ ys) (equation-alike s t w v k h g) (equations-alike s t w v ks h g)
    ∙ sym (map-append condition_tree (equation t v k) (flat_map (equation t v) ks))

pub conditions-alike : (n : ℕ) (w v : Way) → way_tree w ≡ way_tree v → map condition_tree (conditions n w) ≡ map condition_tree (conditions n v)
conditions-alike n w v g =
    let s = after_all at_first w in
    let t = after_all at_first v in
    let ks = range_with_len 0 n in
    map-append condition_tree (tests at_first w) (flat_map (equation s w) ks)
    ∙ ap₂ (λ (xs ys : List ConditionTree). xs ++ ys) (tests-alike at_first at_first w v (λ k. refl) g)
    (equations-alike s t w v ks (after_all-alike at_first at_first w v (λ k. refl) g) g)
    ∙ sym (map-append condition_tree (tests at_first v) (flat_map (equation t v) ks))

pub right_sides-alike : (w v : Way) → way_tree w ≡ way_tree v → map expr_tree (right_sides at_first w) ≡ map expr_tree (right_sides at_first v)
right_sides-alike w v g = sides-alike at_first at_first w v (λ k. refl) g
