-- Trees without boxes have the meaning of what they are trees of.
use Rattle.std.proofs.Common.{◌≡◌, Bool, true, not, ◌&&◌, ◌||◌, ◌⊎◌, inl, inr, ⊎_elim, IsTrue, refl, sym, ap, subst, ◌∙◌}
use Rattle.vp_terms.specs.Rational.{Rational, sum, difference, product, power}
use Rattle.vp_terms.specs.Meaning.{Assignment, rational, value, compares, holds}
use Rattle.vp_terms.specs.Control.{Values, assigned, Same, SameBut, Sets, Ctrl}
use Rattle.vp_terms.specs.Tree.{ExprTree, FormulaTree, ProgTree, Constant, Place, Sum, Difference, Product, Power, Always, Compares, Both, Either, Denial, Nothing, Gives, GivesAny, Passes, OneOf, Then, Where, expr_tree, formula_tree, prog_tree}
use Rattle.vp_terms.specs.declared.expr.Expr.{Expr}
use Rattle.vp_terms.specs.declared.expr.Expr.TheVariants.{Num, Var as Variable, Add', Sub', Mul', Pow'}
use Rattle.vp_terms.specs.declared.formula.Formula.{Formula}
use Rattle.vp_terms.specs.declared.formula.Formula.TheVariants.{True, Cmp as Compare, And', Or', Not'}
use Rattle.vp_terms.specs.declared.prog.Prog.{Prog}
use Rattle.vp_terms.specs.declared.prog.Prog.TheVariants.{Skip, Assign, Any, Test, Choice', Seq', If'}

-- the value of a tree
tree_value : ExprTree → Assignment → Rational
tree_value (Constant r) a = rational r
tree_value (Place v) a = a v
tree_value (Sum s t) a = sum (tree_value s a) (tree_value t a)
tree_value (Difference s t) a = difference (tree_value s a) (tree_value t a)
tree_value (Product s t) a = product (tree_value s a) (tree_value t a)
tree_value (Power t n) a = power (tree_value t a) n

value_of_tree : (e : Expr) (a : Assignment) → value e a ≡ tree_value (expr_tree e) a
unfolding tree_value
value_of_tree (Num r) a = refl
value_of_tree (Variable v) a = refl
value_of_tree (Add' l e r f) a = let s = value_of_tree e a in let t = value_of_tree f a in cc
value_of_tree (Sub' l e r f) a = let s = value_of_tree e a in let t = value_of_tree f a in cc
value_of_tree (Mul' l e r f) a = let s = value_of_tree e a in let t = value_of_tree f a in cc
value_of_tree (Pow' l e n) a = ap (λ q. power q n) (value_of_tree e a)

-- expressions with one tree have one value
pub same_value : (e f : Expr) → expr_tree e ≡ expr_tree f → (a : Assignment) → value e a ≡ value f a
same_value e f h a = value_of_tree e a ∙ ap (λ t. tree_value t a) h ∙ sym (value_of_tree f a)

-- whether a tree holds
tree_holds : FormulaTree → Assignment → Bool
tree_holds Always a = true
tree_holds (Compares c s t) a = compares c (tree_value s a) (tree_value t a)
tree_holds (Both s t) a = tree_holds s a && tree_holds t a
tree_holds (Either s t) a = tree_holds s a || tree_holds t a
tree_holds (Denial t) a = not (tree_holds t a)

holds_as_tree : (f : Formula) (a : Assignment) → holds f a ≡ tree_holds (formula_tree f) a
unfolding tree_holds
holds_as_tree True a = refl
holds_as_tree (Compare c e f) a = let s = value_of_tree e a in let t = value_of_tree f a in cc
holds_as_tree (And' l f r g) a = let s = holds_as_tree f a in let t = holds_as_tree g a in cc
holds_as_tree (Or' l f r g) a = let s = holds_as_tree f a in let t = holds_as_tree g a in cc
holds_as_tree (Not' l f) a = ap not (holds_as_tree f a)

-- formulas with one tree hold alike
pub same_truth : (f g : Formula) → formula_tree f ≡ formula_tree g → (a : Assignment) → holds f a ≡ holds g a
same_truth f g h a = holds_as_tree f a ∙ ap (λ t. tree_holds t a) h ∙ sym (holds_as_tree g a)

-- what a tree relates
TreeCtrl : ProgTree → Values → Values → Values → Values → Type 0
TreeCtrl Nothing p x u v = Same u v
TreeCtrl (Gives c t) p x u v = Sets c (tree_value t (assigned p x u)) u v
TreeCtrl (GivesAny c) p x u v = SameBut c u v
TreeCtrl (Passes t) p x u v = Same u v × IsTrue (tree_holds t (assigned p x u))
TreeCtrl (OneOf s t) p x u v = TreeCtrl s p x u v ⊎ TreeCtrl t p x u v
TreeCtrl (Then s t) p x u v = (w : Values) × TreeCtrl s p x u w × TreeCtrl t p x w v
TreeCtrl (Where c s t) p x u v =
    (IsTrue (tree_holds c (assigned p x u)) × TreeCtrl s p x u v) ⊎ ((¬ IsTrue (tree_holds c (assigned p x u))) × TreeCtrl t p x u v)

to_tree : (prog : Prog) (p x u v : Values) → Ctrl prog p x u v → TreeCtrl (prog_tree prog) p x u v
unfolding TreeCtrl
to_tree Skip p x u v h = h
to_tree (Assign c e) p x u v h = subst (λ q. Sets c q u v) (value_of_tree e (assigned p x u)) h
to_tree (Any c) p x u v h = h
to_tree (Test f) p x u v h = (h.0, sym (holds_as_tree f (assigned p x u)) ∙ h.1)
to_tree (Choice' l a r b) p x u v h = ⊎_elim (λ g. inl (to_tree a p x u v g)) (λ g. inr (to_tree b p x u v g)) h
to_tree (Seq' l a r b) p x u v h = (h.0, to_tree a p x u h.0 h.1, to_tree b p x h.0 v h.2)
to_tree (If' f l a r b) p x u v h =
    let e = holds_as_tree f (assigned p x u) in
    ⊎_elim
    (λ g. inl (sym e ∙ g.0, to_tree a p x u v g.1))
    (λ g. inr ((λ y. g.0 (e ∙ y)), to_tree b p x u v g.1))
    h

from_tree : (prog : Prog) (p x u v : Values) → TreeCtrl (prog_tree prog) p x u v → Ctrl prog p x u v
unfolding TreeCtrl
from_tree Skip p x u v h = h
from_tree (Assign c e) p x u v h = subst (λ q. Sets c q u v) (sym (value_of_tree e (assigned p x u))) h
from_tree (Any c) p x u v h = h
from_tree (Test f) p x u v h = (h.0, holds_as_tree f (assigned p x u) ∙ h.1)
from_tree (Choice' l a r b) p x u v h = ⊎_elim (λ g. inl (from_tree a p x u v g)) (λ g. inr (from_tree b p x u v g)) h
from_tree (Seq' l a r b) p x u v h = (h.0, from_tree a p x u h.0 h.1, from_tree b p x h.0 v h.2)
from_tree (If' f l a r b) p x u v h =
    let e = holds_as_tree f (assigned p x u) in
    ⊎_elim
    (λ g. inl (e ∙ g.0, from_tree a p x u v g.1))
    (λ g. inr ((λ y. g.0 (sym e ∙ y)), from_tree b p x u v g.1))
    h

-- programs with one tree relate the same values
pub same_program : (a b : Prog) → prog_tree a ≡ prog_tree b → (p x u v : Values) → Ctrl a p x u v → Ctrl b p x u v
same_program a b h p x u v c = from_tree b p x u v (subst (λ t. TreeCtrl t p x u v) h (to_tree a p x u v c))
