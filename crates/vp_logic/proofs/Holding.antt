-- A normal form over variables that stand for themselves holds where its formula does.
use Rattle.std.proofs.Common.{◌≡◌, ◌≤◌, true, not, IsTrue, ap, ◌∙◌}
use Rattle.vp_terms.specs.Rational.{difference}
use Rattle.vp_terms.specs.Meaning.{Assignment, value, compares, holds}
use Rattle.vp_terms.specs.Places.{place_count, has_variable}
use Rattle.vp_terms.specs.Variables.{all_variables, all_variables_of}
use Rattle.vp_terms.specs.declared.expr.Places.{Places}
use Rattle.vp_terms.specs.declared.expr.Expr.{Expr}
use Rattle.vp_terms.specs.declared.formula.Cmp.{Cmp}
use Rattle.vp_terms.specs.declared.formula.Cmp.TheVariants as cmp
use Rattle.vp_terms.specs.declared.formula.Formula.{Formula}
use Rattle.vp_terms.specs.declared.formula.Formula.TheVariants.{True, Cmp as Compare, And', Or', Not'}
use Rattle.vp_terms.proofs.Agreeing.{both}
use Rattle.vp_poly.specs.Canonical.{own_weights, variables}
use Rattle.vp_poly.specs.Points.{IsAt}
use Rattle.vp_poly.specs.Value.{Point, value_at}
use Rattle.vp_poly.specs.Weights.{fits, weight_between, weight_in}
use Rattle.vp_poly.proofs.Existing.{value_of_difference}
use Rattle.vp_logic.specs.declared.norm.Rel.{Rel}
use Rattle.vp_logic.specs.declared.norm.Rel.TheVariants.{Ge, Gt, Eq}
use Rattle.vp_logic.specs.Tree.{Tree}
use Rattle.vp_logic.specs.Truth.{rel_holds, tree_holds}
use Rattle.vp_logic.specs.Narrow.{comparisons_fit}
use Rattle.vp_logic.specs.Normal.{IsAtom, IsComparison, IsNormal}
use Rattle.vp_logic.proofs.Comparing.{sum_turned, multiple_holds, le_is, lt_is, ge_is, gt_is, eq_is, ne_is}
use Rattle.vp_logic.proofs.Lawful.{negated_holds}
use Rattle.vp_logic.proofs.TwoMembers.{both_hold, either_holds}

module _ (p : Places) (few : place_count p ≤ 32) (x : Point) (a : Assignment) (at : IsAt p x a) where
  atom_holds_as : (rel : Rel) (e f : Expr) (t : Tree) → IsTrue (all_variables (has_variable p) e) → IsTrue (all_variables (has_variable p) f) → fits (weight_between p (own_weights (place_count p)) e f) ≡ true → IsAtom p (own_weights (place_count p)) (variables p) rel e f t → tree_holds t x ≡ rel_holds rel (difference (value e a) (value f a))
  atom_holds_as rel e f t g h ok i =
      let v = value_of_difference p few e f g h ok i.0.poly i.2.canonical x a at in
      ap (λ (u : Tree). tree_holds u x) i.1
      ∙ ap (λ (r : Rel). rel_holds r (value_at i.0.poly x)) i.2.rel_is
      ∙ multiple_holds rel _ (value_at i.0.poly x) (difference (value e a) (value f a)) v.0 v.1

  turned : (e f : Expr) → fits (weight_between p (own_weights (place_count p)) e f) ≡ true → fits (weight_between p (own_weights (place_count p)) f e) ≡ true
  turned e f ok = ap fits (sum_turned (weight_in p (own_weights (place_count p)) f) (weight_in p (own_weights (place_count p)) e)) ∙ ok

  comparison_holds_as : (c : Cmp) (e f : Expr) (t : Tree) → IsTrue (all_variables (has_variable p) e) → IsTrue (all_variables (has_variable p) f) → fits (weight_between p (own_weights (place_count p)) e f) ≡ true → IsComparison p (own_weights (place_count p)) (variables p) c e f t → tree_holds t x ≡ compares c (value e a) (value f a)
  comparison_holds_as cmp.Le e f t g h ok i = atom_holds_as Ge f e t h g (turned e f ok) i ∙ le_is (value e a) (value f a)
  comparison_holds_as cmp.Lt e f t g h ok i = atom_holds_as Gt f e t h g (turned e f ok) i ∙ lt_is (value e a) (value f a)
  comparison_holds_as cmp.Ge e f t g h ok i = atom_holds_as Ge e f t g h ok i ∙ ge_is (value e a) (value f a)
  comparison_holds_as cmp.Gt e f t g h ok i = atom_holds_as Gt e f t g h ok i ∙ gt_is (value e a) (value f a)
  comparison_holds_as cmp.Eq e f t g h ok i = atom_holds_as Eq e f t g h ok i ∙ eq_is (value e a) (value f a)
  comparison_holds_as cmp.Ne e f t g h ok i =
      let above = atom_holds_as Gt e f i.0 g h ok i.3 in
      let below = atom_holds_as Gt f e i.1 h g (turned e f ok) i.4 in
      ap (λ (u : Tree). tree_holds u x) i.2 ∙ rw (above, below) (ne_is (value e a) (value f a))

  pub holds_as : (g : Formula) (t : Tree) → IsTrue (all_variables_of (has_variable p) g) → comparisons_fit p (own_weights (place_count p)) g ≡ true → IsNormal p (own_weights (place_count p)) (variables p) g t → tree_holds t x ≡ holds g a
  holds_as True t h ok i = ap (λ (u : Tree). tree_holds u x) i
  holds_as (Compare c e f) t h ok i = let s = both _ _ h in comparison_holds_as c e f t s.0 s.1 ok i
  holds_as (And' l g r k) t h ok i =
      let s = both _ _ h in
      let q = both _ _ ok in
      ap (λ (u : Tree). tree_holds u x) i.2 ∙ both_hold _ _ _ _ (holds_as g i.0 s.0 q.0 i.3) (holds_as k i.1 s.1 q.1 i.4)
  holds_as (Or' l g r k) t h ok i =
      let s = both _ _ h in
      let q = both _ _ ok in
      ap (λ (u : Tree). tree_holds u x) i.2 ∙ either_holds _ _ _ _ (holds_as g i.0 s.0 q.0 i.3) (holds_as k i.1 s.1 q.1 i.4)
  holds_as (Not' l g) t h ok i = ap (λ (u : Tree). tree_holds u x) i.1 ∙ negated_holds i.0 x ∙ ap not (holds_as g i.0 h ok i.2)
