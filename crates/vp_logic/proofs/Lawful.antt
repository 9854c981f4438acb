-- Laws of normal forms over trees.
use Rattle.std.proofs.Common.{◌≡◌, ℕ, not, List, [], ◌∷◌, ◌++◌, refl, sym, ap, ◌∙◌, negsuc}
use Rattle.vp_terms.specs.declared.expr.Places.{Places}
use Rattle.vp_terms.specs.declared.expr.Var.{Var}
use Rattle.vp_terms.specs.declared.expr.Expr.{Expr}
use Rattle.vp_terms.specs.declared.formula.Cmp.{Cmp}
use Rattle.vp_terms.specs.declared.formula.Cmp.TheVariants as cmp
use Rattle.vp_terms.specs.declared.formula.Formula.{Formula}
use Rattle.vp_terms.specs.declared.formula.Formula.TheVariants.{True, Cmp as Compare, And', Or', Not'}
use Rattle.vp_poly.specs.declared.mono.Term.{Term}
use Rattle.vp_poly.specs.Poly.{scaled}
use Rattle.vp_poly.specs.Value.{Point}
use Rattle.vp_poly.specs.Weights.{Weights}
use Rattle.vp_poly.specs.Coefficient.{Coefficients}
use Rattle.vp_poly.proofs.Lawful.{IsCanonical-unique}
use Rattle.vp_poly.proofs.ProductValues.{value_at-scaled}
use Rattle.vp_logic.specs.declared.norm.Rel.{Rel}
use Rattle.vp_logic.specs.declared.norm.Rel.TheVariants.{Ge, Gt, Eq}
use Rattle.vp_logic.specs.declared.norm.Atom.{Atom}
use Rattle.vp_logic.specs.Tree.{Tree, Trees, One, AllOf, AnyOf, None, Then, negated_atom, negated, negated_each, conjuncts_of, each_conjunct}
use Rattle.vp_logic.specs.Truth.{atom_holds, tree_holds, all_hold, any_holds}
use Rattle.vp_logic.specs.Sized.{IsSized, AreSized, EachIsSized}
use Rattle.vp_logic.specs.Normal.{IsAtom, IsComparison, IsNormal}
use Rattle.vp_logic.proofs.Negating.{negated_ge, negated_gt, negated_eq, none_of, not_all}

-- a negated form holds exactly where the form doesn't
negated_atom_holds : (a : Atom) (rel : Rel) (x : Point) → a.rel ≡ rel → tree_holds (negated (One a)) x ≡ not (atom_holds a x)
negated_atom_holds a Ge x e = ap (λ (r : Rel). tree_holds (negated_atom r a.poly) x) e ∙ negated_ge a (scaled (negsuc 0) a.poly) x (value_at-scaled (negsuc 0) a.poly x) e
negated_atom_holds a Gt x e = ap (λ (r : Rel). tree_holds (negated_atom r a.poly) x) e ∙ negated_gt a (scaled (negsuc 0) a.poly) x (value_at-scaled (negsuc 0) a.poly x) e
negated_atom_holds a Eq x e = ap (λ (r : Rel). tree_holds (negated_atom r a.poly) x) e ∙ negated_eq a (scaled (negsuc 0) a.poly) x (value_at-scaled (negsuc 0) a.poly x) a.poly refl e

mutual
  pub negated_holds : (t : Tree) (x : Point) → tree_holds (negated t) x ≡ not (tree_holds t x)
  negated_holds (One a) x = negated_atom_holds a a.rel x refl
  negated_holds (AllOf ns) x = not_all_hold ns x
  negated_holds (AnyOf ns) x = none_holds ns x

  not_all_hold : (ns : Trees) (x : Point) → any_holds (negated_each ns) x ≡ not (all_hold ns x)
  not_all_hold None x = refl
  not_all_hold (Then n ns) x = not_all _ _ _ _ (negated_holds n x) (not_all_hold ns x)

  none_holds : (ns : Trees) (x : Point) → all_hold (negated_each ns) x ≡ not (any_holds ns x)
  none_holds None x = refl
  none_holds (Then n ns) x = none_of _ _ _ _ (negated_holds n x) (none_holds ns x)

-- a formula has one normal form
atom_unique : (p : Places) (ws : List Weights) (f : Var → Coefficients) (rel : Rel) (a b : Expr) (t u : Tree) → IsAtom p ws f rel a b t → IsAtom p ws f rel a b u → t ≡ u
atom_unique p ws f rel a b t u h k =
    let q = IsCanonical-unique _ _ h.0.poly k.0.poly h.2.canonical k.2.canonical in
    let r : h.0.rel ≡ k.0.rel = h.2.rel_is ∙ sym k.2.rel_is in
    let s : h.0 ≡ k.0 = atoms_same h.0 k.0 q r in
    h.1 ∙ ap One s ∙ sym k.1
  where
    atoms_same : (x y : Atom) → x.poly ≡ y.poly → x.rel ≡ y.rel → x ≡ y
    atoms_same x y e g =
        let first : List Term → Atom = λ q. record { poly = q; rel = x.rel } in
        let second : Rel → Atom = λ r. record { poly = y.poly; rel = r } in
        ap first e ∙ ap second g

comparison_unique : (p : Places) (ws : List Weights) (f : Var → Coefficients) (c : Cmp) (a b : Expr) (t u : Tree) → IsComparison p ws f c a b t → IsComparison p ws f c a b u → t ≡ u
comparison_unique p ws f cmp.Le a b t u h k = atom_unique p ws f Ge b a t u h k
comparison_unique p ws f cmp.Lt a b t u h k = atom_unique p ws f Gt b a t u h k
comparison_unique p ws f cmp.Ge a b t u h k = atom_unique p ws f Ge a b t u h k
comparison_unique p ws f cmp.Gt a b t u h k = atom_unique p ws f Gt a b t u h k
comparison_unique p ws f cmp.Eq a b t u h k = atom_unique p ws f Eq a b t u h k
comparison_unique p ws f cmp.Ne a b t u h k =
    let q = atom_unique p ws f Gt a b h.0 k.0 h.3 k.3 in
    let r = atom_unique p ws f Gt b a h.1 k.1 h.4 k.4 in
    let s = h.2 in
    let v = k.2 in
    cc

pub normal_unique : (p : Places) (ws : List Weights) (f : Var → Coefficients) (g : Formula) (t u : Tree) → IsNormal p ws f g t → IsNormal p ws f g u → t ≡ u
normal_unique p ws f True t u h k = h ∙ sym k
normal_unique p ws f (Compare c a b) t u h k = comparison_unique p ws f c a b t u h k
normal_unique p ws f (And' l a r b) t u h k =
    let q = normal_unique p ws f a h.0 k.0 h.3 k.3 in
    let w = normal_unique p ws f b h.1 k.1 h.4 k.4 in
    let s = h.2 in
    let v = k.2 in
    cc
normal_unique p ws f (Or' l a r b) t u h k =
    let q = normal_unique p ws f a h.0 k.0 h.3 k.3 in
    let w = normal_unique p ws f b h.1 k.1 h.4 k.4 in
    let s = h.2 in
    let v = k.2 in
    cc
normal_unique p ws f (Not' l a) t u h k =
    let q = normal_unique p ws f a h.0 k.0 h.2 k.2 in
    h.1 ∙ ap negated q ∙ sym k.1

-- the conjuncts of a sized form are sized
sized_append : (v : ℕ) (xs ys : List Tree) → EachIsSized v xs → EachIsSized v ys → EachIsSized v (xs ++ ys)
sized_append v [] ys h k = k
sized_append v (x ∷ xs) ys h k = (h.0, sized_append v xs ys h.1 k)

mutual
  pub conjuncts_sized : (v : ℕ) (t : Tree) → IsSized v t → EachIsSized v (conjuncts_of t)
  conjuncts_sized v (One a) h = (h, tt)
  conjuncts_sized v (AllOf ns) h = each_sized v ns h
  conjuncts_sized v (AnyOf ns) h = (h, tt)

  each_sized : (v : ℕ) (ns : Trees) → AreSized v ns → EachIsSized v (each_conjunct ns)
  each_sized v None h = tt
  each_sized v (Then n ns) h = sized_append v (conjuncts_of n) (each_conjunct ns) (conjuncts_sized v n h.0) (each_sized v ns h.1)
