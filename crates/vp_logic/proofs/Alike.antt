-- Formulas with one tree have the same normal forms.
use Rattle.std.proofs.Common.{◌≡◌, ◌+◌, Bool, ◌&&◌, nat_le, ℕ, List, refl, ap, ap₂, subst}
use Rattle.vp_terms.specs.Rational.{difference}
use Rattle.vp_terms.specs.Tree.{expr_tree, formula_tree}
use Rattle.vp_terms.specs.declared.expr.Places.{Places}
use Rattle.vp_terms.specs.declared.expr.Var.{Var}
use Rattle.vp_terms.specs.declared.expr.Expr.{Expr}
use Rattle.vp_terms.specs.declared.formula.Cmp.{Cmp}
use Rattle.vp_terms.specs.declared.formula.Cmp.TheVariants as cmp
use Rattle.vp_terms.specs.declared.formula.Formula.{Formula}
use Rattle.vp_terms.specs.declared.formula.Formula.TheVariants.{True, Cmp as Compare, And', Or', Not'}
use Rattle.vp_poly.specs.Weights.{Weights, fits, weight_sum, weight_between}
use Rattle.vp_poly.specs.Coefficient.{Coefficients, coefficients}
use Rattle.vp_poly.specs.Canonical.{IsCanonical}
use Rattle.vp_poly.proofs.Alike.{weight-alike, coefficients-alike}
use Rattle.vp_logic.specs.declared.norm.Rel.{Rel}
use Rattle.vp_logic.specs.declared.norm.Rel.TheVariants.{Ge, Gt, Eq}
use Rattle.vp_logic.specs.Tree.{Tree}
use Rattle.vp_logic.specs.Narrow.{comparisons_fit, terms_of, is_narrow}
use Rattle.vp_logic.specs.Normal.{IsAtom, IsComparison, IsNormal}

module _ (p : Places) (ws : List Weights) (f : Var → Coefficients) where
  between-alike : (a b c d : Expr) → expr_tree a ≡ expr_tree c → expr_tree b ≡ expr_tree d → weight_between p ws a b ≡ weight_between p ws c d
  between-alike a b c d h k = ap₂ weight_sum (weight-alike _ a c h) (weight-alike _ b d k)

  atom-alike : (rel : Rel) (a b c d : Expr) (t : Tree) → expr_tree a ≡ expr_tree c → expr_tree b ≡ expr_tree d → IsAtom p ws f rel a b t → IsAtom p ws f rel c d t
  atom-alike rel a b c d t h k i =
      let w = between-alike a b c d h k in
      let ca = coefficients-alike f a c h in
      let cb = coefficients-alike f b d k in
      let P : Weights → Coefficients → Coefficients → Type 0 = λ v x y. IsCanonical v.den i.0.poly (λ m. difference (x m) (y m)) in (
        i.0,
        i.1,
        record {
          rel_is = i.2.rel_is;
          canonical = subst (λ (v : Weights). P v (coefficients f c) (coefficients f d)) w
              (subst (λ (x : Coefficients). P (weight_between p ws a b) x (coefficients f d)) ca
              (subst (λ (y : Coefficients). P (weight_between p ws a b) (coefficients f a) y) cb i.2.canonical));
        },
      )

  comparison-alike : (c : Cmp) (a b x y : Expr) (t : Tree) → expr_tree a ≡ expr_tree x → expr_tree b ≡ expr_tree y → IsComparison p ws f c a b t → IsComparison p ws f c x y t
  comparison-alike cmp.Le a b x y t h k i = atom-alike Ge b a y x t k h i
  comparison-alike cmp.Lt a b x y t h k i = atom-alike Gt b a y x t k h i
  comparison-alike cmp.Ge a b x y t h k i = atom-alike Ge a b x y t h k i
  comparison-alike cmp.Gt a b x y t h k i = atom-alike Gt a b x y t h k i
  comparison-alike cmp.Eq a b x y t h k i = atom-alike Eq a b x y t h k i
  comparison-alike cmp.Ne a b x y t h k i = (i.0, i.1, i.2, atom-alike Gt a b x y i.0 h k i.3, atom-alike Gt b a y x i.1 k h i.4)

  pub normal-alike : (g h : Formula) (t : Tree) → formula_tree g ≡ formula_tree h → IsNormal p ws f g t → IsNormal p ws f h t
  normal-alike True True t e i = i
  normal-alike (Compare c a b) (Compare d x y) t e i =
      let same : c ≡ d = cc in
      let left : expr_tree a ≡ expr_tree x = cc in
      let right : expr_tree b ≡ expr_tree y = cc in
      subst (λ (k : Cmp). IsComparison p ws f k x y t) same (comparison-alike c a b x y t left right i)
  normal-alike (And' l a r b) (And' m x s y) t e i =
      let left : formula_tree a ≡ formula_tree x = cc in
      let right : formula_tree b ≡ formula_tree y = cc in
      (i.0, i.1, i.2, normal-alike a x i.0 left i.3, normal-alike b y i.1 right i.4)
  normal-alike (Or' l a r b) (Or' m x s y) t e i =
      let left : formula_tree a ≡ formula_tree x = cc in
      let right : formula_tree b ≡ formula_tree y = cc in
      (i.0, i.1, i.2, normal-alike a x i.0 left i.3, normal-alike b y i.1 right i.4)
  normal-alike (Not' l a) (Not' m x) t e i = let inner : formula_tree a ≡ formula_tree x = cc in (i.0, i.1, normal-alike a x i.0 inner i.2)
  normal-alike _ _ t e i = absurd (cc)

  pub fit-alike : (g h : Formula) → formula_tree g ≡ formula_tree h → comparisons_fit p ws g ≡ comparisons_fit p ws h
  fit-alike True True e = refl
  fit-alike (Compare c a b) (Compare d x y) e =
      let left : expr_tree a ≡ expr_tree x = cc in
      let right : expr_tree b ≡ expr_tree y = cc in
      ap fits (between-alike a b x y left right)
  fit-alike (And' l a r b) (And' m x s y) e =
      let left : formula_tree a ≡ formula_tree x = cc in
      let right : formula_tree b ≡ formula_tree y = cc in
      ap₂ (λ u v. u && v) (fit-alike a x left) (fit-alike b y right)
  fit-alike (Or' l a r b) (Or' m x s y) e =
      let left : formula_tree a ≡ formula_tree x = cc in
      let right : formula_tree b ≡ formula_tree y = cc in
      ap₂ (λ u v. u && v) (fit-alike a x left) (fit-alike b y right)
  fit-alike (Not' l a) (Not' m x) e = let inner : formula_tree a ≡ formula_tree x = cc in fit-alike a x inner
  fit-alike _ _ e = absurd (cc)

  pub terms-alike : (g h : Formula) → formula_tree g ≡ formula_tree h → terms_of p ws g ≡ terms_of p ws h
  terms-alike True True e = refl
  terms-alike (Compare c a b) (Compare d x y) e =
      let left : expr_tree a ≡ expr_tree x = cc in
      let right : expr_tree b ≡ expr_tree y = cc in
      ap (λ (w : Weights). w.terms) (between-alike a b x y left right)
  terms-alike (And' l a r b) (And' m x s y) e =
      let left : formula_tree a ≡ formula_tree x = cc in
      let right : formula_tree b ≡ formula_tree y = cc in
      ap₂ (λ u v. u + v) (terms-alike a x left) (terms-alike b y right)
  terms-alike (Or' l a r b) (Or' m x s y) e =
      let left : formula_tree a ≡ formula_tree x = cc in
      let right : formula_tree b ≡ formula_tree y = cc in
      ap₂ (λ u v. u + v) (terms-alike a x left) (terms-alike b y right)
  terms-alike (Not' l a) (Not' m x) e = let inner : formula_tree a ≡ formula_tree x = cc in terms-alike a x inner
  terms-alike _ _ e = absurd (cc)

  pub narrow-alike : (g h : Formula) → formula_tree g ≡ formula_tree h → is_narrow p ws g ≡ is_narrow p ws h
  narrow-alike g h e = ap₂ (λ (u : Bool) (n : ℕ). u && nat_le n 65536) (fit-alike g h e) (terms-alike g h e)
