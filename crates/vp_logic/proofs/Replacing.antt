-- Normal forms of formulas whose variables are replaced.
use Rattle.std.proofs.Common.{◌≡◌, ◌+◌, ℕ, Bool, ◌&&◌, nat_le, IsTrue, List, refl, sym, ap, ap₂, subst, ◌∙◌}
use Rattle.vp_terms.specs.Rational.{difference}
use Rattle.vp_terms.specs.Places.{has_variable}
use Rattle.vp_terms.specs.Variables.{all_variables, all_variables_of}
use Rattle.vp_terms.specs.declared.expr.Places.{Places}
use Rattle.vp_terms.specs.declared.expr.Var.{Var}
use Rattle.vp_terms.specs.declared.expr.Expr.{Expr}
use Rattle.vp_terms.specs.declared.formula.Cmp.{Cmp}
use Rattle.vp_terms.specs.declared.formula.Cmp.TheVariants as cmp
use Rattle.vp_terms.specs.declared.formula.Formula.{Formula}
use Rattle.vp_terms.specs.declared.formula.Formula.TheVariants.{True, Cmp as Compare, And', Or', Not'}
use Rattle.vp_terms.proofs.Agreeing.{both}
use Rattle.vp_poly.specs.Coefficient.{Coefficients, coefficients}
use Rattle.vp_poly.specs.Weights.{Weights, fits, weight, weight_at, weight_in, weight_sum, weight_between}
use Rattle.vp_poly.specs.Canonical.{IsCanonical}
use Rattle.vp_poly.specs.Replaced.{replaced, formula_replaced}
use Rattle.vp_poly.proofs.Lawful.{coefficients-replaced, weight-replaced}
use Rattle.vp_poly.proofs.Replacing.{coefficients-same, weight-same}
use Rattle.vp_logic.specs.declared.norm.Rel.{Rel}
use Rattle.vp_logic.specs.declared.norm.Rel.TheVariants.{Ge, Gt, Eq}
use Rattle.vp_logic.specs.Tree.{Tree}
use Rattle.vp_logic.specs.Narrow.{comparisons_fit, terms_of, is_narrow}
use Rattle.vp_logic.specs.Normal.{IsAtom, IsComparison, IsNormal}

-- what ws and f give for the variables of the model is what ws0 and f0 give for the expressions r
module _ (p : Places) (ws ws0 : List Weights) (f f0 : Var → Coefficients) (r : Var → Expr) (weights : (v : Var) → IsTrue (has_variable p v) → weight_at p ws v ≡ weight_in p ws0 (r v)) (coefs : (v : Var) → IsTrue (has_variable p v) → f v ≡ coefficients f0 (r v)) where
  pub weight_replaced : (e : Expr) → IsTrue (all_variables (has_variable p) e) → weight_in p ws e ≡ weight_in p ws0 (replaced r e)
  weight_replaced e h =
      weight-same (has_variable p) (weight_at p ws) (λ v. weight (weight_at p ws0) (r v)) e weights h
      ∙ sym (weight-replaced (weight_at p ws0) r e)

  pub coefs_replaced : (e : Expr) → IsTrue (all_variables (has_variable p) e) → coefficients f e ≡ coefficients f0 (replaced r e)
  coefs_replaced e h =
      coefficients-same (has_variable p) f (λ v. coefficients f0 (r v)) e coefs h
      ∙ sym (coefficients-replaced f0 r e)

  between : (a b : Expr) → IsTrue (all_variables (has_variable p) a) → IsTrue (all_variables (has_variable p) b) → weight_between p ws a b ≡ weight_between p ws0 (replaced r a) (replaced r b)
  between a b h k = ap₂ weight_sum (weight_replaced a h) (weight_replaced b k)

  atom_replaced : (rel : Rel) (a b : Expr) (t : Tree) → IsTrue (all_variables (has_variable p) a) → IsTrue (all_variables (has_variable p) b) → IsAtom p ws f rel a b t → IsAtom p ws0 f0 rel (replaced r a) (replaced r b) t
  atom_replaced rel a b t h k i =
      let d = between a b h k in
      let ca = coefs_replaced a h in
      let cb = coefs_replaced b k in
      let P : Weights → Coefficients → Coefficients → Type 0 = λ w x y. IsCanonical w.den i.0.poly (λ m. difference (x m) (y m)) in (
        i.0,
        i.1,
        record {
          rel_is = i.2.rel_is;
          canonical = subst (λ (w : Weights). P w (coefficients f0 (replaced r a)) (coefficients f0 (replaced r b))) d
              (subst (λ (x : Coefficients). P (weight_between p ws a b) x (coefficients f0 (replaced r b))) ca
              (subst (λ (y : Coefficients). P (weight_between p ws a b) (coefficients f a) y) cb i.2.canonical));
        },
      )

  comparison_replaced : (c : Cmp) (a b : Expr) (t : Tree) → IsTrue (all_variables (has_variable p) a) → IsTrue (all_variables (has_variable p) b) → IsComparison p ws f c a b t → IsComparison p ws0 f0 c (replaced r a) (replaced r b) t
  comparison_replaced cmp.Le a b t h k i = atom_replaced Ge b a t k h i
  comparison_replaced cmp.Lt a b t h k i = atom_replaced Gt b a t k h i
  comparison_replaced cmp.Ge a b t h k i = atom_replaced Ge a b t h k i
  comparison_replaced cmp.Gt a b t h k i = atom_replaced Gt a b t h k i
  comparison_replaced cmp.Eq a b t h k i = atom_replaced Eq a b t h k i
  comparison_replaced cmp.Ne a b t h k i = (i.0, i.1, i.2, atom_replaced Gt a b i.0 h k i.3, atom_replaced Gt b a i.1 k h i.4)

  pub normal_replaced : (g : Formula) (t : Tree) → IsTrue (all_variables_of (has_variable p) g) → IsNormal p ws f g t → IsNormal p ws0 f0 (formula_replaced r g) t
  normal_replaced True t h i = i
  normal_replaced (Compare c a b) t h i = let s = both _ _ h in comparison_replaced c a b t s.0 s.1 i
  normal_replaced (And' l a k b) t h i = let s = both _ _ h in (i.0, i.1, i.2, normal_replaced a i.0 s.0 i.3, normal_replaced b i.1 s.1 i.4)
  normal_replaced (Or' l a k b) t h i = let s = both _ _ h in (i.0, i.1, i.2, normal_replaced a i.0 s.0 i.3, normal_replaced b i.1 s.1 i.4)
  normal_replaced (Not' l a) t h i = (i.0, i.1, normal_replaced a i.0 h i.2)

  pub fit_replaced : (g : Formula) → IsTrue (all_variables_of (has_variable p) g) → comparisons_fit p ws g ≡ comparisons_fit p ws0 (formula_replaced r g)
  fit_replaced True h = refl
  fit_replaced (Compare c a b) h = let s = both _ _ h in ap fits (between a b s.0 s.1)
  fit_replaced (And' l a k b) h = let s = both _ _ h in ap₂ (λ x y. x && y) (fit_replaced a s.0) (fit_replaced b s.1)
  fit_replaced (Or' l a k b) h = let s = both _ _ h in ap₂ (λ x y. x && y) (fit_replaced a s.0) (fit_replaced b s.1)
  fit_replaced (Not' l a) h = fit_replaced a h

  pub terms_replaced : (g : Formula) → IsTrue (all_variables_of (has_variable p) g) → terms_of p ws g ≡ terms_of p ws0 (formula_replaced r g)
  terms_replaced True h = refl
  terms_replaced (Compare c a b) h = let s = both _ _ h in ap (λ (w : Weights). w.terms) (between a b s.0 s.1)
  terms_replaced (And' l a k b) h = let s = both _ _ h in ap₂ (λ x y. x + y) (terms_replaced a s.0) (terms_replaced b s.1)
  terms_replaced (Or' l a k b) h = let s = both _ _ h in ap₂ (λ x y. x + y) (terms_replaced a s.0) (terms_replaced b s.1)
  terms_replaced (Not' l a) h = terms_replaced a h

  atom_back : (rel : Rel) (a b : Expr) (t : Tree) → IsTrue (all_variables (has_variable p) a) → IsTrue (all_variables (has_variable p) b) → IsAtom p ws0 f0 rel (replaced r a) (replaced r b) t → IsAtom p ws f rel a b t
  atom_back rel a b t h k i =
      let d = between a b h k in
      let ca = coefs_replaced a h in
      let cb = coefs_replaced b k in
      let P : Weights → Coefficients → Coefficients → Type 0 = λ w x y. IsCanonical w.den i.0.poly (λ m. difference (x m) (y m)) in (
        i.0,
        i.1,
        record {
          rel_is = i.2.rel_is;
          canonical = subst (λ (w : Weights). P w (coefficients f a) (coefficients f b)) (sym d)
              (subst (λ (x : Coefficients). P (weight_between p ws0 (replaced r a) (replaced r b)) x (coefficients f b)) (sym ca)
              (subst (λ (y : Coefficients). P (weight_between p ws0 (replaced r a) (replaced r b)) (coefficients f0 (replaced r a)) y) (sym cb) i.2.canonical));
        },
      )

  comparison_back : (c : Cmp) (a b : Expr) (t : Tree) → IsTrue (all_variables (has_variable p) a) → IsTrue (all_variables (has_variable p) b) → IsComparison p ws0 f0 c (replaced r a) (replaced r b) t → IsComparison p ws f c a b t
  comparison_back cmp.Le a b t h k i = atom_back Ge b a t k h i
  comparison_back cmp.Lt a b t h k i = atom_back Gt b a t k h i
  comparison_back cmp.Ge a b t h k i = atom_back Ge a b t h k i
  comparison_back cmp.Gt a b t h k i = atom_back Gt a b t h k i
  comparison_back cmp.Eq a b t h k i = atom_back Eq a b t h k i
  comparison_back cmp.Ne a b t h k i = (i.0, i.1, i.2, atom_back Gt a b i.0 h k i.3, atom_back Gt b a i.1 k h i.4)

  pub normal_back : (g : Formula) (t : Tree) → IsTrue (all_variables_of (has_variable p) g) → IsNormal p ws0 f0 (formula_replaced r g) t → IsNormal p ws f g t
  normal_back True t h i = i
  normal_back (Compare c a b) t h i = let s = both _ _ h in comparison_back c a b t s.0 s.1 i
  normal_back (And' l a k b) t h i = let s = both _ _ h in (i.0, i.1, i.2, normal_back a i.0 s.0 i.3, normal_back b i.1 s.1 i.4)
  normal_back (Or' l a k b) t h i = let s = both _ _ h in (i.0, i.1, i.2, normal_back a i.0 s.0 i.3, normal_back b i.1 s.1 i.4)
  normal_back (Not' l a) t h i = (i.0, i.1, normal_back a i.0 h i.2)

  pub narrow_replaced : (g : Formula) → IsTrue (all_variables_of (has_variable p) g) → is_narrow p ws g ≡ is_narrow p ws0 (formula_replaced r g)
  narrow_replaced g h = ap₂ (λ (u : Bool) (n : ℕ). u && nat_le n 65536) (fit_replaced g h) (terms_replaced g h)
