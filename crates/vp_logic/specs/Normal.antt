-- The normal form of a formula: what makes a tree that of a formula.
use Rattle.std.specs.Prelude.{◌≡◌, List}
use Rattle.vp_terms.specs.Rational.{difference}
use Rattle.vp_terms.specs.declared.expr.Places.{Places}
use Rattle.vp_terms.specs.declared.expr.Var.{Var}
use Rattle.vp_terms.specs.declared.expr.Expr.{Expr}
use Rattle.vp_terms.specs.declared.formula.Cmp.{Cmp}
use Rattle.vp_terms.specs.declared.formula.Cmp.TheVariants as cmp
use Rattle.vp_terms.specs.declared.formula.Formula.{Formula}
use Rattle.vp_terms.specs.declared.formula.Formula.TheVariants.{True, Cmp as Compare, And', Or', Not'}
use Rattle.vp_poly.specs.Weights.{Weights, weight_between}
use Rattle.vp_poly.specs.Coefficient.{Coefficients, coefficients}
use Rattle.vp_poly.specs.Canonical.{IsCanonical}
use Rattle.vp_logic.specs.declared.norm.Rel.{Rel}
use Rattle.vp_logic.specs.declared.norm.Rel.TheVariants.{Ge, Gt, Eq}
use Rattle.vp_logic.specs.declared.norm.Atom.{Atom}
use Rattle.vp_logic.specs.Tree.{Tree, One, AllOf, AnyOf, None, Then, negated}

-- where f gives the coefficients of the variables: the atom compares a - b, as its canonical polynomial, with 0
pub record IsDifference (p : Places) (ws : List Weights) (f : Var → Coefficients) (rel : Rel) (a b : Expr) (x : Atom) : Type 0 where
  pub rel_is : x.rel ≡ rel
  pub canonical : IsCanonical (weight_between p ws a b).den x.poly (λ m. difference (coefficients f a m) (coefficients f b m))

-- the tree is such an atom
abbrev pub IsAtom : Places → List Weights → (Var → Coefficients) → Rel → Expr → Expr → Tree → Type 0
IsAtom p ws f rel a b t = (x : Atom) × (t ≡ One x) × IsDifference p ws f rel a b x

-- the normal form of a comparison
abbrev pub IsComparison : Places → List Weights → (Var → Coefficients) → Cmp → Expr → Expr → Tree → Type 0
IsComparison p ws f cmp.Le a b t = IsAtom p ws f Ge b a t
IsComparison p ws f cmp.Lt a b t = IsAtom p ws f Gt b a t
IsComparison p ws f cmp.Ge a b t = IsAtom p ws f Ge a b t
IsComparison p ws f cmp.Gt a b t = IsAtom p ws f Gt a b t
IsComparison p ws f cmp.Eq a b t = IsAtom p ws f Eq a b t
IsComparison p ws f cmp.Ne a b t =
    (t1 t2 : Tree) × (t ≡ AnyOf (Then t1 (Then t2 None))) × IsAtom p ws f Gt a b t1 × IsAtom p ws f Gt b a t2

-- the tree is the normal form of the formula
abbrev pub IsNormal : Places → List Weights → (Var → Coefficients) → Formula → Tree → Type 0
IsNormal p ws f True t = t ≡ AllOf None
IsNormal p ws f (Compare c a b) t = IsComparison p ws f c a b t
IsNormal p ws f (And' l g r h) t = (t1 t2 : Tree) × (t ≡ AllOf (Then t1 (Then t2 None))) × IsNormal p ws f g t1 × IsNormal p ws f h t2
IsNormal p ws f (Or' l g r h) t = (t1 t2 : Tree) × (t ≡ AnyOf (Then t1 (Then t2 None))) × IsNormal p ws f g t1 × IsNormal p ws f h t2
IsNormal p ws f (Not' l g) t = (t1 : Tree) × (t ≡ negated t1) × IsNormal p ws f g t1
