-- What it is to refute a case: labels that may stand where they do, a strict first term, and a sum of terms that is zero.
use Rattle.std.specs.Prelude.{ℕ, ◌-◌, ◌==◌, ◌&&◌, Bool, true, false, nat_lt, List, [], ◌∷◌, ◌++◌, length, map, pos, Option, None, slice_get, option_and_then, if◌then◌else◌, IsTrue}
use Rattle.std.specs.List.{list_all}
use Rattle.std.specs.Option.{option_map_or}
use Rattle.vp_terms.specs.Rational.{Rational, whole, sum, Equals}
use Rattle.vp_terms.specs.Meaning.{value}
use Rattle.vp_terms.specs.declared.expr.Places.{Places}
use Rattle.vp_terms.specs.declared.expr.Expr.{Expr}
use Rattle.vp_terms.specs.declared.package.CertTerm.{CertTerm}
use Rattle.vp_terms.specs.declared.package.CertTerm.TheVariants.{Pos, Sum, Eq}
use Rattle.vp_poly.specs.declared.mono.Term.{Term}
use Rattle.vp_poly.specs.Poly.{Powers, coef, norm, degree}
use Rattle.vp_poly.specs.Value.{Point, value_at}
use Rattle.vp_poly.specs.Coefficient.{Coefficients, constant, coefficients, times}
use Rattle.vp_poly.specs.Canonical.{own_weight, variables, values_at}
use Rattle.vp_logic.specs.declared.norm.Rel.{Rel}
use Rattle.vp_logic.specs.declared.norm.Rel.TheVariants as rel
use Rattle.vp_logic.specs.declared.norm.Atom.{Atom}

-- the atom of each label of a case, if it has one
abbrev pub LabelAtoms : Type 0
LabelAtoms = ℕ → Option Atom

-- the labels of the case with these places in a list of atoms are 1, 2 and so on
abbrev pub labelled : List Atom → List ℕ → LabelAtoms
labelled atoms places l = if l == 0 then None else option_and_then (slice_get atoms) (slice_get places (l - 1))

-- ---- which labels may stand where

-- the atom has any relation to 0
abbrev pub is_any : Rel → Bool
is_any r = true

-- it is above 0
abbrev pub is_strict : Rel → Bool
is_strict rel.Ge = false
is_strict rel.Gt = true
is_strict rel.Eq = false

-- it is 0
abbrev pub is_equation : Rel → Bool
is_equation rel.Ge = false
is_equation rel.Gt = false
is_equation rel.Eq = true

-- it is above or at least 0
abbrev pub is_inequality : Rel → Bool
is_inequality rel.Ge = true
is_inequality rel.Gt = true
is_inequality rel.Eq = false

-- the label is one of the case's, and its atom's relation passes the test
abbrev pub label_passes : LabelAtoms → (Rel → Bool) → ℕ → Bool
label_passes h test l = option_map_or (λ a. test a.rel) (h l) false

-- and so each of these
abbrev pub labels_pass : LabelAtoms → (Rel → Bool) → List ℕ → Bool
labels_pass h test ls = list_all (label_passes h test) ls

-- each label is one of the case's; those of a `sum` are no equations, and that of an `eq` is one
abbrev pub labels_fit : LabelAtoms → CertTerm → Bool
labels_fit h (Pos n ls) = labels_pass h is_any ls
labels_fit h (Sum n es ls) = labels_pass h is_inequality ls
labels_fit h (Eq l e) = label_passes h is_equation l

-- the term is a positive number times strict atoms
abbrev pub term_is_strict : LabelAtoms → CertTerm → Bool
term_is_strict h (Pos n ls) = nat_lt 0 n && labels_pass h is_strict ls
term_is_strict h (Sum n es ls) = false
term_is_strict h (Eq l e) = false

-- and so the first of these
abbrev pub begins_strict : LabelAtoms → List CertTerm → Bool
begins_strict h [] = false
begins_strict h (t ∷ ts) = term_is_strict h t

-- ---- the factors of a term

-- norm, number of terms and degree of a polynomial, or bounds on them
pub record Size : Type 0 where
  pub norm : ℕ
  pub terms : ℕ
  pub degree : ℕ

-- a factor of a term: its coefficients, its value at each point, and its size
pub record TermFactor : Type 0 where
  pub coefficients : Coefficients
  pub value : Point → Rational
  pub size : Size

-- a number
abbrev pub number_factor : ℕ → TermFactor
number_factor n = record {
  coefficients = constant (whole (pos n));
  value = λ x. whole (pos n);
  size = record { norm = n; terms = 1; degree = 0 };
}

-- a polynomial
abbrev pub polynomial_factor : List Term → TermFactor
polynomial_factor ts = record {
  coefficients = λ m. whole (coef ts m);
  value = value_at ts;
  size = record { norm = norm ts; terms = length ts; degree = degree ts };
}

-- the polynomial of a label's atom
abbrev pub label_factor : LabelAtoms → ℕ → TermFactor
label_factor h l = polynomial_factor (option_map_or (λ a. a.poly) (h l) [])

-- an expression, whose weight is its size
abbrev pub expression_factor : Places → Expr → TermFactor
expression_factor p e = record {
  coefficients = coefficients (variables p) e;
  value = λ x. value e (values_at p x);
  size = record { norm = (own_weight p e).norm; terms = (own_weight p e).terms; degree = (own_weight p e).degree };
}

-- each twice
abbrev pub squared : {A : Type 0} → List A → List A
squared [] = []
squared (a ∷ bs) = a ∷ a ∷ squared bs

-- its number or its expression, its squares, each twice, and its labels' polynomials
abbrev pub factors : Places → LabelAtoms → CertTerm → List TermFactor
factors p h (Pos n ls) = number_factor n ∷ map (label_factor h) ls
factors p h (Sum n es ls) = number_factor n ∷ squared (map (expression_factor p) es) ++ map (label_factor h) ls
factors p h (Eq l e) = label_factor h l ∷ expression_factor p e ∷ []

-- ---- the sum of all terms

-- each of these joined to the first, one after the other
abbrev pub combined : {A : Type 0} → (A → A → A) → A → List A → A
combined op a [] = a
combined op a (b ∷ bs) = combined op (op b a) bs

-- the coefficients of the product of these factors
abbrev pub factor_product : List TermFactor → Coefficients
factor_product fs = combined times (constant (whole (pos 1))) (map (λ f. f.coefficients) fs)

-- the coefficients of the sum of two
abbrev pub coefficient_sum : Coefficients → Coefficients → Coefficients
coefficient_sum f g m = sum (f m) (g m)

-- the coefficients of the sum of all terms
abbrev pub total_coefficients : Places → LabelAtoms → List CertTerm → Coefficients
total_coefficients p h ts = combined coefficient_sum (λ m. whole (pos 0)) (map (λ t. factor_product (factors p h t)) ts)

-- the labels fit, the first term is strict, and each coefficient of the sum of all terms is 0
pub record Refutes (p : Places) (h : LabelAtoms) (ts : List CertTerm) : Type 0 where
  pub labels : IsTrue (list_all (labels_fit h) ts)
  pub strict : IsTrue (begins_strict h ts)
  pub zero : (m : Powers) → Equals (total_coefficients p h ts m) (whole (pos 0))
