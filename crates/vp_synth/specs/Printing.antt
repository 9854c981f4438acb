-- The texts of polynomials, atoms and forms.
use Rattle.std.specs.Prelude.{ℕ, pos, int_lt, Bool, true, false, ◌&&◌, not, nat_eq, if◌then◌else◌, List, [], ◌∷◌, ◌++◌, map, sum, unsigned_abs, codes, decimal}
use Rattle.std.specs.List.{flat_map}
use Rattle.vp_terms.specs.declared.package.Names.{Names}
use Rattle.vp_poly.specs.declared.mono.Term.{Term}
use Rattle.vp_poly.specs.Poly.{Powers}
use Rattle.vp_logic.specs.declared.norm.Rel.{Rel}
use Rattle.vp_logic.specs.declared.norm.Rel.TheVariants.{Ge, Gt, Eq}
use Rattle.vp_logic.specs.declared.norm.Atom.{Atom}
use Rattle.vp_logic.specs.Tree.{Tree, Trees, One, AllOf, AnyOf, None, Then}

-- ---- variables

-- the next value of a state or control prints with `@`
abbrev pub next_name : List ℕ → List ℕ
next_name name = name ++ codes "@"

-- the names of all variables, in the order of their places
abbrev pub variable_names : Names → List (List ℕ)
variable_names n =
    n.params ++ n.states ++ n.controls ++ map next_name n.states ++ map next_name n.controls ++ codes "tau" ∷ []

-- ---- monomials and polynomials

-- texts with another between each two
abbrev pub joined_by : List ℕ → List (List ℕ) → List ℕ
joined_by between [] = []
joined_by between (t ∷ ts) = t ++ flat_map (λ u. between ++ u) ts

-- a power of a variable; the exponent 1 is left out
abbrev pub power_text : List ℕ → ℕ → List ℕ
power_text name k = if nat_eq k 1 then name else name ++ codes "^" ++ decimal k

-- the powers of a monomial in the order of places, without those whose exponent is 0
abbrev pub power_texts : List (List ℕ) → Powers → List (List ℕ)
power_texts [] ks = []
power_texts (name ∷ names) [] = []
power_texts (name ∷ names) (k ∷ ks) =
    if nat_eq k 0 then power_texts names ks else power_text name k ∷ power_texts names ks

-- a number times a monomial; the number 1 is left out before variables
abbrev pub factor_texts : List (List ℕ) → ℕ → Powers → List (List ℕ)
factor_texts variables n ks =
    if nat_eq n 1 && not (nat_eq (sum ks) 0) then power_texts variables ks else decimal n ∷ power_texts variables ks

abbrev pub product_text : List (List ℕ) → ℕ → Powers → List ℕ
product_text variables n ks = joined_by (codes "*") (factor_texts variables n ks)

-- a monomial alone; the empty one is 1
abbrev pub monomial_text : List (List ℕ) → Powers → List ℕ
monomial_text variables ks = product_text variables 1 ks

-- the sign before the first term, and before each later one
abbrev pub first_sign : Bool → List ℕ
first_sign true = codes "-"
first_sign false = []

abbrev pub later_sign : Bool → List ℕ
later_sign true = codes " - "
later_sign false = codes " + "

-- a term without its sign
abbrev pub size_text : List (List ℕ) → Term → List ℕ
size_text variables t = product_text variables (unsigned_abs t.coef) t.mono.powers

abbrev pub later_text : List (List ℕ) → Term → List ℕ
later_text variables t = later_sign (int_lt t.coef (pos 0)) ++ size_text variables t

-- the terms in order; the zero polynomial is 0
abbrev pub polynomial_text : List (List ℕ) → List Term → List ℕ
polynomial_text variables [] = codes "0"
polynomial_text variables (t ∷ ts) =
    first_sign (int_lt t.coef (pos 0)) ++ size_text variables t ++ flat_map (later_text variables) ts

-- ---- forms

abbrev pub rel_text : Rel → List ℕ
rel_text Ge = codes " >= 0"
rel_text Gt = codes " > 0"
rel_text Eq = codes " = 0"

abbrev pub atom_text : List (List ℕ) → Atom → List ℕ
atom_text variables a = polynomial_text variables a.poly ++ rel_text a.rel

-- what stands before and behind a member that isn't an atom
abbrev pub opening : Tree → List ℕ
opening (One a) = []
opening (AllOf ns) = codes "["
opening (AnyOf ns) = codes "["

abbrev pub closing : Tree → List ℕ
closing (One a) = []
closing (AllOf ns) = codes "]"
closing (AnyOf ns) = codes "]"

-- members with `&` or `|` between them; without members an `And` is `true` and an `Or` is `false`
abbrev mutual
  pub form_text : List (List ℕ) → Tree → List ℕ
  form_text variables (One a) = atom_text variables a
  form_text variables (AllOf ns) = members_text variables (codes "true") (codes " & ") ns
  form_text variables (AnyOf ns) = members_text variables (codes "false") (codes " | ") ns

  pub members_text : List (List ℕ) → List ℕ → List ℕ → Trees → List ℕ
  members_text variables none between None = none
  members_text variables none between (Then n ns) =
      opening n ++ form_text variables n ++ closing n ++ later_members variables between ns

  pub later_members : List (List ℕ) → List ℕ → Trees → List ℕ
  later_members variables between None = []
  later_members variables between (Then n ns) =
      between ++ opening n ++ form_text variables n ++ closing n ++ later_members variables between ns
