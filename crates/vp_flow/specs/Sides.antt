-- The right sides of a model's states, which state uses which, and the heights of states.
use Rattle.std.specs.Prelude.{◌≡◌, ℕ, zero, suc, ◌<◌, max, Bool, cond, ◌&&◌, nat_lt, nat_le, IsTrue, IfSome, Option, Some, None, pos, List, [], ◌∷◌, length, map, slice_get, slice_index, unwrap_or}
use Rattle.std.specs.List.{list_any, list_all}
use Rattle.vp_terms.specs.Places.{place}
use Rattle.vp_terms.specs.WellFormed.{places_of}
use Rattle.vp_terms.specs.declared.expr.Expr.{Expr}
use Rattle.vp_terms.specs.declared.expr.Places.{Places}
use Rattle.vp_terms.specs.declared.expr.Var.TheVariants.{State}
use Rattle.vp_terms.specs.declared.package.Package.{Package}
use Rattle.vp_poly.specs.declared.mono.Term.{Term}
use Rattle.vp_poly.specs.declared.scaled.Scaled.{Scaled}
use Rattle.vp_terms.specs.Rational.{whole}
use Rattle.vp_poly.specs.Coefficient.{Coefficients, coefficients, constant}
use Rattle.vp_poly.specs.Canonical.{IsCanonical, IsWeighed, own_weight, variables}
use Rattle.vp_flow.specs.Series.{state_degree}

-- the places of a package's variables
abbrev pub model : Package → Places
model pkg = places_of pkg.names

-- q is the canonical polynomial of the expression e, which isn't over, with its weight
pub record IsPolynomialOf (p : Places) (e : Expr) (q : Scaled) : Type 0 where
  pub weight : q.weight ≡ own_weight p e
  pub weighed : IsWeighed q.poly q.weight
  pub positive : 0 < q.weight.den
  pub canonical : IsCanonical q.weight.den q.poly (coefficients (variables p) e)

-- qs are the canonical polynomials of all right sides
pub record AreRightSides (pkg : Package) (qs : List Scaled) : Type 0 where
  pub count : length qs ≡ length pkg.plant.rates
  pub each : (i : ℕ) → IfSome (slice_get pkg.plant.rates i) (λ e. IfSome (slice_get qs i) (IsPolynomialOf (model pkg) e))

-- the polynomials alone
abbrev pub polys : List Scaled → List (List Term)
polys qs = map (λ q. q.poly) qs

-- the right side of the state i
abbrev pub side : List (List Term) → ℕ → List Term
side ss i = unwrap_or (slice_get ss i) []

-- each monomial has degree at most 1 in the states
abbrev pub is_linear : Places → List Term → Bool
is_linear p ts = list_all (λ t. nat_le (state_degree p t.mono.powers) 1) ts

-- the state j is in some monomial
abbrev pub occurs : Places → ℕ → List Term → Bool
occurs p j ts = list_any (λ t. nat_lt 0 (slice_index t.mono.powers (place p (State j)))) ts

-- the state i uses the state j
abbrev pub uses : Places → List (List Term) → ℕ → ℕ → Bool
uses p ss i j = nat_lt j p.states && occurs p j (side ss i)

-- i reaches j by one or more uses
pub data Reaches (p : Places) (ss : List (List Term)) : ℕ → ℕ → Type 0 where
  Once : (i j : ℕ) → IsTrue (uses p ss i j) → Reaches p ss i j
  Again : (i j k : ℕ) → IsTrue (uses p ss i j) → Reaches p ss j k → Reaches p ss i k

-- the greatest f j of the j below n that pass the test, 0 for none
abbrev pub greatest_where : ℕ → (ℕ → Bool) → (ℕ → ℕ) → ℕ
greatest_where zero t f = 0
greatest_where (suc n) t f = max (greatest_where n t f) (cond (t n) (f n) 0)

-- the height of a state with this right side, where n is the greatest height of the states that it uses
abbrev pub height_from : List Term → ℕ → ℕ
height_from [] n = 0
height_from (t ∷ ts) n = suc n

-- the height of a state is 0 where its right side is zero, else 1 and the greatest height of the states that it uses
pub record AreHeights (p : Places) (ss : List (List Term)) (h : ℕ → ℕ) : Type 0 where
  pub each : (i : ℕ) → i < p.states → h i ≡ height_from (side ss i) (greatest_where p.states (uses p ss i) h)

-- the coefficients of a right side whose variables stand for themselves, and 0 where there is none
abbrev pub rate_of : Places → Option Expr → Coefficients
rate_of p (Some e) = coefficients (variables p) e
rate_of p None = constant (whole (pos 0))

-- those of the right side of the state i
abbrev pub rates_of : Package → ℕ → Coefficients
rates_of pkg i = rate_of (model pkg) (slice_get pkg.plant.rates i)
