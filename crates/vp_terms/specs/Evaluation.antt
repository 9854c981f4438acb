-- Evaluation over fractions whose lowest terms are below 2^62 in size.
use Rattle.std.specs.Prelude.{ℕ, ◌<◌, ◌≤◌, pos, List, length, slice_get, ⊤, Option, MatchOption}
use Rattle.std.specs.Option.{option_map_or}
use Rattle.vp_terms.specs.Rational.{Rational, whole, sum, difference, product, power, Equals}
use Rattle.vp_terms.specs.Places.{place}
use Rattle.vp_terms.specs.Meaning.{Assignment, rational, value}
use Rattle.vp_terms.specs.declared.ratio.Ratio.{Ratio}
use Rattle.vp_terms.specs.declared.expr.Places.{Places}
use Rattle.vp_terms.specs.declared.expr.Var.{Var}
use Rattle.vp_terms.specs.declared.expr.Expr.{Expr}
use Rattle.vp_terms.specs.declared.expr.Expr.TheVariants.{Num, Var as Variable, Add', Sub', Mul', Pow'}
use Rattle.vp_terms.specs.declared.formula.Formula.{Formula}
use Rattle.vp_terms.specs.declared.formula.Formula.TheVariants.{True, Cmp as Compare, And', Or', Not'}

-- the value at a place of a list; 0 stands for a value that is missing
abbrev pub value_in : List Ratio → ℕ → Rational
value_in values k = option_map_or rational (slice_get values k) (whole (pos 0))

-- each variable has the value at its place
abbrev pub at : Places → List Ratio → Assignment
at places values v = value_in values (place places v)

-- some fraction in lowest terms, with parts below 2^62, has this value
abbrev pub IsSmall : Rational → Type 0
IsSmall q = (r : Ratio) × Equals (rational r) q

-- an answer: a fraction of this value, or none where there is no such fraction
abbrev pub IsResult : Rational → Option Ratio → Type 0
IsResult q o = MatchOption o (¬ IsSmall q) (λ r. Equals (rational r) q)

-- each power up to this one is small
abbrev pub PowersAreSmall : Rational → ℕ → Type 0
PowersAreSmall q n = (k : ℕ) → k ≤ n → IsSmall (power q k)

-- the values of all parts are small, and this holds of each variable
abbrev pub PartsAreSmall : (Var → Type 0) → Assignment → Expr → Type 0
PartsAreSmall known a (Num r) = ⊤
PartsAreSmall known a (Variable v) = known v
PartsAreSmall known a (Add' l e r f) = PartsAreSmall known a e × PartsAreSmall known a f × IsSmall (sum (value e a) (value f a))
PartsAreSmall known a (Sub' l e r f) = PartsAreSmall known a e × PartsAreSmall known a f × IsSmall (difference (value e a) (value f a))
PartsAreSmall known a (Mul' l e r f) = PartsAreSmall known a e × PartsAreSmall known a f × IsSmall (product (value e a) (value f a))
PartsAreSmall known a (Pow' l e n) = PartsAreSmall known a e × PowersAreSmall (value e a) n

-- and so in each comparison
abbrev pub FormulaIsSmall : (Var → Type 0) → Assignment → Formula → Type 0
FormulaIsSmall known a True = ⊤
FormulaIsSmall known a (Compare c e f) = PartsAreSmall known a e × PartsAreSmall known a f
FormulaIsSmall known a (And' l f r g) = FormulaIsSmall known a f × FormulaIsSmall known a g
FormulaIsSmall known a (Or' l f r g) = FormulaIsSmall known a f × FormulaIsSmall known a g
FormulaIsSmall known a (Not' l f) = FormulaIsSmall known a f

-- a value is there for the variable
abbrev pub IsThere : Places → List Ratio → Var → Type 0
IsThere p vs v = place p v < length vs

-- each variable has a value, and the values of all parts are small
abbrev pub IsSmallIn : Places → List Ratio → Expr → Type 0
IsSmallIn p vs e = PartsAreSmall (IsThere p vs) (at p vs) e

-- and so in each comparison
abbrev pub AreSmallIn : Places → List Ratio → Formula → Type 0
AreSmallIn p vs f = FormulaIsSmall (IsThere p vs) (at p vs) f
