-- Formulas whose comparisons aren't over, and that have few terms.
use Rattle.std.specs.Prelude.{ℕ, ◌+◌, Bool, true, ◌&&◌, nat_le, List}
use Rattle.vp_terms.specs.declared.expr.Places.{Places}
use Rattle.vp_terms.specs.declared.formula.Formula.{Formula}
use Rattle.vp_terms.specs.declared.formula.Formula.TheVariants.{True, Cmp as Compare, And', Or', Not'}
use Rattle.vp_poly.specs.Weights.{Weights, fits, weight_between}

-- no comparison is over
abbrev pub comparisons_fit : Places → List Weights → Formula → Bool
comparisons_fit p ws True = true
comparisons_fit p ws (Compare c a b) = fits (weight_between p ws a b)
comparisons_fit p ws (And' l f r g) = comparisons_fit p ws f && comparisons_fit p ws g
comparisons_fit p ws (Or' l f r g) = comparisons_fit p ws f && comparisons_fit p ws g
comparisons_fit p ws (Not' l f) = comparisons_fit p ws f

-- the terms of all comparisons
abbrev pub terms_of : Places → List Weights → Formula → ℕ
terms_of p ws True = 0
terms_of p ws (Compare c a b) = (weight_between p ws a b).terms
terms_of p ws (And' l f r g) = terms_of p ws f + terms_of p ws g
terms_of p ws (Or' l f r g) = terms_of p ws f + terms_of p ws g
terms_of p ws (Not' l f) = terms_of p ws f

-- no comparison is over, and their terms are at most 65,536
abbrev pub is_narrow : Places → List Weights → Formula → Bool
is_narrow p ws f = comparisons_fit p ws f && nat_le (terms_of p ws f) 65536

-- how many comparisons there are
abbrev pub comparisons : Formula → ℕ
comparisons True = 0
comparisons (Compare c a b) = 1
comparisons (And' l f r g) = comparisons f + comparisons g
comparisons (Or' l f r g) = comparisons f + comparisons g
comparisons (Not' l f) = comparisons f
