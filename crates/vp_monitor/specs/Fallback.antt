-- What the code of the fallback says of its polynomials, and how it is refused.
use Rattle.std.specs.Prelude.{◌≡◌, ◌≢◌, ⊤, ℕ, true, false, Some, List, [], ◌∷◌, slice_get}
use Rattle.vp_terms.specs.Meaning.{Assignment, value}
use Rattle.vp_terms.specs.Rational.{Equals}
use Rattle.vp_terms.specs.declared.expr.Expr.{Expr}
use Rattle.vp_terms.specs.declared.expr.Expr.TheVariants.{Var as Variable}
use Rattle.vp_terms.specs.declared.expr.Places.{Places}
use Rattle.vp_terms.specs.declared.expr.Var.TheVariants.{NextControl}
use Rattle.vp_poly.specs.declared.mono.Term.{Term}
use Rattle.vp_poly.specs.Canonical.{own_weight}
use Rattle.vp_poly.specs.Value.{Point, value_at}
use Rattle.vp_monitor.specs.declared.error.MonErr.{MonErr}
use Rattle.vp_monitor.specs.declared.error.MonErr.TheVariants.{Wide, Fraction, Memory}
use Rattle.vp_monitor.specs.declared.error.Place.TheVariants.{Fallback}
use Rattle.vp_monitor.specs.Refusals.{difference_fits}

-- each polynomial has the value of its expression
abbrev pub AreValuesOf : Point → Assignment → List Expr → List (List Term) → Type 0
AreValuesOf z a [] [] = ⊤
AreValuesOf z a [] (q ∷ qs) = ⊥
AreValuesOf z a (e ∷ es) [] = ⊥
AreValuesOf z a (e ∷ es) (q ∷ qs) = Equals (value_at q z) (value e a) × AreValuesOf z a es qs

-- the refusal tells why the expression e of control k has no polynomial
abbrev pub TellsFallback : Places → List (List ℕ) → ℕ → Expr → MonErr → Type 0
TellsFallback p names k e (Wide (Fallback j)) = (j ≡ k) × (difference_fits p (Variable (NextControl k)) e ≡ false)
TellsFallback p names k e (Fraction name) =
    (slice_get names k ≡ Some name) × (difference_fits p (Variable (NextControl k)) e ≡ true) × ((own_weight p e).den ≢ 1)
TellsFallback p names k e Memory = ⊤
TellsFallback p names k e f = ⊥
