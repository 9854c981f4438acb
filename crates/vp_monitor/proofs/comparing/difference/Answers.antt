use Rattle.std.proofs.Common.{◌≡◌, ℕ, ◌<◌, refl, pos, subst}
use Rattle.vp_terms.specs.Rational.{Rational, difference, whole}
use Rattle.vp_terms.specs.Meaning.{compares, value}
use Rattle.vp_terms.specs.declared.formula.Cmp.{Cmp}
use Rattle.vp_terms.specs.declared.formula.Cmp.TheVariants as cmp
use Rattle.vp_poly.specs.Canonical.{IsCanonical}
use Rattle.vp_poly.specs.Coefficient.{coefficients}
use Rattle.vp_poly.specs.Times.{IsTimes}
use Rattle.vp_poly.specs.Value.{value_at}
use Rattle.vp_poly.specs.Weights.{Weights}
use Rattle.vp_logic.specs.declared.norm.Rel.{Rel}
use Rattle.vp_logic.specs.declared.norm.Rel.TheVariants.{Ge, Gt, Eq}
use Rattle.vp_logic.specs.Truth.{rel_holds}
use Rattle.vp_monitor.proofs.comparing.difference.Goals as goal

multiple_holds : ((c : Cmp) (d : ℕ) (v q : Rational) → 0 < d → IsTimes d v q → compares c v (whole (pos 0)) ≡ compares c q (whole (pos 0))) → (rel : Rel) (d : ℕ) (v q : Rational) → 0 < d → IsTimes d v q → rel_holds rel v ≡ rel_holds rel q
multiple_holds law Ge d v q h t = law cmp.Ge d v q h t
multiple_holds law Gt d v q h t = law cmp.Gt d v q h t
multiple_holds law Eq d v q h t = law cmp.Eq d v q h t

pub returns-clause-form : goal.returns-clause-form
returns-clause-form c =
    λ f g h s. (
      record { poly = c.in_ok-scaled.scaled.poly; rel = c.args.rel },
      refl,
      record {
        rel_is = refl;
        canonical = subst (λ (k : Weights). IsCanonical k.den c.in_ok-scaled.scaled.poly (λ m. difference (coefficients f c.args.a.now m) (coefficients f c.args.b.now m))) c.in_ok-scaled.ensures.weight (c.in_ok-scaled.ensures.canonical f g h s);
      },
    )

pub returns-clause-holds : goal.returns-clause-holds
returns-clause-holds c =
    λ x v g h s.
    multiple_holds
    c.multiples_keep_signs.ensures
    c.args.rel
    c.in_ok-scaled.scaled.weight.den
    (value_at c.in_ok-scaled.scaled.poly x)
    (difference (value c.args.a.now v) (value c.args.b.now v))
    c.in_ok-scaled.ensures.positive
    (c.in_ok-scaled.ensures.values x v g h s)
