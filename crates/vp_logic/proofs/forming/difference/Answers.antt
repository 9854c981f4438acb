use Rattle.std.proofs.Common.{ap, refl}
use Rattle.vp_terms.specs.Rational.{difference}
use Rattle.vp_terms.specs.Meaning.{value}
use Rattle.vp_poly.specs.Weights.{Weights}
use Rattle.vp_poly.specs.Value.{value_at}
use Rattle.vp_logic.proofs.Comparing.{multiple_holds, canonical_over}
use Rattle.vp_logic.proofs.forming.difference.Goals as goal

pub returns-clause-form : goal.returns-clause-form
returns-clause-form c =
    λ f g h s.
    let d = ap (λ (k : Weights). k.den) c.in_ok-scaled.ensures.weight in (
      record { poly = c.in_ok-scaled.scaled.poly; rel = c.args.rel },
      refl,
      record { rel_is = refl; canonical = canonical_over _ _ c.in_ok-scaled.scaled.poly _ d (c.in_ok-scaled.ensures.canonical f g h s) },
    )

pub returns-clause-holds : goal.returns-clause-holds
returns-clause-holds c =
    λ x v g h s.
    multiple_holds
    c.args.rel
    c.in_ok-scaled.scaled.weight.den
    (value_at c.in_ok-scaled.scaled.poly x)
    (difference (value c.args.a.now v) (value c.args.b.now v))
    c.in_ok-scaled.ensures.positive
    (c.in_ok-scaled.ensures.values x v g h s)
