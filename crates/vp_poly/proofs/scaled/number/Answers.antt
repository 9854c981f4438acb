use Rattle.std.proofs.Common.{refl}
use Rattle.vp_terms.specs.Meaning.{rational}
use Rattle.vp_poly.proofs.NumberLaws.{number-coefficients, number-values}
use Rattle.vp_poly.proofs.scaled.number.Goals as goal

pub returns-clause-coefficients : goal.returns-clause-coefficients
returns-clause-coefficients c =
    number-coefficients c.args.value.num c.args.value.den c.in_ok-poly.poly _ _ (rational c.args.value) c.of_number-weight.ensures c.in_ok-poly.ensures.terms c.constant_term.ensures refl refl

pub returns-clause-values : goal.returns-clause-values
returns-clause-values c =
    λ x. number-values c.args.value.num c.args.value.den c.in_ok-poly.poly _ _ (rational c.args.value) x c.of_number-weight.ensures c.in_ok-poly.ensures.terms c.constant_term.ensures refl refl
