use Rattle.vp_terms.specs.WellFormed.{in_certificate}
use Rattle.vp_poly.specs.Places.{places_for}
use Rattle.vp_cert.proofs.FactorLaws.{expression_is, model_variables}
use Rattle.vp_cert.proofs.factor.expression_factor.Goals as goal

pub of_expr-requires-clause-places : goal.of_expr-requires-clause-places
of_expr-requires-clause-places c = c.variables_have_places.ensures.expressions in_certificate (places_for c.args.counts) c.args.e.now c.requires.good

pub returns-clause-factor : goal.returns-clause-factor
returns-clause-factor c =
    let made = c.in_ok-scaled.ensures in
    let law = c.well_formed_parts_have_allowed_variables.ensures in
    expression_is c.args.counts c.args.env.now c.args.e.now c.in_ok-scaled.scaled c.requires.env c.requires.whole made.weight made.weighed made.canonical
    (model_variables (record { expressions = law.expressions; allowed = law.allowed; weaker = c.variables_pass_tests.ensures.expressions }) (places_for c.args.counts) c.args.e.now c.requires.good)
