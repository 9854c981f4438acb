use Rattle.std.proofs.Common.{◌<◌, List, All, sym, subst}
use Rattle.vp_poly.specs.declared.scaled.Scaled.{Scaled}
use Rattle.vp_poly.specs.Canonical.{IsWeighed}
use Rattle.vp_flow.proofs.Placed.{entries}
use Rattle.vp_flow.proofs.Valuing.{valued}
use Rattle.vp_flow.proofs.WeighLaws.{positive-sides, weighed-sides}
use Rattle.vp_flow.proofs.solution.flow.Goals as goal

pub of-bounds-requires-clause-weighed : goal.of-bounds-requires-clause-weighed
of-bounds-requires-clause-weighed c = subst (λ (l : List Scaled). All (λ q. IsWeighed q.poly q.weight) l) (sym c.deref-3.ensures.value) (weighed-sides c.args.pkg.now c.in_ok-sides.sides.items c.in_ok-sides.ensures.sides)

pub of-bounds-requires-clause-positive : goal.of-bounds-requires-clause-positive
of-bounds-requires-clause-positive c = subst (λ (l : List Scaled). All (λ q. 0 < q.weight.den) l) (sym c.deref-3.ensures.value) (positive-sides c.args.pkg.now c.in_ok-sides.sides.items c.in_ok-sides.ensures.sides)

pub returns-clause-values : goal.returns-clause-values
returns-clause-values c = valued c.args.pkg.now c.in_ok-flows.flows.items c.in_ok-flows.ensures.flows

pub returns-clause-entries : goal.returns-clause-entries
returns-clause-entries c = entries c.well_formed_parts_have_allowed_variables.ensures.allowed c.places_tell_variables.ensures.in_range c.places_pass_tests.ensures.passed c.args.pkg.now c.in_ok-flows.flows.items c.in_ok-flows.ensures.flows c.in_ok-flows.ensures.only
