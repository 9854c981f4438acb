use Rattle.std.proofs.Common.{◌≡◌, ◌∙◌, ◌+◌, ℕ, List, Some, Err, nat_lt, length, slice_get, ap, sym, subst, arith}
use Rattle.vp_terms.specs.WellFormed.{in_model, is_allowed}
use Rattle.vp_poly.specs.declared.scaled.Scaled.{Scaled}
use Rattle.vp_poly.specs.Canonical.{StandsFor, StandsWithin, variables, weights_of}
use Rattle.vp_poly.specs.Places.{places_for}
use Rattle.vp_poly.specs.Weights.{fits, weight_in}
use Rattle.vp_flow.specs.Sides.{model}
use Rattle.vp_flow.proofs.RightLaws.{first-all, first-more, first-over, good-rate, low-places, own-weight-is, polynomial-of, rate-at, rate-below, rate-variables}
use Rattle.vp_flow.proofs.sides.right_sides.Goals as goal

pub of_expr-requires-clause-places : goal.of_expr-requires-clause-places
of_expr-requires-clause-places c = rate-below c.variables_have_places.ensures.expressions c.args.pkg.now (places_for c.args.counts) c.rate-item.result c.requires.places (good-rate c.args.pkg.now c.loop-rate.rate-index c.rate-item.result c.get-rate-items.result.now c.requires.good c.get-rate-items.ensures c.loop-rate-test.true c.rate-item.is)

pub returns-in-Err-Wide-clause-refused : goal.returns-in-Err-Wide-clause-refused
returns-in-Err-Wide-clause-refused c =
    first-over c.args.pkg.now c.args.counts c.loop-rate.rate-index c.loop-rate.sides.items c.rate-item.result c.in_ok-name-in-Err-Wide.name
    (rate-at c.args.pkg.now c.loop-rate.rate-index c.rate-item.result c.get-rate-items.result.now c.get-rate-items.ensures c.loop-rate-test.true c.rate-item.is)
    c.loop-rate.invariant
    (omega (arith, c.loop-rate-test.true, ap (λ l. length l) c.get-rate-items.ensures))
    (ap fits (sym (own-weight-is c.args.pkg.now c.args.counts c.rate-item.result c.in_ok-env.env.items c.deref.result.now c.deref.ensures.value c.in_ok-env.ensures.exact c.requires.places)) ∙ c.of_expr.ensures.wide (c.in-Err-Wide.is ∙ ap Err c.in-Err-Wide.field-0-is))
    (subst (λ (n : ℕ). slice_get c.args.pkg.now.names.states n ≡ Some c.in_ok-name-in-Err-Wide.name) (omega (arith, c.len.ensures, c.loop-rate.sides.ok.0, c.loop-rate.invariant.count)) c.in_ok-name-in-Err-Wide.ensures)

pub loop-rate-preserved : goal.loop-rate-preserved
loop-rate-preserved c =
    let good = good-rate c.args.pkg.now c.loop-rate.rate-index c.rate-item.result c.get-rate-items.result.now c.requires.good c.get-rate-items.ensures c.loop-rate-test.true c.rate-item.is in
    let stands = subst (λ (l : List Scaled). StandsFor (places_for c.args.counts) l (variables (places_for c.args.counts))) (sym c.deref.ensures.value) c.in_ok-env.ensures.coefficients in
    let within = subst (λ (l : List Scaled). StandsWithin (places_for c.args.counts) l (is_allowed in_model (model c.args.pkg.now)) (λ k. nat_lt k (c.args.counts.params + c.args.counts.states + c.args.counts.controls))) (sym c.deref.ensures.value)
    (c.in_ok-env.ensures.only (is_allowed in_model (model c.args.pkg.now)) (λ k. nat_lt k (c.args.counts.params + c.args.counts.states + c.args.counts.controls)) (low-places c.args.pkg.now (places_for c.args.counts) c.requires.places)) in
    first-more c.args.pkg.now c.args.counts c.loop-rate.rate-index c.loop-rate.sides.items c.push.new.self.items c.in-Ok.side c.rate-item.result c.in_ok-push-in-Ok.ensures.items
    (rate-at c.args.pkg.now c.loop-rate.rate-index c.rate-item.result c.get-rate-items.result.now c.get-rate-items.ensures c.loop-rate-test.true c.rate-item.is)
    c.loop-rate.invariant
    (polynomial-of c.args.pkg.now c.args.counts c.rate-item.result c.in-Ok.side (weight_in (places_for c.args.counts) (weights_of c.deref.result.now) c.rate-item.result) c.requires.places c.in-Ok.ensures.weight
    (own-weight-is c.args.pkg.now c.args.counts c.rate-item.result c.in_ok-env.env.items c.deref.result.now c.deref.ensures.value c.in_ok-env.ensures.exact c.requires.places)
    c.in-Ok.ensures.weighed c.in-Ok.ensures.positive
    (c.in-Ok.ensures.canonical (variables (places_for c.args.counts)) (rate-variables (record { weaker = c.variables_pass_tests.ensures.expressions; expressions = c.well_formed_parts_have_allowed_variables.ensures.expressions; allowed = c.well_formed_parts_have_allowed_variables.ensures.allowed }) c.args.pkg.now (places_for c.args.counts) c.rate-item.result c.requires.places good) stands))
    (c.places_pass_tests.ensures.passed (c.args.counts.params + c.args.counts.states + c.args.counts.controls) c.in-Ok.side.poly
    (c.in-Ok.ensures.only (is_allowed in_model (model c.args.pkg.now)) (λ k. nat_lt k (c.args.counts.params + c.args.counts.states + c.args.counts.controls)) (c.well_formed_parts_have_allowed_variables.ensures.expressions in_model (model c.args.pkg.now) c.rate-item.result good) within))

pub returns-clause-sides : goal.returns-clause-sides
returns-clause-sides c =
    first-all c.args.pkg.now c.args.counts c.loop-rate.rate-index c.loop-rate.sides.items
    (omega (arith, c.loop-rate-test.false, ap (λ l. length l) c.get-rate-items.ensures))
    (omega (arith, c.loop-rate.auto.rate-index-end, ap (λ l. length l) c.get-rate-items.ensures))
    c.loop-rate.invariant
