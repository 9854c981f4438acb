use Rattle.std.proofs.Common.{◌≡◌, ◌≤◌, ◌<◌, ◌∙◌, ℕ, List, length, slice_index, ap, refl, sym, subst, arith}
use Rattle.vp_poly.specs.Places.{places_for}
use Rattle.vp_flow.proofs.Placed.{flows-only}
use Rattle.vp_flow.proofs.SharingLaws.{are-of, are-sides, are-timed}
use Rattle.vp_flow.proofs.Solutions.{solving, starting}
use Rattle.vp_flow.proofs.Solved.{flows-are, given, heights-shared, order-shared, suited-are, weights-shared}
use Rattle.vp_flow.proofs.solution.flows.Goals as goal

pub of-requires : goal.of-requires
of-requires c = suited-are c.args.pkg.now c.args.counts c.args.sides.now c.args.schedule.now.heights.items c.args.weights.now c.args.bounds c.unwrap_or.result c.unwrap_or.ensures c.requires.good c.requires.places c.requires.sides c.requires.schedule.heights c.requires.weights c.requires.bounds

pub flows-requires-clause-common : goal.flows-requires-clause-common
flows-requires-clause-common c =
    let g = given c.args.pkg.now c.args.counts c.args.sides.now c.args.schedule.now.heights.items c.args.weights.now c.args.bounds c.unwrap_or.result c.in_ok-rates.rates c.unwrap_or.ensures c.requires.good c.requires.places c.requires.valid c.requires.sides c.requires.linear c.requires.low c.requires.schedule.heights c.requires.weights c.requires.bounds c.in_ok-rates.ensures in
    subst (λ b. 1 ≤ b.common) (sym c.in_ok-rates.ensures.bounds) g.common

pub flows-requires-clause-sides : goal.flows-requires-clause-sides
flows-requires-clause-sides c =
    let g = given c.args.pkg.now c.args.counts c.args.sides.now c.args.schedule.now.heights.items c.args.weights.now c.args.bounds c.unwrap_or.result c.in_ok-rates.rates c.unwrap_or.ensures c.requires.good c.requires.places c.requires.valid c.requires.sides c.requires.linear c.requires.low c.requires.schedule.heights c.requires.weights c.requires.bounds c.in_ok-rates.ensures in
    are-sides c.args.pkg.now c.args.counts c.unwrap_or.result c.args.sides.now c.in_ok-rates.rates g c.in_ok-rates.ensures.counts c.in_ok-rates.ensures.bounds

pub flows-requires-clause-order : goal.flows-requires-clause-order
flows-requires-clause-order c =
    let g = given c.args.pkg.now c.args.counts c.args.sides.now c.args.schedule.now.heights.items c.args.weights.now c.args.bounds c.unwrap_or.result c.in_ok-rates.rates c.unwrap_or.ensures c.requires.good c.requires.places c.requires.valid c.requires.sides c.requires.linear c.requires.low c.requires.schedule.heights c.requires.weights c.requires.bounds c.in_ok-rates.ensures in
    order-shared c.args.pkg.now c.args.counts c.unwrap_or.result c.args.sides.now c.in_ok-rates.rates c.args.schedule.now.order.items c.deref.result.now g c.in_ok-rates.ensures.counts c.requires.schedule.order c.deref.ensures.value

pub flows-requires-clause-all : goal.flows-requires-clause-all
flows-requires-clause-all c = λ j lt.
    subst (λ (l : List ℕ). (t : ℕ) × (t < length l) × (slice_index l t ≡ j)) (sym c.deref.ensures.value) (c.requires.schedule.all j (omega (arith, lt, ap (λ k. k.states) c.in_ok-rates.ensures.counts)))

pub flows-requires-clause-heights : goal.flows-requires-clause-heights
flows-requires-clause-heights c =
    let g = given c.args.pkg.now c.args.counts c.args.sides.now c.args.schedule.now.heights.items c.args.weights.now c.args.bounds c.unwrap_or.result c.in_ok-rates.rates c.unwrap_or.ensures c.requires.good c.requires.places c.requires.valid c.requires.sides c.requires.linear c.requires.low c.requires.schedule.heights c.requires.weights c.requires.bounds c.in_ok-rates.ensures in
    heights-shared c.args.pkg.now c.args.counts c.unwrap_or.result c.args.sides.now c.in_ok-rates.rates c.args.schedule.now.heights.items c.deref-2.result.now g c.in_ok-rates.ensures.counts c.requires.schedule.heights c.deref-2.ensures.value

pub flows-requires-clause-weights : goal.flows-requires-clause-weights
flows-requires-clause-weights c =
    weights-shared c.args.sides.now c.args.schedule.now.heights.items c.deref-2.result.now c.args.counts.states c.in_ok-rates.rates.counts.states c.args.weights.now c.args.bounds c.unwrap_or.result c.in_ok-rates.rates.bounds c.unwrap_or.ensures c.in_ok-rates.ensures.bounds (ap (λ k. k.states) c.in_ok-rates.ensures.counts) c.deref-2.ensures.value c.requires.bounds c.requires.weights

pub returns-clause-flows : goal.returns-clause-flows
returns-clause-flows c =
    let g = given c.args.pkg.now c.args.counts c.args.sides.now c.args.schedule.now.heights.items c.args.weights.now c.args.bounds c.unwrap_or.result c.in_ok-rates.rates c.unwrap_or.ensures c.requires.good c.requires.places c.requires.valid c.requires.sides c.requires.linear c.requires.low c.requires.schedule.heights c.requires.weights c.requires.bounds c.in_ok-rates.ensures in
    let w = weights-shared c.args.sides.now c.args.schedule.now.heights.items c.deref-2.result.now c.args.counts.states c.in_ok-rates.rates.counts.states c.args.weights.now c.args.bounds c.unwrap_or.result c.in_ok-rates.rates.bounds c.unwrap_or.ensures c.in_ok-rates.ensures.bounds (ap (λ k. k.states) c.in_ok-rates.ensures.counts) c.deref-2.ensures.value c.requires.bounds c.requires.weights in
    flows-are c.args.pkg.now c.args.counts c.unwrap_or.result c.args.sides.now c.in_ok-rates.rates c.args.schedule.now.heights.items c.deref-2.result.now c.args.weights.now c.in_ok-flows.flows.items g c.in_ok-rates.ensures.counts c.in_ok-rates.ensures.bounds c.deref-2.ensures.value c.requires.schedule.heights c.requires.weights w c.in_ok-flows.ensures

pub returns-clause-start : goal.returns-clause-start
returns-clause-start c =
    let g = given c.args.pkg.now c.args.counts c.args.sides.now c.args.schedule.now.heights.items c.args.weights.now c.args.bounds c.unwrap_or.result c.in_ok-rates.rates c.unwrap_or.ensures c.requires.good c.requires.places c.requires.valid c.requires.sides c.requires.linear c.requires.low c.requires.schedule.heights c.requires.weights c.requires.bounds c.in_ok-rates.ensures in
    starting c.args.pkg.now c.in_ok-rates.rates (slice_index c.deref-2.result.now) c.in_ok-rates.rates.counts.states c.in_ok-flows.flows.items (ap places_for c.in_ok-rates.ensures.counts ∙ c.requires.places) refl
    (are-sides c.args.pkg.now c.args.counts c.unwrap_or.result c.args.sides.now c.in_ok-rates.rates g c.in_ok-rates.ensures.counts c.in_ok-rates.ensures.bounds)
    (are-timed c.args.pkg.now c.args.counts c.unwrap_or.result c.args.sides.now c.in_ok-rates.rates g c.in_ok-rates.ensures.counts c.in_ok-rates.ensures.bounds)
    (are-of c.args.pkg.now c.args.counts c.unwrap_or.result c.args.sides.now c.in_ok-rates.rates g c.in_ok-rates.ensures.counts c.in_ok-rates.ensures.bounds)
    (heights-shared c.args.pkg.now c.args.counts c.unwrap_or.result c.args.sides.now c.in_ok-rates.rates c.args.schedule.now.heights.items c.deref-2.result.now g c.in_ok-rates.ensures.counts c.requires.schedule.heights c.deref-2.ensures.value) c.in_ok-flows.ensures

pub returns-clause-derivative : goal.returns-clause-derivative
returns-clause-derivative c =
    let g = given c.args.pkg.now c.args.counts c.args.sides.now c.args.schedule.now.heights.items c.args.weights.now c.args.bounds c.unwrap_or.result c.in_ok-rates.rates c.unwrap_or.ensures c.requires.good c.requires.places c.requires.valid c.requires.sides c.requires.linear c.requires.low c.requires.schedule.heights c.requires.weights c.requires.bounds c.in_ok-rates.ensures in
    solving (record { weaker = c.variables_pass_tests.ensures.expressions; expressions = c.well_formed_parts_have_allowed_variables.ensures.expressions; allowed = c.well_formed_parts_have_allowed_variables.ensures.allowed }) c.places_tell_variables.ensures.in_range c.args.pkg.now c.in_ok-rates.rates (slice_index c.deref-2.result.now) c.in_ok-rates.rates.counts.states c.in_ok-flows.flows.items c.requires.good (ap places_for c.in_ok-rates.ensures.counts ∙ c.requires.places) refl
    (are-sides c.args.pkg.now c.args.counts c.unwrap_or.result c.args.sides.now c.in_ok-rates.rates g c.in_ok-rates.ensures.counts c.in_ok-rates.ensures.bounds)
    (are-timed c.args.pkg.now c.args.counts c.unwrap_or.result c.args.sides.now c.in_ok-rates.rates g c.in_ok-rates.ensures.counts c.in_ok-rates.ensures.bounds)
    (are-of c.args.pkg.now c.args.counts c.unwrap_or.result c.args.sides.now c.in_ok-rates.rates g c.in_ok-rates.ensures.counts c.in_ok-rates.ensures.bounds)
    (heights-shared c.args.pkg.now c.args.counts c.unwrap_or.result c.args.sides.now c.in_ok-rates.rates c.args.schedule.now.heights.items c.deref-2.result.now g c.in_ok-rates.ensures.counts c.requires.schedule.heights c.deref-2.ensures.value) c.in_ok-flows.ensures

pub returns-clause-only : goal.returns-clause-only
returns-clause-only c = λ allowed allows.
    let g = given c.args.pkg.now c.args.counts c.args.sides.now c.args.schedule.now.heights.items c.args.weights.now c.args.bounds c.unwrap_or.result c.in_ok-rates.rates c.unwrap_or.ensures c.requires.good c.requires.places c.requires.valid c.requires.sides c.requires.linear c.requires.low c.requires.schedule.heights c.requires.weights c.requires.bounds c.in_ok-rates.ensures in
    flows-only c.places_pass_tests.ensures.told c.args.pkg.now c.args.counts c.unwrap_or.result c.args.sides.now c.in_ok-rates.rates (slice_index c.deref-2.result.now) c.in_ok-rates.rates.counts.states c.in_ok-flows.flows.items allowed g c.in_ok-rates.ensures.counts refl
    (are-sides c.args.pkg.now c.args.counts c.unwrap_or.result c.args.sides.now c.in_ok-rates.rates g c.in_ok-rates.ensures.counts c.in_ok-rates.ensures.bounds)
    (are-timed c.args.pkg.now c.args.counts c.unwrap_or.result c.args.sides.now c.in_ok-rates.rates g c.in_ok-rates.ensures.counts c.in_ok-rates.ensures.bounds)
    (are-of c.args.pkg.now c.args.counts c.unwrap_or.result c.args.sides.now c.in_ok-rates.rates g c.in_ok-rates.ensures.counts c.in_ok-rates.ensures.bounds)
    (heights-shared c.args.pkg.now c.args.counts c.unwrap_or.result c.args.sides.now c.in_ok-rates.rates c.args.schedule.now.heights.items c.deref-2.result.now g c.in_ok-rates.ensures.counts c.requires.schedule.heights c.deref-2.ensures.value) allows c.in_ok-flows.ensures
