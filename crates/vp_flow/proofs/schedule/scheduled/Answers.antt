use Rattle.std.proofs.Common.{◌∙◌, length, refl}
use Rattle.vp_poly.specs.Places.{places_for}
use Rattle.vp_flow.specs.Sides.{polys}
use Rattle.vp_flow.proofs.Scheduling.{all-in-order, order-of, rank-most, ranks-of, reach-of}
use Rattle.vp_flow.proofs.schedule.scheduled.Goals as goal

pub by_rank-requires : goal.by_rank-requires
by_rank-requires c =
    let r = ranks-of c.deref-3.result.now c.in_ok-ranks.ranks.items c.deref-4.result.now c.deref-4.ensures.value c.in_ok-ranks.ensures.count c.in_ok-ranks.ensures.ranks in
    λ j lt. rank-most (length c.deref-3.result.now) j c.deref-4.result.now c.deref-3.result.now r.count refl r.each lt

pub heights-requires-clause-order : goal.heights-requires-clause-order
heights-requires-clause-order c =
    let r = ranks-of c.deref-3.result.now c.in_ok-ranks.ranks.items c.deref-4.result.now c.deref-4.ensures.value c.in_ok-ranks.ensures.count c.in_ok-ranks.ensures.ranks in
    let rows = reach-of (places_for c.args.counts) (polys c.args.sides.now) c.in_ok-table.table.items c.deref.result.now c.in_ok-reach.reach.items c.deref-3.result.now c.in_ok-table.ensures c.deref.ensures.value c.in_ok-reach.ensures c.deref-3.ensures.value in
    order-of (places_for c.args.counts) (polys c.args.sides.now) c.deref-3.result.now c.deref-4.result.now c.in_ok-order.order.items c.deref-5.result.now rows r c.in_ok-check_cycle.ensures.acyclic c.in_ok-order.ensures.ordered c.deref-5.ensures.value

pub heights-requires-clause-all : goal.heights-requires-clause-all
heights-requires-clause-all c =
    let r = ranks-of c.deref-3.result.now c.in_ok-ranks.ranks.items c.deref-4.result.now c.deref-4.ensures.value c.in_ok-ranks.ensures.count c.in_ok-ranks.ensures.ranks in
    let rows = reach-of (places_for c.args.counts) (polys c.args.sides.now) c.in_ok-table.table.items c.deref.result.now c.in_ok-reach.reach.items c.deref-3.result.now c.in_ok-table.ensures c.deref.ensures.value c.in_ok-reach.ensures c.deref-3.ensures.value in
    all-in-order (places_for c.args.counts) c.in_ok-order.order.items c.deref-5.result.now (length c.deref-4.result.now) (r.count ∙ rows.count) c.deref-5.ensures.value c.in_ok-order.ensures.all

pub returns-clause-schedule : goal.returns-clause-schedule
returns-clause-schedule c =
    let r = ranks-of c.deref-3.result.now c.in_ok-ranks.ranks.items c.deref-4.result.now c.deref-4.ensures.value c.in_ok-ranks.ensures.count c.in_ok-ranks.ensures.ranks in
    let rows = reach-of (places_for c.args.counts) (polys c.args.sides.now) c.in_ok-table.table.items c.deref.result.now c.in_ok-reach.reach.items c.deref-3.result.now c.in_ok-table.ensures c.deref.ensures.value c.in_ok-reach.ensures c.deref-3.ensures.value in
    record {
      order = order-of (places_for c.args.counts) (polys c.args.sides.now) c.deref-3.result.now c.deref-4.result.now c.in_ok-order.order.items c.in_ok-order.order.items rows r c.in_ok-check_cycle.ensures.acyclic c.in_ok-order.ensures.ordered refl;
      all = all-in-order (places_for c.args.counts) c.in_ok-order.order.items c.in_ok-order.order.items (length c.deref-4.result.now) (r.count ∙ rows.count) refl c.in_ok-order.ensures.all;
      count = c.in_ok-heights.ensures.count;
      heights = c.in_ok-heights.ensures.heights;
    }
