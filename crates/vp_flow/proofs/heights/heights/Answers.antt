use Rattle.std.proofs.Common.{◌≡◌, ℕ, List, slice_index, refl, subst, arith}
use Rattle.vp_flow.specs.Sides.{side, greatest_where, height_from, polys, uses}
use Rattle.vp_flow.proofs.Heightening.{fixed-more, fixed-all}
use Rattle.vp_poly.specs.Places.{places_for}
use Rattle.vp_flow.proofs.heights.heights.Goals as goal

pub loop-state-preserved : goal.loop-state-preserved
loop-state-preserved c =
    let state = slice_index c.args.order.now c.loop-state.state-index in
    fixed-more (places_for c.args.counts) (polys c.args.sides.now) c.args.order.now c.loop-state.state-index (slice_index c.args.order.now c.loop-state.state-index) c.height-height.result c.loop-state.heights.items c.requires.order c.loop-state-test.true c.loop-state.invariant refl
    (subst (λ (l : List ℕ). c.height-height.result ≡ height_from (side (polys c.args.sides.now) (slice_index c.args.order.now c.loop-state.state-index)) (greatest_where c.args.counts.states (uses (places_for c.args.counts) (polys c.args.sides.now) (slice_index c.args.order.now c.loop-state.state-index)) (slice_index l))) c.deref.ensures.value c.height-height.ensures)

pub returns-clause-heights : goal.returns-clause-heights
returns-clause-heights c = fixed-all (places_for c.args.counts) (polys c.args.sides.now) c.args.order.now c.loop-state.heights.items c.loop-state.state-index c.requires.all (omega (arith, c.loop-state-test.false)) c.loop-state.invariant
