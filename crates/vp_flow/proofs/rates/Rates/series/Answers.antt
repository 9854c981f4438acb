use Rattle.std.proofs.Common.{slice_index, refl, subst, sym}
use Rattle.vp_flow.specs.Filled.{AreFilled}
use Rattle.vp_flow.proofs.Fillings.{filled-none, filled-more, known-in_order}
use Rattle.vp_flow.proofs.rates.Rates.series.Goals as goal

pub loop-state-init : goal.loop-state-init
loop-state-init c = filled-none c.args.self.now (slice_index c.args.heights.now) c.args.order.now c.in_ok-series.series.items _ c.requires.sides c.in_ok-series.ensures c.from.ensures

pub series_of-requires-clause-used : goal.series_of-requires-clause-used
series_of-requires-clause-used c =
    known-in_order c.args.self.now (slice_index c.args.heights.now) c.args.order.now c.loop-state.state-index c.deref.result.now c.requires.sides c.requires.heights c.requires.order c.loop-state-test.true
    (subst (λ s. AreFilled c.args.self.now (slice_index c.args.heights.now) c.args.order.now c.loop-state.state-index s) (sym c.deref.ensures.value) c.loop-state.invariant)

pub series_of-requires-clause-low : goal.series_of-requires-clause-low
series_of-requires-clause-low c = λ k. c.requires.low (slice_index c.args.order.now c.loop-state.state-index) k (c.requires.order.states c.loop-state.state-index c.loop-state-test.true)

pub loop-state-preserved : goal.loop-state-preserved
loop-state-preserved c =
    filled-more c.args.self.now (slice_index c.args.heights.now) c.args.order.now c.loop-state.state-index (slice_index c.args.order.now c.loop-state.state-index) c.loop-state.series.items _ c.in_ok-series-2.field-0 c.requires.sides c.loop-state.invariant refl
    (c.requires.order.states c.loop-state.state-index c.loop-state-test.true) refl c.in_ok-series-2.ensures
