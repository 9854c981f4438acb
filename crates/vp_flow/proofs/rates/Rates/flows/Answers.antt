use Rattle.std.proofs.Common.{length, refl, slice_index, subst, sym, arith}
use Rattle.vp_flow.specs.Filled.{AreFilled}
use Rattle.vp_flow.proofs.WeighLaws.{first-of, flows-more, low-all, weight-here}
use Rattle.vp_flow.proofs.rates.Rates.flows.Goals as goal

pub series-requires-clause-low : goal.series-requires-clause-low
series-requires-clause-low c = low-all c.args.self.now.bounds c.args.heights.now c.args.self.now.counts.states c.args.weights.now c.requires.common c.requires.weights

pub flow-requires-clause-series : goal.flow-requires-clause-series
flow-requires-clause-series c =
    first-of c.args.self.now (slice_index c.args.heights.now) c.args.order.now c.deref.result.now c.loop-state.state c.requires.all
    (subst (λ s. AreFilled c.args.self.now (slice_index c.args.heights.now) c.args.order.now (length c.args.order.now) s) (sym c.deref.ensures.value) c.in_ok-series.ensures)
    (omega (arith, c.loop-state-test.true, c.requires.weights.count))

pub flow-requires-clause-weight : goal.flow-requires-clause-weight
flow-requires-clause-weight c = (weight-here c.args.self.now.bounds c.args.heights.now c.args.self.now.counts.states c.loop-state.state (slice_index c.args.heights.now c.loop-state.state) c.args.weights.now c.index-weights-state.result c.requires.weights c.loop-state-test.true c.index-weights-state.is refl).weight

pub flow-requires-clause-fits : goal.flow-requires-clause-fits
flow-requires-clause-fits c = (weight-here c.args.self.now.bounds c.args.heights.now c.args.self.now.counts.states c.loop-state.state (slice_index c.args.heights.now c.loop-state.state) c.args.weights.now c.index-weights-state.result c.requires.weights c.loop-state-test.true c.index-weights-state.is refl).fits

pub loop-state-preserved : goal.loop-state-preserved
loop-state-preserved c = flows-more c.args.self.now (slice_index c.args.heights.now) c.loop-state.state c.loop-state.flows.items c.push.new.self.items c.in_ok-flow.field-0 c.in_ok-push.ensures.items c.loop-state.invariant (c.in_ok-flow.ensures (slice_index c.args.heights.now) refl)
