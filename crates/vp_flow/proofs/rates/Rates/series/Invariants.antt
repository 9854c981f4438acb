use Rattle.std.proofs.Common.{slice_index}
use Rattle.vp_flow.specs.Filled.{AreFilled}
use Rattle.vp_flow.proofs.rates.Rates.series.Given as goal

abbrev pub invariant-loop-state : goal.invariant-loop-state
invariant-loop-state l = AreFilled l.self (slice_index l.heights) l.order l.state-index l.series.items
