use Rattle.std.proofs.Common.{slice_index}
use Rattle.vp_flow.specs.Flows.{AreFlowsOf}
use Rattle.vp_flow.proofs.rates.Rates.flows.Given as goal

abbrev pub invariant-loop-state : goal.invariant-loop-state
invariant-loop-state l = AreFlowsOf l.self (slice_index l.heights) l.state l.flows.items
