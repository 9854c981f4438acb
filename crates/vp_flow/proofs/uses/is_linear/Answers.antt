use Rattle.std.proofs.Common.{arith}
use Rattle.vp_poly.specs.Places.{places_for}
use Rattle.vp_flow.proofs.TestLaws.{bent-term, straight-term}
use Rattle.vp_flow.proofs.uses.is_linear.Goals as goal

pub returns-then-state_degree-gt1 : goal.returns-then-state_degree-gt1
returns-then-state_degree-gt1 c = bent-term (places_for c.args.counts) c.args.poly.now c.loop-k.k c.state_degree.result c.term.result (omega (arith, c.loop-k-test.true, c.len-k-end.ensures.count)) c.term.ensures.exact c.state_degree.ensures c.if-state_degree-gt1.true

pub loop-k-preserved : goal.loop-k-preserved
loop-k-preserved c = straight-term (places_for c.args.counts) c.args.poly.now c.loop-k.k c.state_degree.result c.term.result (omega (arith, c.loop-k-test.true, c.len-k-end.ensures.count)) c.term.ensures.exact c.state_degree.ensures (omega (arith, c.if-state_degree-gt1.false)) c.loop-k.invariant
