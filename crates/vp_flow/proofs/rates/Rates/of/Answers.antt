use Rattle.std.proofs.Common.{arith}
use Rattle.vp_flow.proofs.SharingLaws.{shared-more, shared-all}
use Rattle.vp_flow.proofs.rates.Rates.of.Goals as goal

pub loop-side-preserved : goal.loop-side-preserved
loop-side-preserved c = shared-more c.args.bounds c.loop-side.side-index c.args.sides.now c.loop-side.polys.items c.push.new.self.items c.in_ok-shared.field-0 c.side-item.result c.in_ok-push.ensures.items c.loop-side.invariant.0 c.loop-side.invariant.1 c.loop-side-test.true c.side-item.is c.in_ok-shared.ensures

pub returns : goal.returns
returns c = shared-all c.args.counts c.args.bounds c.loop-side.side-index c.args.sides.now c.loop-side.polys.items c.of.result (omega (arith, c.loop-side-test.false)) (omega (arith, c.loop-side.auto.side-index-end)) c.of.ensures c.loop-side.invariant.0 c.loop-side.invariant.1
