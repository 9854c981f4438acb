use Rattle.vp_poly.specs.Places.{places_for}
use Rattle.vp_flow.proofs.TestLaws.{straight-next}
use Rattle.vp_flow.proofs.uses.first_bent.Goals as goal

pub loop-i-preserved : goal.loop-i-preserved
loop-i-preserved c = straight-next (places_for c.args.counts) c.args.sides.now c.loop-i.i c.index-sides-i.result c.is_linear.result c.loop-i-test.true c.index-sides-i.is c.is_linear.ensures c.if-not-is_linear.false c.loop-i.invariant
