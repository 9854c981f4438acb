use Rattle.vp_flow.proofs.Assembling.{HasSum-more, IsAssembled-next, easy, adding}
use Rattle.vp_flow.proofs.rates.Rates.assembled.Goals as goal

pub loop-k-init : goal.loop-k-init
loop-k-init c = (c.zero-flow.ensures.terms, c.zero-flow.ensures.canonical)

pub with_power-requires-clause-factor : goal.with_power-requires-clause-factor
with_power-requires-clause-factor c = (easy c.args.self.now c.args.parts.now c.loop-k.k c.loop-k.flow c.index-parts-k.result (adding c.args.self.now c.args.parts.now c.loop-k.k c.loop-k.flow c.index-parts-k.result c.requires.common c.loop-k.invariant.0 c.loop-k-test.true c.index-parts-k.is c.requires.sizes c.requires.fits)).factor

pub with_power-requires-clause-small : goal.with_power-requires-clause-small
with_power-requires-clause-small c = (easy c.args.self.now c.args.parts.now c.loop-k.k c.loop-k.flow c.index-parts-k.result (adding c.args.self.now c.args.parts.now c.loop-k.k c.loop-k.flow c.index-parts-k.result c.requires.common c.loop-k.invariant.0 c.loop-k-test.true c.index-parts-k.is c.requires.sizes c.requires.fits)).small

pub with_power-requires-clause-few : goal.with_power-requires-clause-few
with_power-requires-clause-few c = (easy c.args.self.now c.args.parts.now c.loop-k.k c.loop-k.flow c.index-parts-k.result (adding c.args.self.now c.args.parts.now c.loop-k.k c.loop-k.flow c.index-parts-k.result c.requires.common c.loop-k.invariant.0 c.loop-k-test.true c.index-parts-k.is c.requires.sizes c.requires.fits)).few

pub with_power-requires-clause-low : goal.with_power-requires-clause-low
with_power-requires-clause-low c = (easy c.args.self.now c.args.parts.now c.loop-k.k c.loop-k.flow c.index-parts-k.result (adding c.args.self.now c.args.parts.now c.loop-k.k c.loop-k.flow c.index-parts-k.result c.requires.common c.loop-k.invariant.0 c.loop-k-test.true c.index-parts-k.is c.requires.sizes c.requires.fits)).low

pub loop-k-preserved : goal.loop-k-preserved
loop-k-preserved c = (IsAssembled-next c.args.self.now c.args.parts.now c.loop-k.k c.in_ok-flow.flow (HasSum-more c.args.self.now c.args.parts.now c.loop-k.k c.loop-k.flow c.index-parts-k.result c.in_ok-flow.flow (adding c.args.self.now c.args.parts.now c.loop-k.k c.loop-k.flow c.index-parts-k.result c.requires.common c.loop-k.invariant.0 c.loop-k-test.true c.index-parts-k.is c.requires.sizes c.requires.fits) c.in_ok-flow.ensures.coefficients c.in_ok-flow.ensures.sizes), c.in_ok-flow.ensures.canonical)
