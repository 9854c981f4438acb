use Rattle.vp_cert.proofs.Products.{HasProduct-none, HasProduct-next, product_fits}
use Rattle.vp_cert.proofs.factor.multiply.Goals as goal

pub loop-factor-init : goal.loop-factor-init
loop-factor-init c = let made = c.in_ok-product.ensures in HasProduct-none _ made.canonical made.sizes made.coefficients

pub mul-requires-clause-small : goal.mul-requires-clause-small
mul-requires-clause-small c = (product_fits c.args.factors.now c.loop-factor.factor-index c.factor-item.result c.loop-factor.product c.loop-factor-test.true c.factor-item.is c.requires.within c.loop-factor.invariant c.requires.norm c.requires.terms c.requires.degree).norm

pub mul-requires-clause-few : goal.mul-requires-clause-few
mul-requires-clause-few c = (product_fits c.args.factors.now c.loop-factor.factor-index c.factor-item.result c.loop-factor.product c.loop-factor-test.true c.factor-item.is c.requires.within c.loop-factor.invariant c.requires.norm c.requires.terms c.requires.degree).few

pub mul-requires-clause-low : goal.mul-requires-clause-low
mul-requires-clause-low c = (product_fits c.args.factors.now c.loop-factor.factor-index c.factor-item.result c.loop-factor.product c.loop-factor-test.true c.factor-item.is c.requires.within c.loop-factor.invariant c.requires.norm c.requires.terms c.requires.degree).low

pub loop-factor-preserved : goal.loop-factor-preserved
loop-factor-preserved c =
    let made = c.in_ok-product-2.ensures in
    HasProduct-next c.coefficients_combine.ensures.products c.args.factors.now c.loop-factor.factor-index c.factor-item.result c.loop-factor.product _ c.loop-factor-test.true c.factor-item.is c.requires.within c.loop-factor.invariant made.coefficients made.canonical made.sizes
