use Rattle.std.proofs.Common.{arith}
use Rattle.vp_poly.proofs.PowerLaws.{HasPower-none, HasPower-more, IsRaised-of}
use Rattle.vp_poly.proofs.scaled.power.Goals as goal

pub loop-i-init : goal.loop-i-init
loop-i-init c = HasPower-none _ _ _ c.in_ok-poly.ensures.terms c.in_ok-poly.ensures.canonical

pub loop-i-preserved : goal.loop-i-preserved
loop-i-preserved c =
    let made = c.in_ok-poly-2.ensures in
    HasPower-more c.args.base.now.poly c.loop-i.poly c.in_ok-poly-2.poly _ _ c.requires.base c.loop-i.invariant made.canonical made.coefficients made.values made.sizes made.places made.only

pub returns-clause-coefficients : goal.returns-clause-coefficients
returns-clause-coefficients c =
    (IsRaised-of c.args.base.now.poly c.loop-i.poly _ _ _ c.args.exponent c.power-weight.ensures (omega arith) c.requires.fits c.loop-i.invariant).coefficients

pub returns-clause-values : goal.returns-clause-values
returns-clause-values c =
    (IsRaised-of c.args.base.now.poly c.loop-i.poly _ _ _ c.args.exponent c.power-weight.ensures (omega arith) c.requires.fits c.loop-i.invariant).values

pub returns-clause-weighed : goal.returns-clause-weighed
returns-clause-weighed c =
    (IsRaised-of c.args.base.now.poly c.loop-i.poly _ _ _ c.args.exponent c.power-weight.ensures (omega arith) c.requires.fits c.loop-i.invariant).weighed
