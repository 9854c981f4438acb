use Rattle.std.proofs.Common.{arith, refl, get_or}
use Rattle.std.proofs.lemmas.List.{length-set}
use Rattle.vp_poly.proofs.Moving.{moved-step}
use Rattle.vp_poly.proofs.mono.Mono.moved.Goals as goal

pub loop-k-preserved : goal.loop-k-preserved
loop-k-preserved c =
    let j = get_or c.args.to.now c.loop-k.k 0 in
    let e = get_or c.args.self.now.powers c.loop-k.k 0 in
    (omega (arith, length-set c.loop-k.powers j e, c.loop-k.invariant.0), moved-step c.args.to.now c.args.self.now.powers c.loop-k.powers _ c.loop-k.k c.requires c.loop-k-test.true c.loop-k.invariant.0 refl c.loop-k.invariant.1)
