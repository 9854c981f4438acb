use Rattle.std.proofs.Common.{arith}
use Rattle.vp_poly.specs.Places.{places_for}
use Rattle.vp_flow.specs.Whole.{part_at}
use Rattle.vp_flow.proofs.Steps.{replaced-none, replaced-all}
use Rattle.vp_flow.proofs.series.replaced.Goals as goal

pub loop-n-init : goal.loop-n-init
loop-n-init c = replaced-none (places_for c.args.counts) (λ j. part_at c.args.series.now j c.args.k) c.args.rate.now _ c.zero-out.ensures.terms

pub returns : goal.returns
returns c = replaced-all _ _ _ _ c.loop-n.n (omega (arith, c.len-n-end.ensures.count)) c.loop-n.invariant
