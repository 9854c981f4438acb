use Rattle.std.proofs.Common.{◌*◌, ◌/◌, ℕ, ap, ap₂, max, ◌∙◌}
use Rattle.vp_flow.proofs.BoundLaws.{greatest-next}
use Rattle.vp_flow.proofs.bounds.greatest_norm.Goals as goal

pub loop-k-preserved : goal.loop-k-preserved
loop-k-preserved c =
    greatest-next (λ q. q.weight.norm * (c.args.common / q.weight.den)) c.args.sides.now c.loop-k.k c.loop-k.greatest c.greater-greatest.result c.index-sides-k.result c.loop-k-test.true c.index-sides-k.is c.loop-k.invariant
    (c.greater-greatest.ensures ∙ ap (λ (n : ℕ). max c.loop-k.greatest n) (ap₂ (λ (n d : ℕ). n * (c.args.common / d)) c.norm_of.ensures c.den_of.ensures.value))
