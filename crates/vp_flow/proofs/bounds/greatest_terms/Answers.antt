use Rattle.std.proofs.Common.{ℕ, ap, max, ◌∙◌}
use Rattle.vp_flow.proofs.BoundLaws.{greatest-next}
use Rattle.vp_flow.proofs.bounds.greatest_terms.Goals as goal

pub loop-k-preserved : goal.loop-k-preserved
loop-k-preserved c = greatest-next (λ q. q.weight.terms) c.args.sides.now c.loop-k.k c.loop-k.greatest c.larger-greatest.result c.index-sides-k.result c.loop-k-test.true c.index-sides-k.is c.loop-k.invariant (c.larger-greatest.ensures ∙ ap (λ (n : ℕ). max c.loop-k.greatest n) c.terms_of.ensures)
