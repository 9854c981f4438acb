use Rattle.std.proofs.Common.{sym, ap, ◌∙◌, ℤ, ◌+◌, ◌-◌, arith}
use Rattle.vp_words.specs.Number.{upper_product}
use Rattle.vp_interval.proofs.Chains.{multiplied-more}
use Rattle.vp_interval.proofs.arithmetic.multiplied_up.Goals as goal

pub loop-preserved : goal.loop-preserved
loop-preserved c =
    c.mul_up-product.ensures ∙ ap (λ (p : ℤ). upper_product p c.args.word) c.loop.invariant
    ∙ sym (multiplied-more upper_product c.args.word (c.loop.counter + 1 - 1) c.loop.counter (c.loop.counter - 1) (omega arith) (omega arith))
