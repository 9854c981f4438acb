use Rattle.std.proofs.Common.{sym, ap, ◌∙◌, ℤ, ◌+◌, ◌-◌, arith}
use Rattle.vp_words.specs.Number.{lower_product}
use Rattle.vp_interval.proofs.Chains.{multiplied-more}
use Rattle.vp_interval.proofs.arithmetic.multiplied_down.Goals as goal

pub loop-preserved : goal.loop-preserved
loop-preserved c =
    c.mul_down-product.ensures ∙ ap (λ (p : ℤ). lower_product p c.args.word) c.loop.invariant
    ∙ sym (multiplied-more lower_product c.args.word (c.loop.counter + 1 - 1) c.loop.counter (c.loop.counter - 1) (omega arith) (omega arith))
