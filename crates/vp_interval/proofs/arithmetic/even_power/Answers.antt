use Rattle.vp_interval.specs.Interval.{ends}
use Rattle.vp_interval.proofs.Powers.{valid_even_power, represented_even}
use Rattle.vp_interval.proofs.arithmetic.even_power.Goals as goal

pub invariant_of-result : goal.invariant_of-result
invariant_of-result c =
    rw (c.multiplied_down.ensures, c.multiplied_up.ensures, c.max-least.ensures, c.max.ensures, c.max-greatest.ensures, c.neg.ensures, c.neg-2.ensures)
    (record { valid = valid_even_power (ends c.args.v.now) c.args.k c.args.v.now.valid })

pub returns-clause-meaning : goal.returns-clause-meaning
returns-clause-meaning c = λ q h.
    rw (c.multiplied_down.ensures, c.multiplied_up.ensures, c.max-least.ensures, c.max.ensures, c.max-greatest.ensures, c.neg.ensures, c.neg-2.ensures)
    (represented_even (ends c.args.v.now) q c.args.k c.requires.some c.requires.even c.args.v.now.valid h)
