use Rattle.std.proofs.Common.{◌-◌, arith}
use Rattle.vp_terms.specs.Rational.{power as rational_power}
use Rattle.vp_interval.specs.Interval.{ends}
use Rattle.vp_interval.proofs.Powers.{represented_first, represented_more}
use Rattle.vp_interval.proofs.arithmetic.pow.Goals as goal

pub returns-then-k-eq1-clause-meaning : goal.returns-then-k-eq1-clause-meaning
returns-then-k-eq1-clause-meaning c = λ q h. represented_first (ends c.args.v) q c.args.k c.if-k-eq1.true h

pub returns-else-k-eq0-clause-meaning : goal.returns-else-k-eq0-clause-meaning
returns-else-k-eq0-clause-meaning c = λ q h.
    represented_more (ends c.mul.result) q (c.args.k - 1) c.args.k (omega arith)
    (c.mul.ensures.meaning q (rational_power q (c.args.k - 1)) h (c.even_power-below.ensures.meaning q h))
