use Rattle.std.proofs.Common.{◌≡◌, ◌-◌}
use Rattle.vp_words.specs.Number.{upper_product}
use Rattle.vp_interval.specs.Rounding.{multiplied}
use Rattle.vp_interval.proofs.arithmetic.multiplied_up.Given as goal

abbrev pub invariant-loop : goal.invariant-loop
invariant-loop l = l.product ≡ multiplied upper_product l.word (l.counter - 1)
