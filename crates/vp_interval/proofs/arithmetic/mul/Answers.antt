use Rattle.vp_interval.specs.Interval.{ends}
use Rattle.vp_interval.proofs.Validity.{valid_product}
use Rattle.vp_interval.proofs.Represented.{represented_product}
use Rattle.vp_interval.proofs.arithmetic.mul.Goals as goal

pub invariant_of-result : goal.invariant_of-result
invariant_of-result c = rw (c.least_product.ensures, c.greatest_product.ensures) (record { valid = valid_product (ends c.args.v) (ends c.args.w) c.args.v.valid c.args.w.valid })

pub returns-clause-meaning : goal.returns-clause-meaning
returns-clause-meaning c = λ q r h k. rw (c.least_product.ensures, c.greatest_product.ensures) (represented_product (ends c.args.v) (ends c.args.w) q r c.args.v.valid c.args.w.valid h k)
