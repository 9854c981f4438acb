use Rattle.vp_interval.specs.Interval.{ends}
use Rattle.vp_interval.proofs.Validity.{valid_sum}
use Rattle.vp_interval.proofs.Represented.{represented_sum}
use Rattle.vp_interval.proofs.arithmetic.add.Goals as goal

pub invariant_of-result : goal.invariant_of-result
invariant_of-result c = rw (c.add_down.ensures, c.add_up.ensures) (record { valid = valid_sum (ends c.args.v) (ends c.args.w) c.args.v.valid c.args.w.valid })

pub returns-clause-meaning : goal.returns-clause-meaning
returns-clause-meaning c = λ q r h k. rw (c.add_down.ensures, c.add_up.ensures) (represented_sum (ends c.args.v) (ends c.args.w) q r c.args.v.valid c.args.w.valid h k)
