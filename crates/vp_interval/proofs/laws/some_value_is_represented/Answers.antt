use Rattle.vp_interval.specs.Interval.{ends}
use Rattle.vp_interval.proofs.Witnesses.{some_value}
use Rattle.vp_interval.proofs.laws.some_value_is_represented.Goals as goal

pub returns : goal.returns
returns c = some_value (ends c.args.v) c.args.v.valid
