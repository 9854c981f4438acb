use Rattle.std.proofs.Common.{map}
use Rattle.vp_interval.specs.Interval.{ends}
use Rattle.vp_interval.proofs.Terms.{valid_ends}
use Rattle.vp_interval.proofs.Witnesses.{some_values}
use Rattle.vp_interval.proofs.laws.some_values_are_represented.Goals as goal

pub returns : goal.returns
returns c = record { valid = valid_ends c.args.boxes.now; values = some_values (map ends c.args.boxes.now) (valid_ends c.args.boxes.now) }
