use Rattle.vp_interval.proofs.Witnesses.{some_values}
use Rattle.vp_interval.proofs.laws.valid_boxes_represent_values.Goals as goal

pub returns : goal.returns
returns c = some_values
