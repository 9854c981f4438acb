use Rattle.vp_interval.proofs.Represented.{represented_equal}
use Rattle.vp_interval.proofs.laws.equal_values_are_represented_alike.Goals as goal

pub returns : goal.returns
returns c = represented_equal
