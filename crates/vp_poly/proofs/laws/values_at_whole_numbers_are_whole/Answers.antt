use Rattle.vp_poly.proofs.WholeLaws.{value_whole}
use Rattle.vp_poly.proofs.laws.values_at_whole_numbers_are_whole.Goals as goal

pub returns : goal.returns
returns c = value_whole
