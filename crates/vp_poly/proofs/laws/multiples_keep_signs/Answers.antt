use Rattle.vp_poly.proofs.Lawful.{IsTimes-sign}
use Rattle.vp_poly.proofs.laws.multiples_keep_signs.Goals as goal

pub returns : goal.returns
returns c = IsTimes-sign
