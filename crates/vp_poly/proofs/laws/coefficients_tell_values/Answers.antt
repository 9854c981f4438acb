use Rattle.vp_poly.proofs.Following.{value-sum, value-multiple}
use Rattle.vp_poly.proofs.Renaming.{value_at-renamed}
use Rattle.vp_poly.proofs.laws.coefficients_tell_values.Goals as goal

pub returns : goal.returns
returns c = record { sums = value-sum; multiples = value-multiple; renamed = value_at-renamed }
