use Rattle.vp_interval.proofs.Points.{valid_point, represented_point, finite_point, point_value}
use Rattle.vp_interval.proofs.laws.points_are_exact.Goals as goal

pub returns : goal.returns
returns c = record { valid = valid_point; represented = represented_point; finite = finite_point; value = point_value }
