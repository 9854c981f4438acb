use Rattle.vp_poly.proofs.Pointing.{some_point, own_values, one_value, same_places, same_values, at_before}
use Rattle.vp_poly.proofs.laws.points_have_assignments.Goals as goal

pub returns : goal.returns
returns c = record { some = some_point; own = own_values; one = one_value; places = same_places; values = same_values; renamed = at_before }
