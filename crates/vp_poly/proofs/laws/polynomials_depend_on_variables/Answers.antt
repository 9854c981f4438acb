use Rattle.vp_poly.proofs.Replacing.{coefficients-same, weight-same}
use Rattle.vp_poly.proofs.laws.polynomials_depend_on_variables.Goals as goal

pub returns : goal.returns
returns c = record { coefficients = coefficients-same; weights = weight-same }
