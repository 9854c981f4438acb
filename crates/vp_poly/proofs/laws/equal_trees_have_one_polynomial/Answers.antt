use Rattle.vp_poly.proofs.Alike.{weight-alike, coefficients-alike, canonical-alike}
use Rattle.vp_poly.proofs.laws.equal_trees_have_one_polynomial.Goals as goal

pub returns : goal.returns
returns c = record { weights = weight-alike; coefficients = coefficients-alike; canonical = canonical-alike }
