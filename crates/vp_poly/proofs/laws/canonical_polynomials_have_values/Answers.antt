use Rattle.vp_poly.proofs.Existing.{canonical_is_weighed, some_polynomial, value_of_canonical, value_of_difference}
use Rattle.vp_poly.proofs.laws.canonical_polynomials_have_values.Goals as goal

pub returns : goal.returns
returns c = record { some = some_polynomial; values = value_of_canonical; weighed = canonical_is_weighed; differences = value_of_difference }
