use Rattle.vp_poly.proofs.Lawful.{IsPoly-unique, IsCanonical-unique}
use Rattle.vp_poly.proofs.laws.polynomials_are_unique.Goals as goal

pub returns : goal.returns
returns c = record { by_coefficients = IsPoly-unique; canonical = IsCanonical-unique }
