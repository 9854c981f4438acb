use Rattle.vp_poly.proofs.Singles.{IsPoly-unless_zero, IsWithin-unless_zero, coef-unless_zero, value_at-unless_zero}
use Rattle.vp_poly.proofs.laws.terms_are_polynomials.Goals as goal

pub returns : goal.returns
returns c = record { poly = IsPoly-unless_zero; coefficients = coef-unless_zero; values = value_at-unless_zero; sizes = IsWithin-unless_zero }
