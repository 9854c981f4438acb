use Rattle.vp_poly.proofs.TimesLaws.{coefficients-sum, coefficients-product, coefficients-multiple}
use Rattle.vp_poly.proofs.laws.coefficients_combine.Goals as goal

pub returns : goal.returns
returns c = record { sums = coefficients-sum; products = coefficients-product; multiples = coefficients-multiple }
