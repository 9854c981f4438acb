use Rattle.vp_poly.proofs.LcmLaws.{gcd-is, lcm-product, lcm-shares}
use Rattle.vp_poly.proofs.laws.common_multiples.Goals as goal

pub returns : goal.returns
returns c = record { divisor = gcd-is; multiple = lcm-product; shares = lcm-shares }
