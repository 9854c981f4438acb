use Rattle.std.proofs.Common.{◌≡◌, length}
use Rattle.vp_poly.specs.Poly.{degree, norm}
use Rattle.vp_cert.proofs.FactorLaws.{polynomial_is}
use Rattle.vp_cert.proofs.factor.polynomial_factor.Goals as goal

pub returns : goal.returns
returns c =
    let w : c.new-weight.result ≡ record { norm = norm c.args.poly.now; den = 1; degree = degree c.args.poly.now; terms = length c.args.poly.now } = cc in
    polynomial_is c.args.poly.now (record { poly = c.in_ok-poly.poly; weight = c.new-weight.result }) c.in_ok-poly.ensures.same w
