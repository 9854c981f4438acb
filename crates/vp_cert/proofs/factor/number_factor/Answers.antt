use Rattle.std.proofs.Common.{◌≡◌}
use Rattle.vp_cert.proofs.FactorLaws.{number_made}
use Rattle.vp_cert.proofs.factor.number_factor.Goals as goal

pub returns : goal.returns
returns c =
    let made = c.in_ok-poly.ensures in
    let w : c.new-weight.result ≡ record { norm = c.args.times; den = 1; degree = 0; terms = 1 } = cc in
    number_made c.args.times (record { poly = c.in_ok-poly.poly; weight = c.new-weight.result }) c.constant_term-term.result c.constant_term-term.ensures made.coefficients made.sizes w
