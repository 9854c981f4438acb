use Rattle.std.proofs.Common.{refl, arith, ◌+◌, ◌*◌}
use Rattle.vp_flow.proofs.Integrals.{power_sum, power_within}
use Rattle.vp_flow.proofs.assembly.tau_to.Goals as goal

pub single-requires-clause-low : goal.single-requires-clause-low
single-requires-clause-low c =
    let low = c.requires.low in
    omega (arith, power_sum (c.from.result + 2 * c.from-2.result + 2 * c.from-3.result) c.args.k (omega (arith, c.from.ensures, c.from-2.ensures, c.from-3.ensures, c.requires.places)))

pub returns-clause-sizes : goal.returns-clause-sizes
returns-clause-sizes c = power_within (c.from.result + 2 * c.from-2.result + 2 * c.from-3.result) c.args.k _ c.in_ok-poly.poly (omega (arith, c.from.ensures, c.from-2.ensures, c.from-3.ensures, c.requires.places)) refl c.in_ok-poly.ensures.sizes
