use Rattle.std.proofs.Common.{◌^◌, ◌-◌, sum, arith}
use Rattle.vp_sandbox.specs.Sizes.{degrees}
use Rattle.vp_sandbox.proofs.Saturating.{Adds-read}
use Rattle.vp_sandbox.proofs.sizing.degrees_of_poly.Goals as goal

pub loop-k-preserved : goal.loop-k-preserved
loop-k-preserved c =
    let e = c.degree.ensures in
    let f = c.from.ensures in
    let g = c.saturating_add-all.ensures in
    Adds-read (λ t. sum t.mono.powers) c.args.poly.now (2 ^ 64 - 1) (degrees c.args.poly.now) c.loop-k.k c.loop-k.all c.from.result c.saturating_add-all.result c.term.result c.loop-k.invariant c.term.ensures.exact (omega arith) (omega arith)
