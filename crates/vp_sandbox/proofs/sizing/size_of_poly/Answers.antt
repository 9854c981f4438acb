use Rattle.std.proofs.Common.{◌^◌, ◌-◌, ◌+◌, arith}
use Rattle.vp_sandbox.specs.Sizes.{poly_size, term_size}
use Rattle.vp_sandbox.proofs.Saturating.{Adds-read}
use Rattle.vp_sandbox.proofs.sizing.size_of_poly.Goals as goal

pub loop-k-preserved : goal.loop-k-preserved
loop-k-preserved c =
    let e = c.size_of_term.ensures in
    let f = c.saturating_add.ensures in
    let g = c.saturating_add-size.ensures in
    Adds-read (λ t. term_size t + 2) c.args.poly.now (2 ^ 64 - 1) (poly_size c.args.poly.now) c.loop-k.k c.loop-k.size c.saturating_add.result c.saturating_add-size.result c.term.result c.loop-k.invariant c.term.ensures.exact (omega arith) (omega arith)
