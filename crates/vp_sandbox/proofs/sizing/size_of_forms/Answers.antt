use Rattle.std.proofs.Common.{◌^◌, ◌-◌, ◌+◌, map, sum_by, arith}
use Rattle.vp_logic.specs.Tree.{tree}
use Rattle.vp_sandbox.specs.Sizes.{form_size}
use Rattle.vp_sandbox.proofs.Saturating.{Adds-mapped}
use Rattle.vp_sandbox.proofs.sizing.size_of_forms.Goals as goal

pub loop-norm-preserved : goal.loop-norm-preserved
loop-norm-preserved c =
    let e = c.size_of_form.ensures in
    let f = c.saturating_add.ensures in
    let g = c.saturating_add-size.ensures in
    Adds-mapped (λ t. form_size t + 8) tree c.args.norms.now (2 ^ 64 - 1) (sum_by (λ t. form_size t + 8) (map tree c.args.norms.now)) c.loop-norm.norm-index c.loop-norm.size c.saturating_add.result c.saturating_add-size.result c.norm-item.result c.loop-norm.invariant c.loop-norm-test.true c.norm-item.is (omega arith) (omega arith)
