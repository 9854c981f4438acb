use Rattle.std.proofs.Common.{◌^◌, ◌-◌, map, sum_by, arith}
use Rattle.vp_logic.specs.Tree.{tree}
use Rattle.vp_sandbox.specs.Sizes.{form_degrees}
use Rattle.vp_sandbox.proofs.Saturating.{Adds-mapped}
use Rattle.vp_sandbox.proofs.sizing.degrees_of_forms.Goals as goal

pub loop-norm-preserved : goal.loop-norm-preserved
loop-norm-preserved c =
    let e = c.degrees_of_form.ensures in
    let g = c.saturating_add-all.ensures in
    Adds-mapped form_degrees tree c.args.norms.now (2 ^ 64 - 1) (sum_by form_degrees (map tree c.args.norms.now)) c.loop-norm.norm-index c.loop-norm.all c.degrees_of_form.result c.saturating_add-all.result c.norm-item.result c.loop-norm.invariant c.loop-norm-test.true c.norm-item.is e (omega arith)
