use Rattle.std.proofs.Common.{map}
use Rattle.vp_logic.specs.Tree.{tree}
use Rattle.vp_sandbox.specs.Fits.{EachFits, TreeFits}
use Rattle.vp_sandbox.specs.Scope.{allows}
use Rattle.vp_sandbox.proofs.Passing.{Left-more, Left-stop, forms-split, mapped, within, fails, refused}
use Rattle.vp_sandbox.proofs.fit.forms_fit.Goals as goal

pub returns-then-not-form_fits : goal.returns-then-not-form_fits
returns-then-not-form_fits c =
    let f = allows c.args.scope in
    let ns = c.args.norms.now in
    let i = c.loop-norm.norm-index in
    let n = c.norm-item.result in
    refused (Left-stop (EachFits f) (TreeFits f) (map tree ns) i (tree n) (forms-split f) c.loop-norm.invariant (within tree ns i c.loop-norm-test.true) (mapped tree ns i n c.norm-item.is) (fails c.form_fits.result c.form_fits.ensures c.if-not-form_fits.true))

pub loop-norm-preserved : goal.loop-norm-preserved
loop-norm-preserved c =
    let f = allows c.args.scope in
    let ns = c.args.norms.now in
    let i = c.loop-norm.norm-index in
    let n = c.norm-item.result in
    Left-more (EachFits f) (TreeFits f) (map tree ns) i (tree n) (forms-split f) c.loop-norm.invariant (within tree ns i c.loop-norm-test.true) (mapped tree ns i n c.norm-item.is) (c.form_fits.ensures.0 c.if-not-form_fits.false)
