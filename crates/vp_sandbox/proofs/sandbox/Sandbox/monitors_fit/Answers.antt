use Rattle.vp_sandbox.proofs.Passing.{fails, refused}
use Rattle.vp_sandbox.proofs.sandbox.Sandbox.monitors_fit.Goals as goal

pub returns-then-not-conjuncts_fit : goal.returns-then-not-conjuncts_fit
returns-then-not-conjuncts_fit c =
    let e = rw c.get.ensures at c.conjuncts_fit.ensures in
    refused (λ m. fails c.conjuncts_fit.result e c.if-not-conjuncts_fit.true m.init)

pub returns : goal.returns
returns c =
    let e = rw c.get.ensures at c.conjuncts_fit.ensures in
    let f = rw c.get-2.ensures at c.conjuncts_fit-2.ensures in (
      λ t. record {
        counts = c.is_valid.ensures.valid.0 c.if-not-is_valid.false;
        init = e.0 c.if-not-conjuncts_fit.false;
        ctrl = c.form_fits.ensures.0 c.if-not-form_fits.false;
        plant = f.0 t;
      },
      λ m. f.1 m.plant,
    )
