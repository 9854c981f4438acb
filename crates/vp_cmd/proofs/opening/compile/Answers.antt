use Rattle.std.proofs.lemmas.Result.{err_from_is_err_and}
use Rattle.vp_synth.specs.Stages.{Certified}
use Rattle.vp_cmd.specs.Steps.{Halts, IsOversized, OfStored, PackageRefused}
use Rattle.vp_cmd.proofs.Files.{compile_shown, compile_task, lent_halts, passed_on}
use Rattle.vp_cmd.proofs.opening.compile.Goals as goal

pub returns-in_err-image_of-clause-halted : goal.returns-in_err-image_of-clause-halted
returns-in_err-image_of-clause-halted g c =
    let files = g.St.Store.files c.args.store.now in
    let q = err_from_is_err_and c.from_residual-in_err-image_of.result c.from_residual-in_err-image_of.ensures.1 in
    passed_on (Halts (OfStored files (PackageRefused Certified IsOversized c.args.name.now))) c.from_residual-in_err-image_of.result q.0 c.in_err-image_of.field-0.0 q.1 q.2
    (lent_halts Certified IsOversized files c.args.name.now c.in_ok-text.text.items c.deref.result.now c.in_err-image_of.field-0.0 c.deref.ensures.value c.in_ok-text.ensures.opened c.in_err-image_of.ensures.halted)

pub returns-clause-task : goal.returns-clause-task
returns-clause-task g c =
    compile_task (g.St.Store.files c.args.store.now) c.args.name.now c.in_ok-text.text.items c.deref.result.now c.in_ok-image_of.field-0.items c.deref.ensures.value c.in_ok-text.ensures.opened c.in_ok-image_of.ensures.made

pub returns-clause-shown : goal.returns-clause-shown
returns-clause-shown g c =
    compile_shown (g.St.Store.files c.args.store.now) c.args.name.now c.in_ok-text.text.items c.deref.result.now c.in_ok-image_of.field-0.items c.deref.ensures.value c.in_ok-text.ensures.opened c.in_ok-image_of.ensures.made
