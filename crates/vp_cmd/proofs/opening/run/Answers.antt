use Rattle.std.proofs.lemmas.Result.{err_from_is_err_and}
use Rattle.vp_synth.specs.Stages.{Certified}
use Rattle.vp_cmd.specs.Steps.{Halts, IsOversized, OfStored, PackageRefused}
use Rattle.vp_cmd.proofs.Files.{lent_halts, passed_on, reads_back, run_task}
use Rattle.vp_cmd.proofs.opening.run.Goals as goal

pub returns-in_err-image-clause-halted : goal.returns-in_err-image-clause-halted
returns-in_err-image-clause-halted g c =
    let files = g.St.Store.files c.args.store.now in
    let q = err_from_is_err_and c.from_residual-in_err-image.result c.from_residual-in_err-image.ensures.1 in
    passed_on (Halts (OfStored files (PackageRefused Certified IsOversized c.args.name.now))) c.from_residual-in_err-image.result q.0 c.in_err-image.field-0.0 q.1 q.2
    (lent_halts Certified IsOversized files c.args.name.now c.in_ok-text.text.items c.deref.result.now c.in_err-image.field-0.0 c.deref.ensures.value c.in_ok-text.ensures.opened c.in_err-image.ensures.halted)

pub start_written-requires : goal.start_written-requires
start_written-requires g c = reads_back c.deref.result.now c.in_ok-image.image.items c.deref-2.result.now c.deref-2.ensures.value c.in_ok-image.ensures.made

pub returns-clause-task : goal.returns-clause-task
returns-clause-task g c =
    run_task (g.St.Store.files c.args.store.now) c.args.name.now c.in_ok-text.text.items c.deref.result.now c.in_ok-image.image.items c.deref-2.result.now c.in_ok-start_written.field-0 c.deref.ensures.value c.deref-2.ensures.value
    c.in_ok-text.ensures.opened c.in_ok-image.ensures.made c.in_ok-start_written.ensures
