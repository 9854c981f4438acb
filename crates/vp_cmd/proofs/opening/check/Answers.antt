use Rattle.std.proofs.Common.{refl, sym, subst}
use Rattle.std.proofs.lemmas.Result.{err_from_is_err_and}
use Rattle.vp_synth.specs.Stages.{Certified}
use Rattle.vp_cmd.specs.Dues.{package_limit}
use Rattle.vp_cmd.specs.Steps.{Halts, IsStored, IsUnrefused, OfStored, PackageRefused}
use Rattle.vp_cmd.proofs.Files.{check_due, holds_proved, lent_halts, passed_on}
use Rattle.vp_cmd.proofs.opening.check.Goals as goal

pub returns-in_err-check_text-clause-halted : goal.returns-in_err-check_text-clause-halted
returns-in_err-check_text-clause-halted g c =
    let files = g.St.Store.files c.args.store.now in
    let q = err_from_is_err_and c.from_residual-in_err-check_text.result c.from_residual-in_err-check_text.ensures.1 in
    passed_on (Halts (OfStored files (PackageRefused Certified IsUnrefused c.args.name.now))) c.from_residual-in_err-check_text.result q.0 c.in_err-check_text.field-0.0 q.1 q.2
    (lent_halts Certified IsUnrefused files c.args.name.now c.in_ok-text.text.items c.deref.result.now c.in_err-check_text.field-0.0 c.deref.ensures.value c.in_ok-text.ensures.opened c.in_err-check_text.ensures.halted)

pub returns-clause-task : goal.returns-clause-task
returns-clause-task g c =
    let files = g.St.Store.files c.args.store.now in (
      refl,
      check_due files c.args.name.now c.deref.result.now c.in_ok-line.field-0 (subst (IsStored files c.args.name.now package_limit) (sym c.deref.ensures.value) c.in_ok-text.ensures.opened)
          (c.in_ok-check_text.ensures.proved refl) c.in_ok-line.ensures,
    )

pub returns-clause-shown : goal.returns-clause-shown
returns-clause-shown g c =
    let files = g.St.Store.files c.args.store.now in
    holds_proved files c.args.name.now c.deref.result.now (subst (IsStored files c.args.name.now package_limit) (sym c.deref.ensures.value) c.in_ok-text.ensures.opened) (c.in_ok-check_text.ensures.proved refl)
