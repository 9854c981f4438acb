use Rattle.std.proofs.Common.{map, Ok, Err, subst}
use Rattle.std.proofs.lemmas.Result.{err_from_is_err_and}
use Rattle.vp_read.specs.Pieces.{items}
use Rattle.vp_read.specs.Reading.{Checks}
use Rattle.vp_read.proofs.Drafting.{check_refuses, check_accepts}
use Rattle.vp_read.proofs.reading.read_package.Goals as goal

pub returns-in_err-check-clause-exact : goal.returns-in_err-check-clause-exact
returns-in_err-check-clause-exact c =
    let p = err_from_is_err_and c.from_residual-in_err-check.result c.from_residual-in_err-check.ensures.1 in
    rw (p.1, p.2) (check_refuses c.args.text.now c.in_ok-pkg.pkg (map items c.in_ok-pkg.known.items) c.in_err-check.field-0.0 c.in_ok-pkg.ensures.drafts (subst (λ qs. Checks c.args.text.now c.in_ok-pkg.pkg (map items qs) (Err c.in_err-check.field-0.0)) c.deref.ensures.value c.in_err-check.ensures))

pub returns-clause-exact : goal.returns-clause-exact
returns-clause-exact c =
    check_accepts c.args.text.now c.in_ok-pkg.pkg (map items c.in_ok-pkg.known.items) c.in_ok-pkg.ensures.drafts (subst (λ qs. Checks c.args.text.now c.in_ok-pkg.pkg (map items qs) (Ok tt)) c.deref.ensures.value c.in_ok-check.ensures)

pub returns-clause-well_formed : goal.returns-clause-well_formed
returns-clause-well_formed c = c.packages_are_well_formed.ensures.packages c.args.text.now c.in_ok-pkg.pkg (check_accepts c.args.text.now c.in_ok-pkg.pkg (map items c.in_ok-pkg.known.items) c.in_ok-pkg.ensures.drafts (subst (λ qs. Checks c.args.text.now c.in_ok-pkg.pkg (map items qs) (Ok tt)) c.deref.ensures.value c.in_ok-check.ensures))

pub returns-clause-certificates : goal.returns-clause-certificates
returns-clause-certificates c = c.packages_are_well_formed.ensures.certificates c.args.text.now c.in_ok-pkg.pkg (check_accepts c.args.text.now c.in_ok-pkg.pkg (map items c.in_ok-pkg.known.items) c.in_ok-pkg.ensures.drafts (subst (λ qs. Checks c.args.text.now c.in_ok-pkg.pkg (map items qs) (Ok tt)) c.deref.ensures.value c.in_ok-check.ensures))
