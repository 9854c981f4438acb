use Rattle.std.proofs.Common.{refl}
use Rattle.std.proofs.lemmas.Result.{err_from_is_err_and}
use Rattle.vp_poly.specs.Places.{places_for}
use Rattle.vp_ctrl.specs.Paths.{is_on_path}
use Rattle.vp_ctrl.proofs.Known.{FormsCompose}
use Rattle.vp_ctrl.proofs.Standing.{path_below_of, path_in_model_of}
use Rattle.vp_ctrl.proofs.Coming as coming
use Rattle.vp_ctrl.proofs.walk.part.Goals as goal

pub normal-requires-clause-places : goal.normal-requires-clause-places
normal-requires-clause-places c = path_below_of (places_for c.args.counts) c.args.formula.now c.requires.variables

pub returns-in_err-form-clause-wide : goal.returns-in_err-form-clause-wide
returns-in_err-form-clause-wide c =
    λ s h e k.
    let law : FormsCompose = record { forms = λ p ws vs x y r i j f t v. (c.normal_forms_compose.ensures.forms p ws vs x y r i j f t v).0; narrow = c.normal_forms_compose.ensures.narrow } in
    let v = path_in_model_of (places_for c.args.counts) c.args.formula.now c.requires.variables in
    let p = err_from_is_err_and c.from_residual.result c.from_residual.ensures.1 in
    coming.wide_terms (places_for c.args.counts) c.args.env.now s h law c.args.formula.now v c.args.denied (c.in_err-form.ensures.wide (cc)) k

pub returns-in_ok-negated-clause-form : goal.returns-in_ok-negated-clause-form
returns-in_ok-negated-clause-form c =
    λ s h.
    let law : FormsCompose = record { forms = λ p ws vs x y r i j f t v. (c.normal_forms_compose.ensures.forms p ws vs x y r i j f t v).0; narrow = c.normal_forms_compose.ensures.narrow } in
    let v = path_in_model_of (places_for c.args.counts) c.args.formula.now c.requires.variables in
    rw c.if-denied.true (coming.part_denied (places_for c.args.counts) c.args.env.now s h law c.args.formula.now v c.in_ok-form.form c.in_ok-negated.negated (λ k. c.in_ok-form.ensures.form k v) c.in_ok-negated.ensures.form)

pub returns-in_ok-negated-clause-fits : goal.returns-in_ok-negated-clause-fits
returns-in_ok-negated-clause-fits c =
    λ s h.
    let law : FormsCompose = record { forms = λ p ws vs x y r i j f t v. (c.normal_forms_compose.ensures.forms p ws vs x y r i j f t v).0; narrow = c.normal_forms_compose.ensures.narrow } in
    let v = path_in_model_of (places_for c.args.counts) c.args.formula.now c.requires.variables in
    coming.narrow_fits (places_for c.args.counts) c.args.env.now s h law c.args.formula.now v c.args.denied (c.in_ok-form.ensures.within refl)

pub returns-in_ok-negated-clause-only : goal.returns-in_ok-negated-clause-only
returns-in_ok-negated-clause-only c =
    λ s h allowed a.
    let p = places_for c.args.counts in
    c.in_ok-negated.ensures.only allowed (c.in_ok-form.ensures.only (is_on_path p) allowed c.requires.variables (h.only allowed a))

pub returns-else-denied-clause-form : goal.returns-else-denied-clause-form
returns-else-denied-clause-form c =
    λ s h.
    let law : FormsCompose = record { forms = λ p ws vs x y r i j f t v. (c.normal_forms_compose.ensures.forms p ws vs x y r i j f t v).0; narrow = c.normal_forms_compose.ensures.narrow } in
    let v = path_in_model_of (places_for c.args.counts) c.args.formula.now c.requires.variables in
    rw c.if-denied.false (coming.part_held (places_for c.args.counts) c.args.env.now s h law c.args.formula.now v c.in_ok-form.form (λ k. c.in_ok-form.ensures.form k v))

pub returns-else-denied-clause-fits : goal.returns-else-denied-clause-fits
returns-else-denied-clause-fits c =
    λ s h.
    let law : FormsCompose = record { forms = λ p ws vs x y r i j f t v. (c.normal_forms_compose.ensures.forms p ws vs x y r i j f t v).0; narrow = c.normal_forms_compose.ensures.narrow } in
    let v = path_in_model_of (places_for c.args.counts) c.args.formula.now c.requires.variables in
    coming.narrow_fits (places_for c.args.counts) c.args.env.now s h law c.args.formula.now v c.args.denied (c.in_ok-form.ensures.within refl)

pub returns-else-denied-clause-only : goal.returns-else-denied-clause-only
returns-else-denied-clause-only c =
    λ s h allowed a.
    let p = places_for c.args.counts in
    c.in_ok-form.ensures.only (is_on_path p) allowed c.requires.variables (h.only allowed a)
