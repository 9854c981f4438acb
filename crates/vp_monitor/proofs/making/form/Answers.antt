use Rattle.std.proofs.Common.{◌≡◌, false, Err, ap, sym, subst, ◌∙◌, refl}
use Rattle.vp_terms.specs.Control.{assigned, changing}
use Rattle.vp_terms.specs.WellFormed.{in_model, is_allowed}
use Rattle.vp_poly.specs.Canonical.{variables}
use Rattle.vp_poly.specs.Places.{places_for}
use Rattle.vp_logic.specs.Tree.{tree}
use Rattle.vp_monitor.specs.Errors.{Tells}
use Rattle.vp_monitor.specs.Refusals.{fits_in}
use Rattle.vp_monitor.proofs.Forming.{Variables, before_round, formula_in_places, narrow_is, own_form, tells}
use Rattle.vp_monitor.proofs.making.form.Goals as goal

pub normal-requires-clause-places : goal.normal-requires-clause-places
normal-requires-clause-places c = c.variables_have_places.ensures.formulas in_model (places_for c.args.counts) c.args.formula.now c.requires.good

pub returns-in-Ok-clause-form : goal.returns-in-Ok-clause-form
returns-in-Ok-clause-form c =
    let law : Variables = record {
      expressions = c.well_formed_parts_have_allowed_variables.ensures.expressions;
      formulas = c.well_formed_parts_have_allowed_variables.ensures.formulas;
      allowed = c.well_formed_parts_have_allowed_variables.ensures.allowed;
      weaker = c.variables_pass_tests.ensures.expressions;
      weaker_formula = c.variables_pass_tests.ensures.formulas;
    } in
    own_form c.args.counts c.args.env.now c.requires.env c.args.formula.now (tree c.in-Ok.form)
    (c.in-Ok.ensures.form (variables (places_for c.args.counts)) (formula_in_places law in_model (places_for c.args.counts) c.args.formula.now c.requires.good) c.requires.env.stand_for)

pub returns-in-Ok-clause-fits : goal.returns-in-Ok-clause-fits
returns-in-Ok-clause-fits c = λ o. sym (narrow_is c.args.counts c.args.env.now c.requires.env c.args.formula.now) ∙ c.in-Ok.ensures.within refl

pub returns-in-Ok-clause-holds : goal.returns-in-Ok-clause-holds
returns-in-Ok-clause-holds c =
    λ z p x u v y t at.
    let law : Variables = record {
      expressions = c.well_formed_parts_have_allowed_variables.ensures.expressions;
      formulas = c.well_formed_parts_have_allowed_variables.ensures.formulas;
      allowed = c.well_formed_parts_have_allowed_variables.ensures.allowed;
      weaker = c.variables_pass_tests.ensures.expressions;
      weaker_formula = c.variables_pass_tests.ensures.formulas;
    } in
    c.in-Ok.ensures.holds z (changing p x u v t y) (formula_in_places law in_model (places_for c.args.counts) c.args.formula.now c.requires.good) (c.requires.env.stand_at z (changing p x u v t y) at)
    ∙ c.meaning_depends_on_variables.ensures.truth (is_allowed in_model (places_for c.args.counts)) c.args.formula.now (changing p x u v t y) (assigned p x u)
    (law.formulas in_model (places_for c.args.counts) c.args.formula.now c.requires.good) (before_round (places_for c.args.counts) p x u v y t)

pub returns-in-Ok-clause-only : goal.returns-in-Ok-clause-only
returns-in-Ok-clause-only c =
    λ allowed h.
    c.in-Ok.ensures.only (is_allowed in_model (places_for c.args.counts)) allowed (c.well_formed_parts_have_allowed_variables.ensures.formulas in_model (places_for c.args.counts) c.args.formula.now c.requires.good)
    (c.requires.env.within (is_allowed in_model (places_for c.args.counts)) allowed h)

pub returns-in-Err-clause-refused : goal.returns-in-Err-clause-refused
returns-in-Err-clause-refused c =
    subst (Tells c.args.place (fits_in (places_for c.args.counts) c.args.formula.now ≡ false)) (sym c.at.ensures)
    (tells c.args.place (fits_in (places_for c.args.counts) c.args.formula.now ≡ false) c.in-Err.error (λ e. sym (narrow_is c.args.counts c.args.env.now c.requires.env c.args.formula.now) ∙ c.normal.ensures.wide (c.in-Err.is ∙ ap Err e)))
