use Rattle.std.proofs.Common.{◌≡◌, false, Err, List, ap, sym, subst, ◌∙◌, refl, arith}
use Rattle.vp_terms.specs.Meaning.{value}
use Rattle.vp_terms.specs.Places.{place_count}
use Rattle.vp_terms.specs.WellFormed.{in_domain, is_allowed}
use Rattle.vp_poly.specs.declared.scaled.Scaled.{Scaled}
use Rattle.vp_poly.specs.Canonical.{IsEnvironment, StandsAt, StandsFor, StandsWithin, own_weights, variables, weights_of}
use Rattle.vp_poly.specs.Coefficient.{coefficients}
use Rattle.vp_poly.specs.Places.{places_for}
use Rattle.vp_logic.specs.Narrow.{is_narrow}
use Rattle.vp_logic.specs.Normal.{IsNormal}
use Rattle.vp_logic.specs.Sized.{EachHasOnly, EachIsSized}
use Rattle.vp_logic.specs.Tree.{tree}
use Rattle.vp_monitor.specs.declared.error.Place.TheVariants as at
use Rattle.vp_monitor.specs.Errors.{Tells}
use Rattle.vp_monitor.specs.Plant.{arrived, arriving}
use Rattle.vp_monitor.specs.Refusals.{fits_in}
use Rattle.vp_monitor.specs.Standing.{with_states}
use Rattle.vp_monitor.proofs.Arriving.{arriving_at, arriving_environment, arriving_for, arriving_weights, arriving_within}
use Rattle.vp_monitor.proofs.Forming.{Variables, formula_in_places, tells}
use Rattle.vp_monitor.proofs.plant.domain_conjuncts.Goals as goal

pub normal-requires-clause-places : goal.normal-requires-clause-places
normal-requires-clause-places c = c.variables_have_places.ensures.formulas in_domain (places_for c.args.counts) c.args.plant.now.domain c.requires.good.domain

pub normal-requires-clause-environment : goal.normal-requires-clause-environment
normal-requires-clause-environment c =
    subst (IsEnvironment (place_count (places_for c.args.counts))) (sym (c.deref.ensures.value ∙ c.in_ok-arriving.ensures)) (arriving_environment c.args.counts c.args.env.now c.next_states-next.result.now c.requires.env c.next_states-next.ensures)

pub with_states-requires : goal.with_states-requires
with_states-requires c = omega (arith, c.requires.env.environment.size)

pub returns-in-Err-clause-refused : goal.returns-in-Err-clause-refused
returns-in-Err-clause-refused c =
    let law : Variables = record {
      expressions = c.well_formed_parts_have_allowed_variables.ensures.expressions;
      formulas = c.well_formed_parts_have_allowed_variables.ensures.formulas;
      allowed = c.well_formed_parts_have_allowed_variables.ensures.allowed;
      weaker = c.variables_pass_tests.ensures.expressions;
      weaker_formula = c.variables_pass_tests.ensures.formulas;
    } in
    let p = places_for c.args.counts in
    let f = c.args.plant.now.domain in
    let next = c.next_states-next.result.now in
    let vars = formula_in_places law in_domain p f c.requires.good.domain in
    subst (Tells at.Domain (fits_in p (arrived c.args.plant.now) ≡ false)) (sym c.at.ensures)
    (tells at.Domain (fits_in p (arrived c.args.plant.now) ≡ false) c.in-Err.error (λ e. sym (ap (λ (e : List Scaled). is_narrow p (weights_of e) f) (c.deref.ensures.value ∙ c.in_ok-arriving.ensures) ∙ c.normal_forms_compose.ensures.narrow p (weights_of (with_states p c.args.env.now next)) (own_weights (place_count p)) (λ v. coefficients (variables p) (arriving v)) (variables p) arriving (arriving_weights c.args.counts c.args.env.now next c.requires.env c.next_states-next.ensures) (λ v h. refl) f vars) ∙ c.normal.ensures.wide (c.in-Err.is ∙ ap Err e)))

pub returns-clause-exact : goal.returns-clause-exact
returns-clause-exact c =
    let law : Variables = record {
      expressions = c.well_formed_parts_have_allowed_variables.ensures.expressions;
      formulas = c.well_formed_parts_have_allowed_variables.ensures.formulas;
      allowed = c.well_formed_parts_have_allowed_variables.ensures.allowed;
      weaker = c.variables_pass_tests.ensures.expressions;
      weaker_formula = c.variables_pass_tests.ensures.formulas;
    } in
    let p = places_for c.args.counts in
    let f = c.args.plant.now.domain in
    let next = c.next_states-next.result.now in
    let vars = formula_in_places law in_domain p f c.requires.good.domain in
    record {
      form = tree c.in-Ok.domain;
      are = c.in_ok-parts.ensures.form;
      is_form = (c.normal_forms_compose.ensures.forms p (weights_of (with_states p c.args.env.now next)) (own_weights (place_count p)) (λ v. coefficients (variables p) (arriving v)) (variables p) arriving (arriving_weights c.args.counts c.args.env.now next c.requires.env c.next_states-next.ensures) (λ v h. refl) f (tree c.in-Ok.domain) vars).0
          (subst (λ (e : List Scaled). IsNormal p (weights_of e) (λ v. coefficients (variables p) (arriving v)) f (tree c.in-Ok.domain)) (c.deref.ensures.value ∙ c.in_ok-arriving.ensures)
          (c.in-Ok.ensures.form (λ v. coefficients (variables p) (arriving v)) vars (subst (λ (e : List Scaled). StandsFor p e (λ v. coefficients (variables p) (arriving v))) (sym (c.deref.ensures.value ∙ c.in_ok-arriving.ensures)) (arriving_for c.args.counts c.args.env.now next c.requires.env c.next_states-next.ensures))));
    }

pub returns-clause-fits : goal.returns-clause-fits
returns-clause-fits c =
    λ o.
    let law : Variables = record {
      expressions = c.well_formed_parts_have_allowed_variables.ensures.expressions;
      formulas = c.well_formed_parts_have_allowed_variables.ensures.formulas;
      allowed = c.well_formed_parts_have_allowed_variables.ensures.allowed;
      weaker = c.variables_pass_tests.ensures.expressions;
      weaker_formula = c.variables_pass_tests.ensures.formulas;
    } in
    let p = places_for c.args.counts in
    let f = c.args.plant.now.domain in
    let next = c.next_states-next.result.now in
    let vars = formula_in_places law in_domain p f c.requires.good.domain in
    sym (ap (λ (e : List Scaled). is_narrow p (weights_of e) f) (c.deref.ensures.value ∙ c.in_ok-arriving.ensures) ∙ c.normal_forms_compose.ensures.narrow p (weights_of (with_states p c.args.env.now next)) (own_weights (place_count p)) (λ v. coefficients (variables p) (arriving v)) (variables p) arriving (arriving_weights c.args.counts c.args.env.now next c.requires.env c.next_states-next.ensures) (λ v h. refl) f vars) ∙ c.in-Ok.ensures.within refl

pub returns-clause-meaning : goal.returns-clause-meaning
returns-clause-meaning c =
    λ z a i.
    let law : Variables = record {
      expressions = c.well_formed_parts_have_allowed_variables.ensures.expressions;
      formulas = c.well_formed_parts_have_allowed_variables.ensures.formulas;
      allowed = c.well_formed_parts_have_allowed_variables.ensures.allowed;
      weaker = c.variables_pass_tests.ensures.expressions;
      weaker_formula = c.variables_pass_tests.ensures.formulas;
    } in
    let p = places_for c.args.counts in
    let f = c.args.plant.now.domain in
    let next = c.next_states-next.result.now in
    let vars = formula_in_places law in_domain p f c.requires.good.domain in
    c.in_ok-parts.ensures.holds z
    ∙ c.in-Ok.ensures.holds z (λ v. value (arriving v) a) vars (subst (λ (e : List Scaled). StandsAt p e z (λ v. value (arriving v) a)) (sym (c.deref.ensures.value ∙ c.in_ok-arriving.ensures)) (arriving_at c.args.counts c.args.env.now next c.requires.env c.next_states-next.ensures z a i))
    ∙ sym (c.replacing_composes.ensures.truth a arriving f)

pub returns-clause-sized : goal.returns-clause-sized
returns-clause-sized c =
    subst (EachIsSized (place_count (places_for c.args.counts))) (sym c.in_ok-parts.ensures.form) (c.conjuncts_stay_small.ensures.sized (place_count (places_for c.args.counts)) (tree c.in-Ok.domain) c.in-Ok.ensures.sized)

pub returns-clause-only : goal.returns-clause-only
returns-clause-only c =
    λ allowed h.
    let law : Variables = record {
      expressions = c.well_formed_parts_have_allowed_variables.ensures.expressions;
      formulas = c.well_formed_parts_have_allowed_variables.ensures.formulas;
      allowed = c.well_formed_parts_have_allowed_variables.ensures.allowed;
      weaker = c.variables_pass_tests.ensures.expressions;
      weaker_formula = c.variables_pass_tests.ensures.formulas;
    } in
    let p = places_for c.args.counts in
    let f = c.args.plant.now.domain in
    let next = c.next_states-next.result.now in
    let vars = formula_in_places law in_domain p f c.requires.good.domain in
    subst (EachHasOnly allowed) (sym c.in_ok-parts.ensures.form)
    (c.conjuncts_stay_small.ensures.only allowed (tree c.in-Ok.domain)
    (c.in-Ok.ensures.only (is_allowed in_domain p) allowed (law.formulas in_domain p f c.requires.good.domain) (subst (λ (e : List Scaled). StandsWithin p e (is_allowed in_domain p) allowed) (sym (c.deref.ensures.value ∙ c.in_ok-arriving.ensures)) (arriving_within c.args.counts c.args.env.now next c.requires.env c.next_states-next.ensures (law.allowed in_domain p) allowed h))))
