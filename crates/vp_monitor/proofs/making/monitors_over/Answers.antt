use Rattle.std.proofs.Common.{ℕ, IsTrue, List, length, ap, sym, subst, ◌∙◌, refl, All}
use Rattle.std.proofs.lemmas.Result.{err_from_is_err_and}
use Rattle.vp_words.specs.Record.{IsValid}
use Rattle.vp_terms.specs.Control.{AgreeFrom, changing}
use Rattle.vp_terms.specs.Places.{place_count}
use Rattle.vp_terms.specs.WellFormed.{in_model, is_good_formula}
use Rattle.vp_terms.specs.declared.expr.Places.{Places}
use Rattle.vp_poly.specs.declared.scaled.Scaled.{Scaled}
use Rattle.vp_poly.specs.Canonical.{IsEntry}
use Rattle.vp_poly.specs.Places.{HaveOnly, places_for}
use Rattle.vp_poly.specs.Points.{IsAt}
use Rattle.vp_logic.specs.Tree.{tree}
use Rattle.vp_ctrl.specs.Paths.{AllowsPaths, EachPathIsSized}
use Rattle.vp_flow.specs.Outcome.{AreFlows}
use Rattle.vp_flow.specs.Placed.{AllowsFlows}
use Rattle.vp_flow.specs.Sides.{model}
use Rattle.vp_flow.specs.Valued.{HaveValues}
use Rattle.vp_monitor.specs.declared.types.Monitors.{Monitors}
use Rattle.vp_monitor.specs.Errors.{of_paths}
use Rattle.vp_monitor.specs.Meaning.{AreSized, HaveOwnPlaces, Mean}
use Rattle.vp_monitor.specs.Monitors.{AreMonitors, ArePolynomialsOf}
use Rattle.vp_monitor.specs.Plant.{IsOwnNormal}
use Rattle.vp_monitor.specs.Refusals.{FallbackGoodBelow, Refuses}
use Rattle.vp_monitor.proofs.Four.{refused_so}
use Rattle.vp_monitor.proofs.Meant.{Pointed, Valued, fallback_is, is_exact, the_flow}
use Rattle.vp_monitor.proofs.Refused.{fallback_refused, flow_refused, formulas_pass, init_refused, inv_refused, paths_refused, plant_refused, safe_refused}
use Rattle.vp_monitor.proofs.making.monitors_over.Goals as goal

pub form-requires-clause-good : goal.form-requires-clause-good
form-requires-clause-good c = subst (λ (p : Places). IsTrue (is_good_formula in_model p c.args.pkg.now.init)) (sym c.requires.places) c.requires.good.init.variables

pub form-requires-2-clause-good : goal.form-requires-2-clause-good
form-requires-2-clause-good c = subst (λ (p : Places). IsTrue (is_good_formula in_model p c.args.pkg.now.inv)) (sym c.requires.places) c.requires.good.inv.variables

pub form-requires-3-clause-good : goal.form-requires-3-clause-good
form-requires-3-clause-good c = subst (λ (p : Places). IsTrue (is_good_formula in_model p c.args.pkg.now.safe)) (sym c.requires.places) c.requires.good.safe.variables

pub plant_conjuncts-requires-clause-flows : goal.plant_conjuncts-requires-clause-flows
plant_conjuncts-requires-clause-flows c = subst (AreFlows c.args.pkg.now) (sym c.deref.ensures.value) c.in_ok-flows.ensures.flows

pub plant_conjuncts-requires-clause-entries : goal.plant_conjuncts-requires-clause-entries
plant_conjuncts-requires-clause-entries c =
    subst (λ (xs : List Scaled). All (IsEntry (place_count (places_for c.args.counts))) xs) (sym c.deref.ensures.value) (subst (λ (p : Places). All (IsEntry (place_count p)) c.in_ok-flows.flows.items) (sym c.requires.places) c.in_ok-flows.ensures.entries)

pub plant_conjuncts-requires-clause-values : goal.plant_conjuncts-requires-clause-values
plant_conjuncts-requires-clause-values c = subst HaveValues (sym c.deref.ensures.value) c.in_ok-flows.ensures.values

pub plant_conjuncts-requires-clause-only : goal.plant_conjuncts-requires-clause-only
plant_conjuncts-requires-clause-only c =
    λ allowed h.
    subst (λ (xs : List Scaled). All (λ (s : Scaled). HaveOnly allowed s.poly) xs) (sym c.deref.ensures.value) (c.in_ok-flows.ensures.only allowed (subst (λ (p : Places). AllowsFlows p allowed) c.requires.places h))

pub returns-in_err-init-clause-refused : goal.returns-in_err-init-clause-refused
returns-in_err-init-clause-refused c =
    let q = err_from_is_err_and c.from_residual.result c.from_residual.ensures.1 in
    refused_so (Refuses c.args.pkg.now) c.from_residual.result q.0 c.in_err-init.field-0.0 q.1 q.2
    (init_refused c.args.pkg.now (places_for c.args.counts) c.requires.places c.in_err-init.field-0.0 c.in_err-init.ensures.refused)

pub returns-in_err-inv-clause-refused : goal.returns-in_err-inv-clause-refused
returns-in_err-inv-clause-refused c =
    let q = err_from_is_err_and c.from_residual-in_err-inv.result c.from_residual-in_err-inv.ensures.1 in
    refused_so (Refuses c.args.pkg.now) c.from_residual-in_err-inv.result q.0 c.in_err-inv.field-0.0 q.1 q.2
    (inv_refused c.args.pkg.now (places_for c.args.counts) c.requires.places (c.in_ok-init.ensures.fits refl) c.in_err-inv.field-0.0 c.in_err-inv.ensures.refused)

pub returns-in_err-safe-clause-refused : goal.returns-in_err-safe-clause-refused
returns-in_err-safe-clause-refused c =
    let q = err_from_is_err_and c.from_residual-in_err-safe.result c.from_residual-in_err-safe.ensures.1 in
    refused_so (Refuses c.args.pkg.now) c.from_residual-in_err-safe.result q.0 c.in_err-safe.field-0.0 q.1 q.2
    (safe_refused c.args.pkg.now (places_for c.args.counts) c.requires.places (c.in_ok-init.ensures.fits refl) (c.in_ok-inv.ensures.fits refl) c.in_err-safe.field-0.0 c.in_err-safe.ensures.refused)

pub returns-in_err-paths-clause-refused : goal.returns-in_err-paths-clause-refused
returns-in_err-paths-clause-refused c =
    let q = err_from_is_err_and c.from_residual-in_err-paths.result c.from_residual-in_err-paths.ensures.1 in
    refused_so (Refuses c.args.pkg.now) c.from_residual-in_err-paths.result q.0 (of_paths c.in_err-paths.field-0.0) q.1 q.2
    (paths_refused c.args.pkg.now (formulas_pass c.args.pkg.now (places_for c.args.counts) c.requires.places (c.in_ok-init.ensures.fits refl) (c.in_ok-inv.ensures.fits refl) (c.in_ok-safe.ensures.fits refl)) c.in_err-paths.field-0.0 c.in_err-paths.ensures.refuses)

pub returns-in_err-flows-clause-refused : goal.returns-in_err-flows-clause-refused
returns-in_err-flows-clause-refused c =
    let q = err_from_is_err_and c.from_residual-in_err-flows.result c.from_residual-in_err-flows.ensures.1 in
    refused_so (Refuses c.args.pkg.now) c.from_residual-in_err-flows.result q.0 c.in_err-flows.field-0.0 q.1 q.2
    (flow_refused c.args.pkg.now (record { formulas = (formulas_pass c.args.pkg.now (places_for c.args.counts) c.requires.places (c.in_ok-init.ensures.fits refl) (c.in_ok-inv.ensures.fits refl) (c.in_ok-safe.ensures.fits refl)); ctrl = record { few = c.in_ok-paths.ensures.few refl; unhidden = c.in_ok-paths.ensures.open refl; narrow = c.in_ok-paths.ensures.narrow refl } }) c.in_err-flows.field-0.0 c.in_err-flows.ensures.refused)

pub returns-in_err-plant-clause-refused : goal.returns-in_err-plant-clause-refused
returns-in_err-plant-clause-refused c =
    let q = err_from_is_err_and c.from_residual-in_err-plant.result c.from_residual-in_err-plant.ensures.1 in
    refused_so (Refuses c.args.pkg.now) c.from_residual-in_err-plant.result q.0 c.in_err-plant.field-0.0 q.1 q.2
    (plant_refused c.args.pkg.now (record { formulas = (formulas_pass c.args.pkg.now (places_for c.args.counts) c.requires.places (c.in_ok-init.ensures.fits refl) (c.in_ok-inv.ensures.fits refl) (c.in_ok-safe.ensures.fits refl)); ctrl = record { few = c.in_ok-paths.ensures.few refl; unhidden = c.in_ok-paths.ensures.open refl; narrow = c.in_ok-paths.ensures.narrow refl } }) c.in_err-plant.field-0.0 c.in_err-plant.ensures.refused)

pub returns-in_err-fallback-clause-refused : goal.returns-in_err-fallback-clause-refused
returns-in_err-fallback-clause-refused c =
    let q = err_from_is_err_and c.from_residual-in_err-fallback.result c.from_residual-in_err-fallback.ensures.1 in
    refused_so (Refuses c.args.pkg.now) c.from_residual-in_err-fallback.result q.0 c.in_err-fallback.field-0.0 q.1 q.2
    (fallback_refused c.args.pkg.now (record { formulas = (formulas_pass c.args.pkg.now (places_for c.args.counts) c.requires.places (c.in_ok-init.ensures.fits refl) (c.in_ok-inv.ensures.fits refl) (c.in_ok-safe.ensures.fits refl)); ctrl = record { few = c.in_ok-paths.ensures.few refl; unhidden = c.in_ok-paths.ensures.open refl; narrow = c.in_ok-paths.ensures.narrow refl } }) (c.in_ok-plant.ensures.passes refl) c.in_err-fallback.field-0.0 c.in_err-fallback.ensures.refused)

pub returns-clause-exact : goal.returns-clause-exact
returns-clause-exact c = subst (AreMonitors c.args.pkg.now) (sym c.assembled.ensures) (record {
  places = c.requires.places;
  init = subst (λ (p : Places). IsOwnNormal p c.args.pkg.now.init (tree c.in_ok-init.init)) c.requires.places c.in_ok-init.ensures.form;
  inv = subst (λ (p : Places). IsOwnNormal p c.args.pkg.now.inv (tree c.in_ok-inv.inv)) c.requires.places c.in_ok-inv.ensures.form;
  safe = subst (λ (p : Places). IsOwnNormal p c.args.pkg.now.safe (tree c.in_ok-safe.safe)) c.requires.places c.in_ok-safe.ensures.form;
  paths = c.in_ok-paths.ensures.exact;
  plant = c.in_ok-plant.ensures.exact;
  fallback = subst (λ (p : Places). ArePolynomialsOf p c.args.pkg.now.fallback c.in_ok-fallback.fallback.items) c.requires.places c.in_ok-fallback.ensures.exact;
})

pub returns-clause-passes : goal.returns-clause-passes
returns-clause-passes c =
    λ o.
    record {
      before = (record { formulas = (formulas_pass c.args.pkg.now (places_for c.args.counts) c.requires.places (c.in_ok-init.ensures.fits refl) (c.in_ok-inv.ensures.fits refl) (c.in_ok-safe.ensures.fits refl)); ctrl = record { few = c.in_ok-paths.ensures.few refl; unhidden = c.in_ok-paths.ensures.open refl; narrow = c.in_ok-paths.ensures.narrow refl } });
      plant = c.in_ok-plant.ensures.passes refl;
      fallback = subst (λ (p : Places). FallbackGoodBelow p c.args.pkg.now.fallback (length c.args.pkg.now.fallback)) c.requires.places (c.in_ok-fallback.ensures.good refl);
    }

pub returns-clause-meaning : goal.returns-clause-meaning
returns-clause-meaning c =
    λ flow exact.
    let law : Valued = record { values = c.meaning_depends_on_variables.ensures.values; good = c.well_formed_parts_have_allowed_variables.ensures.expressions } in
    subst (Mean flow c.args.pkg.now) (sym c.assembled.ensures) (record {
      init = λ z p x u v y t i. let e = c.in_ok-init.ensures.holds z p x u v y t i in (λ g. sym e ∙ g, λ g. e ∙ g);
      inv = λ z p x u v y t i. let e = c.in_ok-inv.ensures.holds z p x u v y t i in (λ g. sym e ∙ g, λ g. e ∙ g);
      safe = λ z p x u v y t i. let e = c.in_ok-safe.ensures.holds z p x u v y t i in (λ g. sym e ∙ g, λ g. e ∙ g);
      ctrl = λ z p x u v y t i a. c.in_ok-paths.ensures.meaning z p x u v y t (subst (λ (q : Places). IsAt q z (changing p x u v t y)) c.requires.places i) (subst (λ (n : ℕ). AgreeFrom n u v) (ap (λ (p : Places). p.controls) c.requires.places) a);
      plant = c.in_ok-plant.ensures.meaning flow exact;
      fallback = λ z p x u v y w t i a.
          fallback_is law (model c.args.pkg.now) c.args.pkg.now.fallback c.in_ok-fallback.fallback.items c.args.counts.controls z p x u v y w t c.requires.good.fallback (c.requires.good.fallback_count ∙ sym (ap (λ (p : Places). p.controls) c.requires.places)) a (c.in_ok-fallback.ensures.meaning z (changing p x u v t y) i);
    })

pub returns-clause-flow : goal.returns-clause-flow
returns-clause-flow c =
    λ o.
    let law : Pointed = record {
      some = c.points_have_assignments.ensures.some;
      below = c.values_respect_equality.ensures.below;
      equal = c.multiples_combine.ensures.equal;
      used = c.places_tell_variables.ensures.used;
    } in
    (the_flow law c.args.pkg.now c.in_ok-flows.flows.items c.in_ok-flows.ensures.flows c.in_ok-flows.ensures.values c.in_ok-flows.ensures.entries, is_exact law c.args.pkg.now c.in_ok-flows.flows.items c.in_ok-flows.ensures.flows c.in_ok-flows.ensures.values c.in_ok-flows.ensures.entries)

pub returns-clause-valid : goal.returns-clause-valid
returns-clause-valid c = subst (λ (m : Monitors). IsValid m.counts) (sym c.assembled.ensures) c.requires.valid

pub returns-clause-sized : goal.returns-clause-sized
returns-clause-sized c = subst AreSized (sym c.assembled.ensures) (record {
  init = c.in_ok-init.ensures.sized;
  inv = c.in_ok-inv.ensures.sized;
  safe = c.in_ok-safe.ensures.sized;
  paths = subst (λ (p : Places). EachPathIsSized (place_count p) c.in_ok-paths.paths.items) (sym c.requires.places) c.in_ok-paths.ensures.sized;
  plant = c.in_ok-plant.ensures.sized;
  fallback = c.in_ok-fallback.ensures.small;
})

pub returns-clause-places : goal.returns-clause-places
returns-clause-places c = subst HaveOwnPlaces (sym c.assembled.ensures) (record {
  init = c.in_ok-init.ensures.only;
  paths = λ allowed h. c.in_ok-paths.ensures.only allowed (subst (λ (p : Places). AllowsPaths p allowed) c.requires.places h);
  plant = c.in_ok-plant.ensures.only;
  fallback = c.in_ok-fallback.ensures.only;
})
