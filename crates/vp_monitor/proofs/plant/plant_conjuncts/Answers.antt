use Rattle.std.proofs.Common.{◌<◌, ℕ, Bool, IsTrue, Err, List, map, ap, sym, subst, ◌∙◌, refl, arith, All}
use Rattle.std.specs.Prelude.{◌↔◌}
use Rattle.std.proofs.lemmas.Result.{err_from_is_err_and}
use Rattle.vp_terms.specs.Control.{changing}
use Rattle.vp_terms.specs.Places.{place_count}
use Rattle.vp_terms.specs.Plant.{PlantStep, timed}
use Rattle.vp_terms.specs.WellFormed.{IsGoodPlant}
use Rattle.vp_terms.specs.declared.expr.Places.{Places}
use Rattle.vp_poly.specs.declared.scaled.Scaled.{Scaled}
use Rattle.vp_poly.specs.Canonical.{IsEnvironment, StandsAt, StandsWithin}
use Rattle.vp_poly.specs.Places.{HaveOnly, places_for}
use Rattle.vp_poly.specs.Points.{IsAt}
use Rattle.vp_logic.specs.Tree.{Tree, tree}
use Rattle.vp_logic.specs.Truth.{parts_hold}
use Rattle.vp_flow.specs.Placed.{AllowsFlows}
use Rattle.vp_monitor.specs.Meaning.{is_in_plant}
use Rattle.vp_monitor.specs.Plant.{arriving, flow_coefficients, flow_weights}
use Rattle.vp_monitor.specs.Refusals.{RefusesPlant}
use Rattle.vp_monitor.specs.Standing.{Flowing, flowed}
use Rattle.vp_monitor.proofs.Flowed.{Flows, Means, flow_there, step_is}
use Rattle.vp_monitor.proofs.Four.{refused_so}
use Rattle.vp_monitor.proofs.Planting.{all_only, all_sized, domain_refuses, flowing_within, joined_all, plant_conjuncts_are, plant_passes, slack_refuses, time_refuses}
use Rattle.vp_monitor.proofs.States.{environment, flowing, flowing_at}
use Rattle.vp_monitor.proofs.plant.plant_conjuncts.Goals as goal

pub time_conjuncts-requires-clause-good : goal.time_conjuncts-requires-clause-good
time_conjuncts-requires-clause-good c = subst (λ (q : Places). IsGoodPlant q c.args.pkg.now.plant) (sym c.requires.places) c.requires.good.plant

pub with_states-requires : goal.with_states-requires
with_states-requires c = omega (arith, c.requires.env.environment.size)

pub all_slack_conjuncts-requires-clause-good : goal.all_slack_conjuncts-requires-clause-good
all_slack_conjuncts-requires-clause-good c = subst (λ (q : Places). IsGoodPlant q c.args.pkg.now.plant) (sym c.requires.places) c.requires.good.plant

pub all_slack_conjuncts-requires-clause-flowing : goal.all_slack_conjuncts-requires-clause-flowing
all_slack_conjuncts-requires-clause-flowing c =
    subst (IsEnvironment (place_count (places_for c.args.counts))) (sym (c.deref.ensures.value ∙ c.in_ok-flowing.ensures))
    (environment (places_for c.args.counts) c.args.env.now c.args.flows.now c.requires.env.environment.size (c.requires.flows.count ∙ sym (ap (λ (q : Places). q.states) c.requires.places)) c.requires.env.environment.entries c.requires.entries)

pub domain_conjuncts-requires-clause-good : goal.domain_conjuncts-requires-clause-good
domain_conjuncts-requires-clause-good c = subst (λ (q : Places). IsGoodPlant q c.args.pkg.now.plant) (sym c.requires.places) c.requires.good.plant

pub returns-in-Err-clause-refused : goal.returns-in-Err-clause-refused
returns-in-Err-clause-refused c =
    subst (RefusesPlant c.args.pkg.now) (sym c.at.ensures) (time_refuses c.args.pkg.now c.args.counts c.args.flows.now c.requires.places c.requires.flows c.in-Err.error (λ e. c.time_conjuncts.ensures.wide (c.in-Err.is ∙ ap Err e)))

pub returns-in_err-slack-clause-refused : goal.returns-in_err-slack-clause-refused
returns-in_err-slack-clause-refused c =
    let p = places_for c.args.counts in
    let pkg = c.args.pkg.now in
    let are = c.requires.flows in
    let count = are.count ∙ sym (ap (λ (q : Places). q.states) c.requires.places) in
    let deref = c.deref.ensures.value ∙ c.in_ok-flowing.ensures in
    let f = flow_coefficients pkg are.heights in
    let w = flow_weights are.sides are.heights in
    let flowing_here : Flowing p c.deref.result.now f w = subst (λ (e : List Scaled). Flowing p e f w) (sym deref) (flowing pkg c.args.counts c.requires.places c.args.env.now c.args.flows.now c.requires.env are) in
    let q = err_from_is_err_and c.from_residual-in_err-slack.result c.from_residual-in_err-slack.ensures.1 in
    refused_so (RefusesPlant pkg) c.from_residual-in_err-slack.result q.0 c.in_err-slack.field-0.0 q.1 q.2
    (slack_refuses pkg c.args.counts c.args.flows.now c.requires.places are (c.in-Ok.ensures.fits refl) c.in_err-slack.field-0.0 (c.in_err-slack.ensures.refused f w flowing_here))

pub returns-in_err-domain-clause-refused : goal.returns-in_err-domain-clause-refused
returns-in_err-domain-clause-refused c =
    let p = places_for c.args.counts in
    let pkg = c.args.pkg.now in
    let are = c.requires.flows in
    let count = are.count ∙ sym (ap (λ (q : Places). q.states) c.requires.places) in
    let deref = c.deref.ensures.value ∙ c.in_ok-flowing.ensures in
    let f = flow_coefficients pkg are.heights in
    let w = flow_weights are.sides are.heights in
    let flowing_here : Flowing p c.deref.result.now f w = subst (λ (e : List Scaled). Flowing p e f w) (sym deref) (flowing pkg c.args.counts c.requires.places c.args.env.now c.args.flows.now c.requires.env are) in
    let q = err_from_is_err_and c.from_residual-in_err-domain.result c.from_residual-in_err-domain.ensures.1 in
    refused_so (RefusesPlant pkg) c.from_residual-in_err-domain.result q.0 c.in_err-domain.field-0.0 q.1 q.2
    (domain_refuses pkg c.args.counts c.args.flows.now c.requires.places are (c.in-Ok.ensures.fits refl) (c.in_ok-slack.ensures.fits f w flowing_here refl) c.in_err-domain.field-0.0 c.in_err-domain.ensures.refused)

pub returns-clause-exact : goal.returns-clause-exact
returns-clause-exact c =
    let p = places_for c.args.counts in
    let pkg = c.args.pkg.now in
    let are = c.requires.flows in
    let count = are.count ∙ sym (ap (λ (q : Places). q.states) c.requires.places) in
    let deref = c.deref.ensures.value ∙ c.in_ok-flowing.ensures in
    let f = flow_coefficients pkg are.heights in
    let w = flow_weights are.sides are.heights in
    let flowing_here : Flowing p c.deref.result.now f w = subst (λ (e : List Scaled). Flowing p e f w) (sym deref) (flowing pkg c.args.counts c.requires.places c.args.env.now c.args.flows.now c.requires.env are) in
    plant_conjuncts_are pkg c.args.counts c.args.flows.now c.requires.places are (map tree c.in-Ok.time.items) (map tree c.in_ok-slack.slack.items) (map tree c.in_ok-domain.domain.items) (map tree c.append-2.new.self.items) (joined_all c.in-Ok.time.items c.in_ok-slack.slack.items c.in_ok-domain.domain.items c.append.new.self.items c.append-2.new.self.items c.in_ok-append.ensures.items c.in_ok-append-2.ensures.items) c.in-Ok.ensures.exact (c.in_ok-slack.ensures.exact f w flowing_here) c.in_ok-domain.ensures.exact

pub returns-clause-passes : goal.returns-clause-passes
returns-clause-passes c =
    λ o.
    let p = places_for c.args.counts in
    let pkg = c.args.pkg.now in
    let are = c.requires.flows in
    let count = are.count ∙ sym (ap (λ (q : Places). q.states) c.requires.places) in
    let deref = c.deref.ensures.value ∙ c.in_ok-flowing.ensures in
    let f = flow_coefficients pkg are.heights in
    let w = flow_weights are.sides are.heights in
    let flowing_here : Flowing p c.deref.result.now f w = subst (λ (e : List Scaled). Flowing p e f w) (sym deref) (flowing pkg c.args.counts c.requires.places c.args.env.now c.args.flows.now c.requires.env are) in
    plant_passes pkg c.args.counts c.args.flows.now c.requires.places are (c.in-Ok.ensures.fits refl) (c.in_ok-slack.ensures.fits f w flowing_here refl) (c.in_ok-domain.ensures.fits refl)

pub returns-clause-meaning : goal.returns-clause-meaning
returns-clause-meaning c =
    λ flow exact z q x u v y t i.
    let p = places_for c.args.counts in
    let pkg = c.args.pkg.now in
    let are = c.requires.flows in
    let count = are.count ∙ sym (ap (λ (q : Places). q.states) c.requires.places) in
    let deref = c.deref.ensures.value ∙ c.in_ok-flowing.ensures in
    let f = flow_coefficients pkg are.heights in
    let w = flow_weights are.sides are.heights in
    let flowing_here : Flowing p c.deref.result.now f w = subst (λ (e : List Scaled). Flowing p e f w) (sym deref) (flowing pkg c.args.counts c.requires.places c.args.env.now c.args.flows.now c.requires.env are) in
    let means : Means = record {
      values = c.meaning_depends_on_variables.ensures.values;
      truth = c.meaning_depends_on_variables.ensures.truth;
      good = c.well_formed_parts_have_allowed_variables.ensures.expressions;
      good_formula = c.well_formed_parts_have_allowed_variables.ensures.formulas;
    } in
    let law : Flows = record {
      sides = c.sides_and_heights_are_unique.ensures.sides;
      heights = c.sides_and_heights_are_unique.ensures.heights;
      one = c.values_are_unique.ensures.one;
      only = c.values_respect_equality.ensures.only;
      equal = c.multiples_combine.ensures.equal;
    } in
    let only = subst (λ (r : Places). (allowed : ℕ → Bool) → AllowsFlows r allowed → All (λ (s : Scaled). HaveOnly allowed s.poly) c.args.flows.now) c.requires.places c.requires.only in
    let there = flow_there law pkg c.args.flows.now are c.requires.values only flow exact z q x u v y t (subst (λ (r : Places). IsAt r z (changing q x u v t y)) c.requires.places i) in
    let stands = subst (λ (e : List Scaled). StandsAt p e z (flowed (λ j. flow j (timed q x u t)) (changing q x u v t y))) (sym deref)
    (flowing_at pkg c.args.counts c.requires.places c.args.env.now c.args.flows.now c.requires.env are z (changing q x u v t y) (λ j. flow j (timed q x u t)) i (λ j l. there j (subst (λ (r : Places). j < r.states) c.requires.places l))) in
    subst (λ (ts : List Tree). IsTrue (parts_hold ts z) ↔ PlantStep flow pkg.plant q x u t y) (sym (joined_all c.in-Ok.time.items c.in_ok-slack.slack.items c.in_ok-domain.domain.items c.append.new.self.items c.append-2.new.self.items c.in_ok-append.ensures.items c.in_ok-append-2.ensures.items))
    (step_is means p flow pkg.plant (subst (λ (q : Places). IsGoodPlant q c.args.pkg.now.plant) (sym c.requires.places) c.requires.good.plant) q x u v y t (map tree c.in-Ok.time.items) (map tree c.in_ok-slack.slack.items) (map tree c.in_ok-domain.domain.items) z
    (c.in-Ok.ensures.meaning z (changing q x u v t y) i)
    (c.in_ok-slack.ensures.meaning z (changing q x u v t y) (λ j. flow j (timed q x u t)) i stands)
    (c.in_ok-domain.ensures.meaning z (changing q x u v t y) i ∙ c.replacing_composes.ensures.truth (changing q x u v t y) arriving pkg.plant.domain))

pub returns-clause-sized : goal.returns-clause-sized
returns-clause-sized c = all_sized (place_count (places_for c.args.counts)) (map tree c.in-Ok.time.items) (map tree c.in_ok-slack.slack.items) (map tree c.in_ok-domain.domain.items) (map tree c.append-2.new.self.items) (joined_all c.in-Ok.time.items c.in_ok-slack.slack.items c.in_ok-domain.domain.items c.append.new.self.items c.append-2.new.self.items c.in_ok-append.ensures.items c.in_ok-append-2.ensures.items) c.in-Ok.ensures.sized c.in_ok-slack.ensures.sized c.in_ok-domain.ensures.sized

pub returns-clause-only : goal.returns-clause-only
returns-clause-only c =
    λ allowed h.
    let p = places_for c.args.counts in
    let pkg = c.args.pkg.now in
    let are = c.requires.flows in
    let count = are.count ∙ sym (ap (λ (q : Places). q.states) c.requires.places) in
    let deref = c.deref.ensures.value ∙ c.in_ok-flowing.ensures in
    let f = flow_coefficients pkg are.heights in
    let w = flow_weights are.sides are.heights in
    let flowing_here : Flowing p c.deref.result.now f w = subst (λ (e : List Scaled). Flowing p e f w) (sym deref) (flowing pkg c.args.counts c.requires.places c.args.env.now c.args.flows.now c.requires.env are) in
    all_only allowed (map tree c.in-Ok.time.items) (map tree c.in_ok-slack.slack.items) (map tree c.in_ok-domain.domain.items) (map tree c.append-2.new.self.items) (joined_all c.in-Ok.time.items c.in_ok-slack.slack.items c.in_ok-domain.domain.items c.append.new.self.items c.append-2.new.self.items c.in_ok-append.ensures.items c.in_ok-append-2.ensures.items) (c.in-Ok.ensures.only allowed h)
    (c.in_ok-slack.ensures.only allowed (subst (λ (e : List Scaled). StandsWithin p e (is_in_plant p) allowed) (sym deref) (flowing_within c.args.counts c.args.env.now c.args.flows.now c.requires.env count c.requires.only allowed h)))
    (c.in_ok-domain.ensures.only allowed h)
