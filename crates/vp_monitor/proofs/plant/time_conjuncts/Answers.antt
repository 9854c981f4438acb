use Rattle.std.proofs.Common.{List, map, ap, sym, subst, ◌∙◌, refl, inl, inr}
use Rattle.std.proofs.lemmas.Result.{err_from_is_err_and}
use Rattle.vp_terms.specs.WellFormed.{in_time}
use Rattle.vp_terms.specs.declared.expr.Expr.TheVariants.{Var as Variable}
use Rattle.vp_terms.specs.declared.expr.Var.TheVariants.{Tau}
use Rattle.vp_poly.specs.Canonical.{variables}
use Rattle.vp_poly.specs.Places.{places_for}
use Rattle.vp_poly.specs.Weights.{Weights, fits, weight_between}
use Rattle.vp_logic.specs.declared.norm.Rel.TheVariants.{Ge}
use Rattle.vp_logic.specs.Normal.{IsAtom}
use Rattle.vp_logic.specs.Tree.{tree}
use Rattle.vp_monitor.proofs.Forming.{Variables, in_places, own_weights_are}
use Rattle.vp_monitor.proofs.Timing.{is_in_time, time_holds, time_only, time_sized, time_used, timed_variables}
use Rattle.vp_monitor.proofs.plant.time_conjuncts.Goals as goal

pub difference-requires-clause-right : goal.difference-requires-clause-right
difference-requires-clause-right c = c.variables_have_places.ensures.expressions in_time (places_for c.args.counts) c.args.plant.now.low c.requires.good.low

pub difference-requires-2-clause-left : goal.difference-requires-2-clause-left
difference-requires-2-clause-left c = c.variables_have_places.ensures.expressions in_time (places_for c.args.counts) c.args.plant.now.high c.requires.good.high

pub returns-in_err-low-clause-wide : goal.returns-in_err-low-clause-wide
returns-in_err-low-clause-wide c =
    λ e.
    let q = err_from_is_err_and c.from_residual.result c.from_residual.ensures.1 in
    inl (sym (ap (λ (ws : List Weights). fits (weight_between (places_for c.args.counts) ws (Variable Tau) c.args.plant.now.low)) (own_weights_are c.args.counts c.args.env.now c.requires.env)) ∙ c.in_err-low.ensures.wide (cc))

pub returns-in_err-high-clause-wide : goal.returns-in_err-high-clause-wide
returns-in_err-high-clause-wide c =
    λ e.
    let q = err_from_is_err_and c.from_residual-in_err-high.result c.from_residual-in_err-high.ensures.1 in
    inr (sym (ap (λ (ws : List Weights). fits (weight_between (places_for c.args.counts) ws c.args.plant.now.high (Variable Tau))) (own_weights_are c.args.counts c.args.env.now c.requires.env)) ∙ c.in_err-high.ensures.wide (cc))

pub returns-clause-exact : goal.returns-clause-exact
returns-clause-exact c =
    let law : Variables = record {
      expressions = c.well_formed_parts_have_allowed_variables.ensures.expressions;
      formulas = c.well_formed_parts_have_allowed_variables.ensures.formulas;
      allowed = c.well_formed_parts_have_allowed_variables.ensures.allowed;
      weaker = c.variables_pass_tests.ensures.expressions;
      weaker_formula = c.variables_pass_tests.ensures.formulas;
    } in
    record {
      low = tree c.in_ok-low.low;
      high = tree c.in_ok-high.high;
      are = ap (map tree) c.in_ok-both.ensures;
      is_low = subst (λ (ws : List Weights). IsAtom (places_for c.args.counts) ws (variables (places_for c.args.counts)) Ge (Variable Tau) c.args.plant.now.low (tree c.in_ok-low.low)) (own_weights_are c.args.counts c.args.env.now c.requires.env)
          (c.in_ok-low.ensures.form (variables (places_for c.args.counts)) refl (in_places law in_time (places_for c.args.counts) c.args.plant.now.low c.requires.good.low) c.requires.env.stand_for);
      is_high = subst (λ (ws : List Weights). IsAtom (places_for c.args.counts) ws (variables (places_for c.args.counts)) Ge c.args.plant.now.high (Variable Tau) (tree c.in_ok-high.high)) (own_weights_are c.args.counts c.args.env.now c.requires.env)
          (c.in_ok-high.ensures.form (variables (places_for c.args.counts)) (in_places law in_time (places_for c.args.counts) c.args.plant.now.high c.requires.good.high) refl c.requires.env.stand_for);
    }

pub returns-clause-fits : goal.returns-clause-fits
returns-clause-fits c =
    λ o.
    record {
      low = sym (ap (λ (ws : List Weights). fits (weight_between (places_for c.args.counts) ws (Variable Tau) c.args.plant.now.low)) (own_weights_are c.args.counts c.args.env.now c.requires.env)) ∙ c.in_ok-low.ensures.within refl;
      high = sym (ap (λ (ws : List Weights). fits (weight_between (places_for c.args.counts) ws c.args.plant.now.high (Variable Tau))) (own_weights_are c.args.counts c.args.env.now c.requires.env)) ∙ c.in_ok-high.ensures.within refl;
    }

pub returns-clause-meaning : goal.returns-clause-meaning
returns-clause-meaning c =
    λ z a at.
    let law : Variables = record {
      expressions = c.well_formed_parts_have_allowed_variables.ensures.expressions;
      formulas = c.well_formed_parts_have_allowed_variables.ensures.formulas;
      allowed = c.well_formed_parts_have_allowed_variables.ensures.allowed;
      weaker = c.variables_pass_tests.ensures.expressions;
      weaker_formula = c.variables_pass_tests.ensures.formulas;
    } in
    time_holds c.args.plant.now a c.in_ok-low.low c.in_ok-high.high c.in_ok-both.both.items z c.in_ok-both.ensures
    (c.in_ok-low.ensures.holds z a refl (in_places law in_time (places_for c.args.counts) c.args.plant.now.low c.requires.good.low) (c.requires.env.stand_at z a at))
    (c.in_ok-high.ensures.holds z a (in_places law in_time (places_for c.args.counts) c.args.plant.now.high c.requires.good.high) refl (c.requires.env.stand_at z a at))

pub returns-clause-sized : goal.returns-clause-sized
returns-clause-sized c = time_sized _ c.in_ok-low.low c.in_ok-high.high c.in_ok-both.both.items c.in_ok-both.ensures c.in_ok-low.ensures.sized c.in_ok-high.ensures.sized

pub returns-clause-only : goal.returns-clause-only
returns-clause-only c =
    λ allowed h.
    let law : Variables = record {
      expressions = c.well_formed_parts_have_allowed_variables.ensures.expressions;
      formulas = c.well_formed_parts_have_allowed_variables.ensures.formulas;
      allowed = c.well_formed_parts_have_allowed_variables.ensures.allowed;
      weaker = c.variables_pass_tests.ensures.expressions;
      weaker_formula = c.variables_pass_tests.ensures.formulas;
    } in
    let used = time_used (places_for c.args.counts) allowed h in
    time_only allowed c.in_ok-low.low c.in_ok-high.high c.in_ok-both.both.items c.in_ok-both.ensures
    (c.in_ok-low.ensures.only (is_in_time (places_for c.args.counts)) allowed refl (timed_variables law (places_for c.args.counts) c.args.plant.now.low c.requires.good.low) (c.requires.env.within (is_in_time (places_for c.args.counts)) allowed used))
    (c.in_ok-high.ensures.only (is_in_time (places_for c.args.counts)) allowed (timed_variables law (places_for c.args.counts) c.args.plant.now.high c.requires.good.high) refl (c.requires.env.within (is_in_time (places_for c.args.counts)) allowed used))
