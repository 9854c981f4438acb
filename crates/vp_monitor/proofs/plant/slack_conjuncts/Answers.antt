use Rattle.std.proofs.Common.{◌≡◌, Bool, true, false, IsTrue, List, map, ap, sym, subst, ◌∙◌, refl, inl, inr}
use Rattle.std.specs.Prelude.{◌↔◌}
use Rattle.std.proofs.lemmas.Result.{err_from_is_err_and}
use Rattle.vp_terms.specs.Meaning.{value}
use Rattle.vp_terms.specs.Plant.{IsWithin}
use Rattle.vp_terms.specs.Rational.{difference}
use Rattle.vp_terms.specs.declared.expr.Var.TheVariants.{NextState}
use Rattle.vp_poly.specs.Canonical.{variables}
use Rattle.vp_poly.specs.Places.{places_for}
use Rattle.vp_poly.specs.Weights.{Weights, fits, weight_between}
use Rattle.vp_logic.specs.declared.norm.Norm.{Norm}
use Rattle.vp_logic.specs.declared.norm.Rel.TheVariants.{Ge, Eq}
use Rattle.vp_logic.specs.Sized.{EachHasOnly}
use Rattle.vp_logic.specs.Tree.{tree}
use Rattle.vp_logic.specs.Truth.{parts_hold}
use Rattle.vp_flow.specs.Solution.{with_flows}
use Rattle.vp_monitor.specs.Meaning.{is_in_plant}
use Rattle.vp_monitor.specs.Standing.{flowed}
use Rattle.vp_monitor.proofs.Forming.{own_weights_are}
use Rattle.vp_monitor.proofs.Slacking.{Depends, bound_used, bound_variables, drift_below, drift_used, drift_variables, high_atom, high_good, high_weight, low_atom, low_good, low_weight, none_from_tight, one_within, same_values, tight_from_none, two_within}
use Rattle.vp_monitor.proofs.States.{own_weight_is}
use Rattle.vp_monitor.proofs.plant.slack_conjuncts.Goals as goal

never : (b : Bool) → IsTrue b → b ≡ false → ⊥
never true h k = absurd (cc)
never false h k = absurd (cc)

pub difference-requires-3-clause-right : goal.difference-requires-3-clause-right
difference-requires-3-clause-right c = drift_below (places_for c.args.counts) c.args.state c.in_ok-drift.drift c.in_ok-drift.ensures c.requires.state

pub returns-in_err-same-clause-wide : goal.returns-in_err-same-clause-wide
returns-in_err-same-clause-wide c =
    λ f w h e.
    let law : Depends = record {
      coefficients_on = c.polynomials_depend_on_variables.ensures.coefficients;
      weights_on = c.polynomials_depend_on_variables.ensures.weights;
      values_on = c.meaning_depends_on_variables.ensures.values;
      good = c.well_formed_parts_have_allowed_variables.ensures.expressions;
      allowed = c.well_formed_parts_have_allowed_variables.ensures.allowed;
      weaker = c.variables_pass_tests.ensures.expressions;
    } in
    let p = places_for c.args.counts in
    let s = c.args.slack.now in
    let i = c.args.state in
    let env = c.args.flowing.now in
    let x = c.in_ok-drift.drift in
    let is = c.in_ok-drift.ensures in
    let low = low_good p s c.requires.good in
    let high = high_good p s c.requires.good in
    let q = err_from_is_err_and c.from_residual-in_err-same.result c.from_residual-in_err-same.ensures.1 in
    inr (inl (sym (ap fits (low_weight law p env f w (own_weight_is p) h i c.requires.state x is s low)) ∙ c.in_err-same.ensures.wide (cc)))

pub returns-in_err-low-clause-wide : goal.returns-in_err-low-clause-wide
returns-in_err-low-clause-wide c =
    λ f w h e.
    let law : Depends = record {
      coefficients_on = c.polynomials_depend_on_variables.ensures.coefficients;
      weights_on = c.polynomials_depend_on_variables.ensures.weights;
      values_on = c.meaning_depends_on_variables.ensures.values;
      good = c.well_formed_parts_have_allowed_variables.ensures.expressions;
      allowed = c.well_formed_parts_have_allowed_variables.ensures.allowed;
      weaker = c.variables_pass_tests.ensures.expressions;
    } in
    let p = places_for c.args.counts in
    let s = c.args.slack.now in
    let i = c.args.state in
    let env = c.args.flowing.now in
    let x = c.in_ok-drift.drift in
    let is = c.in_ok-drift.ensures in
    let low = low_good p s c.requires.good in
    let high = high_good p s c.requires.good in
    let q = err_from_is_err_and c.from_residual-in_err-low.result c.from_residual-in_err-low.ensures.1 in
    inr (inl (sym (ap fits (low_weight law p env f w (own_weight_is p) h i c.requires.state x is s low)) ∙ c.in_err-low.ensures.wide (cc)))

pub returns-in_err-high-clause-wide : goal.returns-in_err-high-clause-wide
returns-in_err-high-clause-wide c =
    λ f w h e.
    let law : Depends = record {
      coefficients_on = c.polynomials_depend_on_variables.ensures.coefficients;
      weights_on = c.polynomials_depend_on_variables.ensures.weights;
      values_on = c.meaning_depends_on_variables.ensures.values;
      good = c.well_formed_parts_have_allowed_variables.ensures.expressions;
      allowed = c.well_formed_parts_have_allowed_variables.ensures.allowed;
      weaker = c.variables_pass_tests.ensures.expressions;
    } in
    let p = places_for c.args.counts in
    let s = c.args.slack.now in
    let i = c.args.state in
    let env = c.args.flowing.now in
    let x = c.in_ok-drift.drift in
    let is = c.in_ok-drift.ensures in
    let low = low_good p s c.requires.good in
    let high = high_good p s c.requires.good in
    let q = err_from_is_err_and c.from_residual-in_err-high.result c.from_residual-in_err-high.ensures.1 in
    inr (inr ((λ t. let e = c.is_zero.ensures.1 (none_from_tight c.polynomials_are_unique.ensures.canonical c.in_ok-span.span.weight.den p s c.in_ok-span.span.poly t (c.in_ok-span.ensures.canonical (variables p) (bound_variables law p s.high high) (bound_variables law p s.low low) c.requires.env.stand_for)) in never c.is_zero.result e c.if-is_zero.false), sym (ap fits (high_weight law p env f w (own_weight_is p) h i c.requires.state x is s high)) ∙ c.in_err-high.ensures.wide (cc)))

pub returns-then-is_zero-clause-exact : goal.returns-then-is_zero-clause-exact
returns-then-is_zero-clause-exact c =
    λ f w h.
    let law : Depends = record {
      coefficients_on = c.polynomials_depend_on_variables.ensures.coefficients;
      weights_on = c.polynomials_depend_on_variables.ensures.weights;
      values_on = c.meaning_depends_on_variables.ensures.values;
      good = c.well_formed_parts_have_allowed_variables.ensures.expressions;
      allowed = c.well_formed_parts_have_allowed_variables.ensures.allowed;
      weaker = c.variables_pass_tests.ensures.expressions;
    } in
    let p = places_for c.args.counts in
    let s = c.args.slack.now in
    let i = c.args.state in
    let env = c.args.flowing.now in
    let x = c.in_ok-drift.drift in
    let is = c.in_ok-drift.ensures in
    let low = low_good p s c.requires.good in
    let high = high_good p s c.requires.good in
    inl (
      tight_from_none c.in_ok-span.span.weight.den p s c.in_ok-span.span.poly c.in_ok-span.ensures.positive (c.is_zero.ensures.0 c.if-is_zero.true) (c.in_ok-span.ensures.canonical (variables p) (bound_variables law p s.high high) (bound_variables law p s.low low) c.requires.env.stand_for),
      tree c.in_ok-same.same,
      ap (map tree) c.in_ok-one.ensures,
      low_atom law p env f w (own_weight_is p) h i c.requires.state x is s low Eq (tree c.in_ok-same.same) (c.in_ok-same.ensures.form (with_flows p f) (drift_variables p i x is c.requires.state) (bound_variables law p s.low low) h.stand_for),
    )

pub returns-then-is_zero-clause-fits : goal.returns-then-is_zero-clause-fits
returns-then-is_zero-clause-fits c =
    λ f w h o.
    let law : Depends = record {
      coefficients_on = c.polynomials_depend_on_variables.ensures.coefficients;
      weights_on = c.polynomials_depend_on_variables.ensures.weights;
      values_on = c.meaning_depends_on_variables.ensures.values;
      good = c.well_formed_parts_have_allowed_variables.ensures.expressions;
      allowed = c.well_formed_parts_have_allowed_variables.ensures.allowed;
      weaker = c.variables_pass_tests.ensures.expressions;
    } in
    let p = places_for c.args.counts in
    let s = c.args.slack.now in
    let i = c.args.state in
    let env = c.args.flowing.now in
    let x = c.in_ok-drift.drift in
    let is = c.in_ok-drift.ensures in
    let low = low_good p s c.requires.good in
    let high = high_good p s c.requires.good in
    record {
      span = sym (ap (λ (ws : List Weights). fits (weight_between p ws s.high s.low)) (own_weights_are c.args.counts c.args.env.now c.requires.env)) ∙ c.in_ok-span.ensures.within refl;
      low = sym (ap fits (low_weight law p env f w (own_weight_is p) h i c.requires.state x is s low)) ∙ c.in_ok-same.ensures.within refl;
      high = λ n. absurd (n (tight_from_none c.in_ok-span.span.weight.den p s c.in_ok-span.span.poly c.in_ok-span.ensures.positive (c.is_zero.ensures.0 c.if-is_zero.true) (c.in_ok-span.ensures.canonical (variables p) (bound_variables law p s.high high) (bound_variables law p s.low low) c.requires.env.stand_for)));
    }

pub returns-then-is_zero-clause-meaning : goal.returns-then-is_zero-clause-meaning
returns-then-is_zero-clause-meaning c =
    λ z a v at st.
    let law : Depends = record {
      coefficients_on = c.polynomials_depend_on_variables.ensures.coefficients;
      weights_on = c.polynomials_depend_on_variables.ensures.weights;
      values_on = c.meaning_depends_on_variables.ensures.values;
      good = c.well_formed_parts_have_allowed_variables.ensures.expressions;
      allowed = c.well_formed_parts_have_allowed_variables.ensures.allowed;
      weaker = c.variables_pass_tests.ensures.expressions;
    } in
    let p = places_for c.args.counts in
    let s = c.args.slack.now in
    let i = c.args.state in
    let env = c.args.flowing.now in
    let x = c.in_ok-drift.drift in
    let is = c.in_ok-drift.ensures in
    let low = low_good p s c.requires.good in
    let high = high_good p s c.requires.good in
    subst (λ (ns : List Norm). IsTrue (parts_hold (map tree ns) z) ↔ IsWithin s a (difference (a (NextState i)) (v i))) (sym c.in_ok-one.ensures)
    (one_within law p a v i x is s low
    (same_values c.in_ok-span.span.weight.den c.in_ok-span.span.poly z (value s.high a) (value s.low a) c.in_ok-span.ensures.positive (c.is_zero.ensures.0 c.if-is_zero.true) (c.in_ok-span.ensures.values z a (bound_variables law p s.high high) (bound_variables law p s.low low) (c.requires.env.stand_at z a at)))
    (tree c.in_ok-same.same) z (c.in_ok-same.ensures.holds z (flowed v a) (drift_variables p i x is c.requires.state) (bound_variables law p s.low low) st))

pub returns-then-is_zero-clause-only : goal.returns-then-is_zero-clause-only
returns-then-is_zero-clause-only c =
    λ allowed st.
    let law : Depends = record {
      coefficients_on = c.polynomials_depend_on_variables.ensures.coefficients;
      weights_on = c.polynomials_depend_on_variables.ensures.weights;
      values_on = c.meaning_depends_on_variables.ensures.values;
      good = c.well_formed_parts_have_allowed_variables.ensures.expressions;
      allowed = c.well_formed_parts_have_allowed_variables.ensures.allowed;
      weaker = c.variables_pass_tests.ensures.expressions;
    } in
    let p = places_for c.args.counts in
    let s = c.args.slack.now in
    let i = c.args.state in
    let env = c.args.flowing.now in
    let x = c.in_ok-drift.drift in
    let is = c.in_ok-drift.ensures in
    let low = low_good p s c.requires.good in
    let high = high_good p s c.requires.good in
    subst (λ (ns : List Norm). EachHasOnly allowed (map tree ns)) (sym c.in_ok-one.ensures) (c.in_ok-same.ensures.only (is_in_plant p) allowed (drift_used p i x is c.requires.state) (bound_used law p s.low low) st, tt)

pub returns-clause-exact : goal.returns-clause-exact
returns-clause-exact c =
    λ f w h.
    let law : Depends = record {
      coefficients_on = c.polynomials_depend_on_variables.ensures.coefficients;
      weights_on = c.polynomials_depend_on_variables.ensures.weights;
      values_on = c.meaning_depends_on_variables.ensures.values;
      good = c.well_formed_parts_have_allowed_variables.ensures.expressions;
      allowed = c.well_formed_parts_have_allowed_variables.ensures.allowed;
      weaker = c.variables_pass_tests.ensures.expressions;
    } in
    let p = places_for c.args.counts in
    let s = c.args.slack.now in
    let i = c.args.state in
    let env = c.args.flowing.now in
    let x = c.in_ok-drift.drift in
    let is = c.in_ok-drift.ensures in
    let low = low_good p s c.requires.good in
    let high = high_good p s c.requires.good in
    inr (
      (λ t. let e = c.is_zero.ensures.1 (none_from_tight c.polynomials_are_unique.ensures.canonical c.in_ok-span.span.weight.den p s c.in_ok-span.span.poly t (c.in_ok-span.ensures.canonical (variables p) (bound_variables law p s.high high) (bound_variables law p s.low low) c.requires.env.stand_for)) in never c.is_zero.result e c.if-is_zero.false),
      tree c.in_ok-low.low,
      tree c.in_ok-high.high,
      ap (map tree) c.in_ok-both.ensures,
      low_atom law p env f w (own_weight_is p) h i c.requires.state x is s low Ge (tree c.in_ok-low.low) (c.in_ok-low.ensures.form (with_flows p f) (drift_variables p i x is c.requires.state) (bound_variables law p s.low low) h.stand_for),
      high_atom law p env f w (own_weight_is p) h i c.requires.state x is s high Ge (tree c.in_ok-high.high) (c.in_ok-high.ensures.form (with_flows p f) (bound_variables law p s.high high) (drift_variables p i x is c.requires.state) h.stand_for),
    )

pub returns-clause-fits : goal.returns-clause-fits
returns-clause-fits c =
    λ f w h o.
    let law : Depends = record {
      coefficients_on = c.polynomials_depend_on_variables.ensures.coefficients;
      weights_on = c.polynomials_depend_on_variables.ensures.weights;
      values_on = c.meaning_depends_on_variables.ensures.values;
      good = c.well_formed_parts_have_allowed_variables.ensures.expressions;
      allowed = c.well_formed_parts_have_allowed_variables.ensures.allowed;
      weaker = c.variables_pass_tests.ensures.expressions;
    } in
    let p = places_for c.args.counts in
    let s = c.args.slack.now in
    let i = c.args.state in
    let env = c.args.flowing.now in
    let x = c.in_ok-drift.drift in
    let is = c.in_ok-drift.ensures in
    let low = low_good p s c.requires.good in
    let high = high_good p s c.requires.good in
    record {
      span = sym (ap (λ (ws : List Weights). fits (weight_between p ws s.high s.low)) (own_weights_are c.args.counts c.args.env.now c.requires.env)) ∙ c.in_ok-span.ensures.within refl;
      low = sym (ap fits (low_weight law p env f w (own_weight_is p) h i c.requires.state x is s low)) ∙ c.in_ok-low.ensures.within refl;
      high = λ n. sym (ap fits (high_weight law p env f w (own_weight_is p) h i c.requires.state x is s high)) ∙ c.in_ok-high.ensures.within refl;
    }

pub returns-clause-meaning : goal.returns-clause-meaning
returns-clause-meaning c =
    λ z a v at st.
    let law : Depends = record {
      coefficients_on = c.polynomials_depend_on_variables.ensures.coefficients;
      weights_on = c.polynomials_depend_on_variables.ensures.weights;
      values_on = c.meaning_depends_on_variables.ensures.values;
      good = c.well_formed_parts_have_allowed_variables.ensures.expressions;
      allowed = c.well_formed_parts_have_allowed_variables.ensures.allowed;
      weaker = c.variables_pass_tests.ensures.expressions;
    } in
    let p = places_for c.args.counts in
    let s = c.args.slack.now in
    let i = c.args.state in
    let env = c.args.flowing.now in
    let x = c.in_ok-drift.drift in
    let is = c.in_ok-drift.ensures in
    let low = low_good p s c.requires.good in
    let high = high_good p s c.requires.good in
    subst (λ (ns : List Norm). IsTrue (parts_hold (map tree ns) z) ↔ IsWithin s a (difference (a (NextState i)) (v i))) (sym c.in_ok-both.ensures)
    (two_within law p a v i x is s low high (tree c.in_ok-low.low) (tree c.in_ok-high.high) z
    (c.in_ok-low.ensures.holds z (flowed v a) (drift_variables p i x is c.requires.state) (bound_variables law p s.low low) st)
    (c.in_ok-high.ensures.holds z (flowed v a) (bound_variables law p s.high high) (drift_variables p i x is c.requires.state) st))

pub returns-clause-only : goal.returns-clause-only
returns-clause-only c =
    λ allowed st.
    let law : Depends = record {
      coefficients_on = c.polynomials_depend_on_variables.ensures.coefficients;
      weights_on = c.polynomials_depend_on_variables.ensures.weights;
      values_on = c.meaning_depends_on_variables.ensures.values;
      good = c.well_formed_parts_have_allowed_variables.ensures.expressions;
      allowed = c.well_formed_parts_have_allowed_variables.ensures.allowed;
      weaker = c.variables_pass_tests.ensures.expressions;
    } in
    let p = places_for c.args.counts in
    let s = c.args.slack.now in
    let i = c.args.state in
    let env = c.args.flowing.now in
    let x = c.in_ok-drift.drift in
    let is = c.in_ok-drift.ensures in
    let low = low_good p s c.requires.good in
    let high = high_good p s c.requires.good in
    subst (λ (ns : List Norm). EachHasOnly allowed (map tree ns)) (sym c.in_ok-both.ensures)
    (c.in_ok-low.ensures.only (is_in_plant p) allowed (drift_used p i x is c.requires.state) (bound_used law p s.low low) st, (c.in_ok-high.ensures.only (is_in_plant p) allowed (bound_used law p s.high high) (drift_used p i x is c.requires.state) st, tt))
