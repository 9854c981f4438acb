use Rattle.std.proofs.Common.{◌≡◌, ◌^◌, ℕ, Bool, true, false, ◌&&◌, ap, sym, ◌∙◌, refl, List, nat_lt}
use Rattle.std.proofs.lemmas.Result.{err_from_is_err_and}
use Rattle.vp_terms.specs.WellFormed.{in_model, is_allowed}
use Rattle.vp_terms.specs.Places.{place_count}
use Rattle.vp_terms.specs.declared.expr.Expr.TheVariants.{Var as Variable}
use Rattle.vp_terms.specs.declared.expr.Var.TheVariants.{NextControl}
use Rattle.vp_poly.specs.Canonical.{own_weights, variables}
use Rattle.vp_poly.specs.Places.{places_for}
use Rattle.vp_poly.specs.Weights.{Weights, fits, norm_if, weight_in, weight_sum}
use Rattle.vp_monitor.proofs.Forming.{Variables, in_places, own_weights_are}
use Rattle.vp_monitor.proofs.fallback.narrow_polynomial.Goals as goal

pub of_expr-requires-clause-places : goal.of_expr-requires-clause-places
of_expr-requires-clause-places c = c.variables_have_places.ensures.expressions in_model (places_for c.args.counts) c.args.value.now c.requires.good

over : (b : Bool) (n : ℕ) → b ≡ false → nat_lt (norm_if b n) (2 ^ 62) ≡ false
over true n h = absurd (cc)
over false n h = refl

and_none : (a b : Bool) → b ≡ false → (a && b) ≡ false
and_none true b h = h
and_none false b h = refl

none_and : (a b c d : Bool) → a ≡ false → (a && b && c && d) ≡ false
none_and true b c d h = absurd (cc)
none_and false b c d h = refl

-- a sum is over where its second part is
sum_over : (v w : Weights) → fits w ≡ false → fits (weight_sum v w) ≡ false
sum_over v w h = none_and _ _ _ _ (over (fits v && fits w) _ (and_none (fits v) (fits w) h))

pub returns-in_err-scaled-clause-wide : goal.returns-in_err-scaled-clause-wide
returns-in_err-scaled-clause-wide c =
    λ e.
    let q = err_from_is_err_and c.from_residual-in_err-scaled.result c.from_residual-in_err-scaled.ensures.1 in
    sum_over (weight_in (places_for c.args.counts) (own_weights (place_count (places_for c.args.counts))) (Variable (NextControl c.args.control))) (weight_in (places_for c.args.counts) (own_weights (place_count (places_for c.args.counts))) c.args.value.now) (sym (ap (λ (ws : List Weights). fits (weight_in (places_for c.args.counts) ws c.args.value.now)) (own_weights_are c.args.counts c.args.env.now c.requires.env)) ∙ c.in_err-scaled.ensures.wide (cc))

pub returns-clause-weight : goal.returns-clause-weight
returns-clause-weight c = c.in_ok-scaled.ensures.weight ∙ ap (λ (ws : List Weights). weight_in (places_for c.args.counts) ws c.args.value.now) (own_weights_are c.args.counts c.args.env.now c.requires.env)

pub returns-clause-canonical : goal.returns-clause-canonical
returns-clause-canonical c =
    let law : Variables = record {
      expressions = c.well_formed_parts_have_allowed_variables.ensures.expressions;
      formulas = c.well_formed_parts_have_allowed_variables.ensures.formulas;
      allowed = c.well_formed_parts_have_allowed_variables.ensures.allowed;
      weaker = c.variables_pass_tests.ensures.expressions;
      weaker_formula = c.variables_pass_tests.ensures.formulas;
    } in
    c.in_ok-scaled.ensures.canonical (variables (places_for c.args.counts)) (in_places law in_model (places_for c.args.counts) c.args.value.now c.requires.good) c.requires.env.stand_for

pub returns-clause-values : goal.returns-clause-values
returns-clause-values c =
    λ z a at.
    let law : Variables = record {
      expressions = c.well_formed_parts_have_allowed_variables.ensures.expressions;
      formulas = c.well_formed_parts_have_allowed_variables.ensures.formulas;
      allowed = c.well_formed_parts_have_allowed_variables.ensures.allowed;
      weaker = c.variables_pass_tests.ensures.expressions;
      weaker_formula = c.variables_pass_tests.ensures.formulas;
    } in
    c.in_ok-scaled.ensures.values z a (in_places law in_model (places_for c.args.counts) c.args.value.now c.requires.good) (c.requires.env.stand_at z a at)

pub returns-clause-small : goal.returns-clause-small
returns-clause-small c = record {
  poly = (c.in_ok-scaled.ensures.canonical (variables (places_for c.args.counts)) (in_places (record {
    expressions = c.well_formed_parts_have_allowed_variables.ensures.expressions;
    formulas = c.well_formed_parts_have_allowed_variables.ensures.formulas;
    allowed = c.well_formed_parts_have_allowed_variables.ensures.allowed;
    weaker = c.variables_pass_tests.ensures.expressions;
    weaker_formula = c.variables_pass_tests.ensures.formulas;
  }) in_model (places_for c.args.counts) c.args.value.now c.requires.good) c.requires.env.stand_for).poly;
  small = c.in_ok-scaled.ensures.small;
  low = c.in_ok-scaled.ensures.low;
}

pub returns-clause-only : goal.returns-clause-only
returns-clause-only c =
    λ allowed h.
    c.in_ok-scaled.ensures.only (is_allowed in_model (places_for c.args.counts)) allowed (c.well_formed_parts_have_allowed_variables.ensures.expressions in_model (places_for c.args.counts) c.args.value.now c.requires.good)
    (c.requires.env.within (is_allowed in_model (places_for c.args.counts)) allowed h)
