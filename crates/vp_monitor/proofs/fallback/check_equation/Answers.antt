use Rattle.std.proofs.Common.{ap, sym, ◌∙◌, refl, List}
use Rattle.std.proofs.lemmas.Result.{err_from_is_err_and}
use Rattle.vp_terms.specs.WellFormed.{in_model}
use Rattle.vp_terms.specs.declared.expr.Expr.TheVariants.{Var as Variable}
use Rattle.vp_terms.specs.declared.expr.Var.TheVariants.{NextControl}
use Rattle.vp_poly.specs.Places.{places_for}
use Rattle.vp_poly.specs.Weights.{Weights, fits, weight_between}
use Rattle.vp_monitor.proofs.Forming.{own_weights_are}
use Rattle.vp_monitor.proofs.fallback.check_equation.Goals as goal

pub of_difference-requires-clause-places_b : goal.of_difference-requires-clause-places_b
of_difference-requires-clause-places_b c = c.variables_have_places.ensures.expressions in_model (places_for c.args.counts) c.args.value.now c.requires.good

pub returns-in_err-equation-clause-wide : goal.returns-in_err-equation-clause-wide
returns-in_err-equation-clause-wide c =
    λ e.
    let q = err_from_is_err_and c.from_residual.result c.from_residual.ensures.1 in
    sym (ap (λ (ws : List Weights). fits (weight_between (places_for c.args.counts) ws (Variable (NextControl c.args.control)) c.args.value.now)) (own_weights_are c.args.counts c.args.env.now c.requires.env)) ∙ c.in_err-equation.ensures.wide (cc)

pub returns-clause-fits : goal.returns-clause-fits
returns-clause-fits c =
    λ o.
    sym (ap (λ (ws : List Weights). fits (weight_between (places_for c.args.counts) ws (Variable (NextControl c.args.control)) c.args.value.now)) (own_weights_are c.args.counts c.args.env.now c.requires.env)) ∙ c.in_ok-equation.ensures.within refl
