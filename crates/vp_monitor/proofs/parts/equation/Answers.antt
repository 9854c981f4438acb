use Rattle.std.proofs.Common.{◌≡◌, Bool, true, false, Err, List, ap, ◌∙◌, subst}
use Rattle.vp_terms.specs.WellFormed.{in_model}
use Rattle.vp_terms.specs.declared.expr.Expr.TheVariants.{Var as Variable}
use Rattle.vp_terms.specs.declared.expr.Var.TheVariants.{NextControl}
use Rattle.vp_poly.specs.Canonical.{variables, weights_of}
use Rattle.vp_poly.specs.Places.{places_for}
use Rattle.vp_poly.specs.Weights.{Weights, fits, weight_between}
use Rattle.vp_logic.specs.declared.norm.Rel.TheVariants.{Eq}
use Rattle.vp_logic.specs.Normal.{IsAtom}
use Rattle.vp_logic.specs.Tree.{tree}
use Rattle.vp_monitor.proofs.Forming.{Variables, in_places, own_weights_are}
use Rattle.vp_monitor.proofs.States.{yes}
use Rattle.vp_monitor.proofs.parts.equation.Goals as goal

pub difference-requires-clause-right : goal.difference-requires-clause-right
difference-requires-clause-right c = c.variables_have_places.ensures.expressions in_model (places_for c.args.counts) c.args.value.now c.requires.good

never : (b : Bool) → b ≡ true → b ≡ false → ⊥
never true h k = absurd (cc)
never false h k = absurd (cc)

pub unreachable-requires : goal.unreachable-requires
unreachable-requires c =
    let p = places_for c.args.counts in
    let w = weight_between p (weights_of c.args.env.now) (Variable (NextControl c.args.control)) c.args.value.now in
    never (fits w) (ap (λ (ws : List Weights). fits (weight_between p ws (Variable (NextControl c.args.control)) c.args.value.now)) (own_weights_are c.args.counts c.args.env.now c.requires.env) ∙ c.requires.fits) (c.difference.ensures.wide (c.in-Err-Wide.is ∙ ap Err c.in-Err-Wide.field-0-is))

pub returns-in-Ok-clause-form : goal.returns-in-Ok-clause-form
returns-in-Ok-clause-form c =
    let p = places_for c.args.counts in
    let law : Variables = record {
      expressions = c.well_formed_parts_have_allowed_variables.ensures.expressions;
      formulas = c.well_formed_parts_have_allowed_variables.ensures.formulas;
      allowed = c.well_formed_parts_have_allowed_variables.ensures.allowed;
      weaker = c.variables_pass_tests.ensures.expressions;
      weaker_formula = c.variables_pass_tests.ensures.formulas;
    } in
    subst (λ (ws : List Weights). IsAtom p ws (variables p) Eq (Variable (NextControl c.args.control)) c.args.value.now (tree c.in-Ok.equation)) (own_weights_are c.args.counts c.args.env.now c.requires.env)
    (c.in-Ok.ensures.form (variables p) (yes c.args.control c.args.counts.controls c.requires.control) (in_places law in_model p c.args.value.now c.requires.good) c.requires.env.stand_for)
