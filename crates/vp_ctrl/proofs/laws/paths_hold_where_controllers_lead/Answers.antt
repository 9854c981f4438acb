use Rattle.vp_ctrl.proofs.Central.{paths_lead}
use Rattle.vp_ctrl.proofs.Known.{Meant}
use Rattle.vp_ctrl.proofs.laws.paths_hold_where_controllers_lead.Goals as goal

pub returns : goal.returns
returns c =
    let meant : Meant = record {
      depends = record {
        values = c.meaning_depends_on_variables.ensures.values;
        truth = c.meaning_depends_on_variables.ensures.truth;
      };
      composes = record {
        values = c.replacing_composes.ensures.values;
        truth = c.replacing_composes.ensures.truth;
        variables = c.replacing_composes.ensures.variables;
        formula_variables = c.replacing_composes.ensures.formula_variables;
      };
      allowed = record {
        expressions = c.well_formed_parts_have_allowed_variables.ensures.expressions;
        formulas = c.well_formed_parts_have_allowed_variables.ensures.formulas;
      };
      forms = record {
        formulas = c.normal_forms_hold_as_formulas.ensures;
        negated = c.forms_keep_their_meaning.ensures.negated;
      };
    } in
    paths_lead meant
