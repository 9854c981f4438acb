use Rattle.vp_monitor.proofs.Exchanging.{Renames}
use Rattle.vp_monitor.proofs.Inductive.{Known, inductive}
use Rattle.vp_monitor.proofs.laws.unmet_obligations_make_invariants_inductive.Goals as goal

pub returns : goal.returns
returns c =
    let renames : Renames = record { none = c.renamings_are_exchanges.ensures.none; exchanged = c.renamings_are_exchanges.ensures.exchanged } in
    let known : Known = record {
      renames = renames;
      some = c.points_have_assignments.ensures.some;
      moved = c.points_have_assignments.ensures.renamed;
      same = c.points_have_assignments.ensures.values;
      negates = c.forms_keep_their_meaning.ensures.negated;
      holds_before = c.renamed_forms_hold_before.ensures;
      as_formula = c.normal_forms_hold_as_formulas.ensures;
      cases = c.cases_split_parts.ensures.holds;
      values = c.meaning_depends_on_variables.ensures.values;
      good = c.well_formed_parts_have_allowed_variables.ensures.expressions;
      weaker = c.variables_pass_tests.ensures.expressions;
      allowed = c.well_formed_parts_have_allowed_variables.ensures.allowed;
      kept = c.programs_relate_values.ensures.kept;
    } in
    λ flow pkg m os good are passes sized mean h never. inductive known flow pkg m os good are passes sized mean h never
