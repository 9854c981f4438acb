use Rattle.vp_terms.proofs.Variables.{value_by_variables, truth_by_variables, program_by_variables}
use Rattle.vp_terms.proofs.laws.meaning_depends_on_variables.Goals as goal

pub returns : goal.returns
returns c = record { values = value_by_variables; truth = truth_by_variables; programs = program_by_variables }
