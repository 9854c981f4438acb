use Rattle.vp_terms.proofs.Agreeing.{good_variables, good_variables_of}
use Rattle.vp_terms.proofs.Spots.{allowed_is_there}
use Rattle.vp_terms.proofs.laws.well_formed_parts_have_allowed_variables.Goals as goal

pub returns : goal.returns
returns c = record { expressions = good_variables; formulas = good_variables_of; allowed = allowed_is_there }
