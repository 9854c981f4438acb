use Rattle.vp_terms.proofs.Spots.{good_is_below, good_formula_is_below}
use Rattle.vp_terms.proofs.laws.variables_have_places.Goals as goal

pub returns : goal.returns
returns c = record { expressions = good_is_below; formulas = good_formula_is_below }
