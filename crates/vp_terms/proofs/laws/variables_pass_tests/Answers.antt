use Rattle.vp_terms.proofs.Spots.{weaker, weaker_of}
use Rattle.vp_terms.proofs.laws.variables_pass_tests.Goals as goal

pub returns : goal.returns
returns c = record { expressions = weaker; formulas = weaker_of }
