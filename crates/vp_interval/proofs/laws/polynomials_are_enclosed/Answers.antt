use Rattle.vp_interval.proofs.Terms.{polynomial_holds}
use Rattle.vp_interval.proofs.Witnesses.{valid_polynomial}
use Rattle.vp_interval.proofs.laws.polynomials_are_enclosed.Goals as goal

pub returns : goal.returns
returns c = record { valid = valid_polynomial; values = λ bs ts x a h p s. (polynomial_holds bs ts x a h p s).represents }
