use Rattle.vp_isa.proofs.Checking.{valid_from}
use Rattle.vp_isa.proofs.Unrefused.{unrefused}
use Rattle.vp_isa.proofs.laws.rules_are_exact.Goals as goal

pub returns : goal.returns
returns c = λ code. (unrefused code, valid_from code)
