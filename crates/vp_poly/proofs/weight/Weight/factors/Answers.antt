use Rattle.vp_poly.proofs.WeighedLaws.{IsRoomy-found}
use Rattle.vp_poly.proofs.weight.Weight.factors.Goals as goal

pub returns-clause-roomy : goal.returns-clause-roomy
returns-clause-roomy c = IsRoomy-found _ _ _ _ _ _ c.unsigned_den.ensures.value c.unsigned_den-2.ensures.value c.unsigned_den.ensures.positive c.unsigned_den-2.ensures.positive c.shares.ensures c.requires
