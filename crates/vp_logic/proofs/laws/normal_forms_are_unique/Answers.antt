use Rattle.vp_logic.proofs.Lawful.{normal_unique}
use Rattle.vp_logic.proofs.laws.normal_forms_are_unique.Goals as goal

pub returns : goal.returns
returns c = normal_unique
