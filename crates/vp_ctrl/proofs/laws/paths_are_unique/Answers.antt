use Rattle.vp_ctrl.proofs.Central.{parts_unique, paths_unique}
use Rattle.vp_ctrl.proofs.laws.paths_are_unique.Goals as goal

pub returns : goal.returns
returns c = record { parts = parts_unique c.normal_forms_are_unique.ensures; paths = paths_unique c.normal_forms_are_unique.ensures }
