use Rattle.vp_ctrl.proofs.Bounding.{FewAtoms, as_many, paths_few}
use Rattle.vp_ctrl.proofs.laws.paths_are_bounded.Goals as goal

pub returns : goal.returns
returns c =
    let law : FewAtoms = record { normal = c.normal_forms_have_few_atoms.ensures.normal; negated = c.normal_forms_have_few_atoms.ensures.negated } in
    record { count = as_many; atoms = paths_few law }
