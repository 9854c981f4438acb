use Rattle.vp_logic.proofs.Bounding.{normal_atoms, negated_doubles, renamed_atoms}
use Rattle.vp_logic.proofs.laws.normal_forms_have_few_atoms.Goals as goal

pub returns : goal.returns
returns c = record { normal = normal_atoms; negated = negated_doubles; renamed = renamed_atoms }
