use Rattle.vp_logic.proofs.Lawful.{conjuncts_sized}
use Rattle.vp_logic.proofs.Bounding.{conjuncts_only, all_atoms_sized}
use Rattle.vp_logic.proofs.laws.conjuncts_stay_small.Goals as goal

pub returns : goal.returns
returns c = record { sized = conjuncts_sized; only = conjuncts_only; atoms = all_atoms_sized }
