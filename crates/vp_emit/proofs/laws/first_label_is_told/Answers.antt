use Rattle.vp_emit.proofs.Unplaced.{first_told, used_has_place}
use Rattle.vp_emit.proofs.laws.first_label_is_told.Goals as goal

pub returns : goal.returns
returns c = record { first = first_told; none = used_has_place }
