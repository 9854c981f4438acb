use Rattle.vp_terms.proofs.Programs.{Ctrl_over, kept}
use Rattle.vp_terms.proofs.laws.programs_relate_values.Goals as goal

pub returns : goal.returns
returns c = record { equal_values = Ctrl_over; kept = kept }
