use Rattle.vp_logic.proofs.Choosing.{some_case_holds}
use Rattle.vp_logic.proofs.Bounding.{cases_have_atoms}
use Rattle.vp_logic.proofs.Joining.{part_count_is}
use Rattle.vp_logic.proofs.laws.cases_split_parts.Goals as goal

pub returns : goal.returns
returns c = record { holds = some_case_holds; counted = part_count_is; places = cases_have_atoms }
