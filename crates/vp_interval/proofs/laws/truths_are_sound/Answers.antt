use Rattle.vp_interval.proofs.Verdicts.{truth_tells, all_parts_hold}
use Rattle.vp_interval.proofs.laws.truths_are_sound.Goals as goal

pub returns : goal.returns
returns c = record { one = truth_tells; all = all_parts_hold }
