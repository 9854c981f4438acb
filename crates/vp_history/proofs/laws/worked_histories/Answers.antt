use Rattle.std.proofs.Common.{refl}
use Rattle.vp_history.proofs.Working.{outside, represented, unasked}
use Rattle.vp_history.proofs.laws.worked_histories.Goals as goal

pub returns : goal.returns
returns c = record { represented = represented; outside = outside; unasked = unasked; rounds = refl }
