use Rattle.vp_flow.proofs.Further.{beyond}
use Rattle.vp_flow.proofs.laws.further_summands_are_zero.Goals as goal

pub returns : goal.returns
returns c = beyond
