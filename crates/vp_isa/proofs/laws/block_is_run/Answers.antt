use Rattle.vp_isa.proofs.Runs.{block_runs}
use Rattle.vp_isa.proofs.laws.block_is_run.Goals as goal

pub returns : goal.returns
returns c = block_runs
