use Rattle.vp_isa.proofs.Runs.{no_steps, one_step, comes_on}
use Rattle.vp_isa.proofs.laws.runs_compose.Goals as goal

pub returns : goal.returns
returns c = record { none = no_steps; one = one_step; both = comes_on }
