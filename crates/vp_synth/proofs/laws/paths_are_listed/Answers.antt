use Rattle.vp_synth.proofs.Listed.{paths_are}
use Rattle.vp_synth.proofs.laws.paths_are_listed.Goals as goal

pub returns : goal.returns
returns c = paths_are
