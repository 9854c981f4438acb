use Rattle.vp_synth.proofs.Alike.{agree}
use Rattle.vp_synth.proofs.laws.alike_sandboxes_agree.Goals as goal

pub returns : goal.returns
returns c = agree
