use Rattle.std.proofs.Common.{refl}
use Rattle.vp_cmd.specs.Tank.{tank}
use Rattle.vp_cmd.proofs.tank.tank.Goals as goal

pub returns : goal.returns
unfolding tank
returns c = refl
