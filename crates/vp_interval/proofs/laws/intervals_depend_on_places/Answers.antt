use Rattle.vp_interval.proofs.Alike.{interval_alike}
use Rattle.vp_interval.proofs.laws.intervals_depend_on_places.Goals as goal

pub returns : goal.returns
returns c = λ allowed ts boxes others only same. interval_alike allowed boxes others same ts only
