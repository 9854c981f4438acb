use Rattle.std.proofs.Common.{refl}
use Rattle.vp_interval.proofs.Fitting.{atom_fits}
use Rattle.vp_interval_tests.proofs.tests.at_least.Goals as goal

pub returns : goal.returns
returns g c = atom_fits 32 _ refl c.in_ok-poly.ensures.canonical c.in_ok-poly.ensures.small
