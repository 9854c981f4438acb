use Rattle.vp_poly.proofs.BelowLaws.{HaveOnly-weaker, HaveOnly-below, AreBelow-only}
use Rattle.vp_poly.proofs.Told.{HaveOnly-told}
use Rattle.vp_poly.proofs.laws.places_pass_tests.Goals as goal

pub returns : goal.returns
returns c = record { weaker = HaveOnly-weaker; below = HaveOnly-below; passed = AreBelow-only; told = HaveOnly-told }
