use Rattle.vp_poly.proofs.PlainLaws.{unit-low}
use Rattle.vp_poly.proofs.environment.itself.Goals as goal

pub single-requires-clause-low : goal.single-requires-clause-low
single-requires-clause-low c = unit-low c.args.place
