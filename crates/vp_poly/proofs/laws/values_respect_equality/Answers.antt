use Rattle.vp_poly.proofs.Lawful.{value_at-same, value_at-below}
use Rattle.vp_poly.proofs.Following.{value_at-only}
use Rattle.vp_poly.proofs.laws.values_respect_equality.Goals as goal

pub returns : goal.returns
returns c = record { everywhere = value_at-same; below = value_at-below; only = value_at-only }
