use Rattle.vp_poly.proofs.LcmLaws.{Shares-of}
use Rattle.vp_poly.proofs.weight.shares.Goals as goal

pub returns : goal.returns
returns c = Shares-of _ _ _ c.gcd-divisor.ensures c.requires.a c.requires.b
