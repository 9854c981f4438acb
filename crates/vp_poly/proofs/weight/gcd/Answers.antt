use Rattle.std.proofs.Common.{◌≡◌, arith}
use Rattle.std.proofs.lemmas.Nat.Gcd.{IsGcd-from_zero}
use Rattle.vp_poly.proofs.LcmLaws.{gcd-same}
use Rattle.vp_poly.proofs.weight.gcd.Goals as goal

pub returns : goal.returns
returns c =
    let none : c.loop-y.y ≡ 0 = omega arith in
    gcd-same _ _ c.loop-y.x (c.loop-y.invariant c.loop-y.x (IsGcd-from_zero c.loop-y.x c.loop-y.y none))
