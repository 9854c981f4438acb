use Rattle.std.proofs.Common.{◌≡◌, ◌*◌, ◌≤◌, take, sum}
use Rattle.vp_poly.proofs.mono.Mono.degree.Given as goal

abbrev pub invariant-loop-power : goal.invariant-loop-power
invariant-loop-power l = (l.total ≡ sum (take l.power-index l.self.powers)) × (l.total ≤ 255 * l.power-index)
