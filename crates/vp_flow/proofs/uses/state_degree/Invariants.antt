use Rattle.std.proofs.Common.{◌≡◌, ◌≤◌, ◌*◌, sum, take}
use Rattle.vp_flow.proofs.uses.state_degree.Given as goal

abbrev pub invariant-loop-power : goal.invariant-loop-power
invariant-loop-power l = (l.total ≡ sum (take l.power-index l.states)) × (l.total ≤ 255 * l.power-index)
