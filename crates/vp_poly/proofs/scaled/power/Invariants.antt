use Rattle.vp_poly.specs.Unity.{HasPower}
use Rattle.vp_poly.proofs.scaled.power.Given as goal

abbrev pub invariant-loop-i : goal.invariant-loop-i
invariant-loop-i l = HasPower l.base.poly l.base.weight l._i l.poly
