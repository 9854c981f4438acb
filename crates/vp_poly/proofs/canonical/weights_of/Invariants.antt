use Rattle.std.proofs.Common.{◌≡◌, take}
use Rattle.vp_poly.specs.Canonical.{weights_of}
use Rattle.vp_poly.proofs.canonical.weights_of.Given as goal

abbrev pub invariant-loop-scaled : goal.invariant-loop-scaled
invariant-loop-scaled l = l.weights.items ≡ weights_of (take l.scaled-index l.env)
