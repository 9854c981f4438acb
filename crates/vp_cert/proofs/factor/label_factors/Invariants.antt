use Rattle.std.proofs.Common.{map, take}
use Rattle.vp_cert.specs.Certificate.{label_factor, labelled}
use Rattle.vp_cert.specs.Factors.{AreTermFactors}
use Rattle.vp_cert.proofs.factor.label_factors.Given as goal

abbrev pub invariant-loop-label : goal.invariant-loop-label
invariant-loop-label l = AreTermFactors (map (label_factor (labelled l.atoms l.places)) (take l.label-index l.labels)) l.all.items
