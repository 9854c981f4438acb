use Rattle.std.proofs.Common.{List, map, subst, sym, take, ◌+◌}
use Rattle.vp_poly.specs.declared.scaled.Scaled.{Scaled}
use Rattle.vp_cert.specs.Certificate.{label_factor, labelled}
use Rattle.vp_cert.specs.Factors.{AreTermFactors}
use Rattle.vp_cert.proofs.Combining.{factors_more}
use Rattle.vp_cert.proofs.factor.label_factors.Goals as goal

pub loop-label-preserved : goal.loop-label-preserved
loop-label-preserved c =
    subst (λ (l : List Scaled). AreTermFactors (map (label_factor (labelled c.args.atoms.now c.args.places.now)) (take (c.loop-label.label-index + 1) c.args.labels.now)) l) (sym c.in_ok-push_factor.ensures)
    (factors_more (label_factor (labelled c.args.atoms.now c.args.places.now)) c.args.labels.now c.loop-label.label-index 0 c.loop-label.all.items c.in_ok-factor.factor c.loop-label-test.true c.loop-label.invariant c.in_ok-factor.ensures)
