use Rattle.std.proofs.Common.{refl}
use Rattle.vp_poly.specs.Value.{value_at}
use Rattle.vp_poly.proofs.ScaledLaws.{opposite-coefficients, opposite-values}
use Rattle.vp_poly.proofs.scaled.negated.Goals as goal

pub returns-clause-coefficients : goal.returns-clause-coefficients
returns-clause-coefficients c =
    opposite-coefficients c.args.a.now.poly c.in_ok-poly.poly c.args.a.now.weight _ _ refl refl c.in_ok-poly.ensures.coefficients

pub returns-clause-values : goal.returns-clause-values
returns-clause-values c =
    λ x. opposite-values c.args.a.now.weight _ _ (value_at c.args.a.now.poly x) (value_at c.in_ok-poly.poly x) refl refl (c.in_ok-poly.ensures.values x)
