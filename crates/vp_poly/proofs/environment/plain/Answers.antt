use Rattle.std.proofs.Common.{arith}
use Rattle.vp_poly.proofs.PlainLaws.{made-more, IsEnvironment-made, StandsFor-made, StandsAt-made, StandsWithin-made}
use Rattle.vp_poly.proofs.environment.plain.Goals as goal

pub loop-place-preserved : goal.loop-place-preserved
loop-place-preserved c = made-more _ _ _ c.loop-place.place c.loop-place.invariant c.in_ok-itself.ensures c.in_ok-push.ensures.items

pub returns-clause-environment : goal.returns-clause-environment
returns-clause-environment c = IsEnvironment-made _ _ _ c.loop-place.invariant (omega arith)

pub returns-clause-coefficients : goal.returns-clause-coefficients
returns-clause-coefficients c = StandsFor-made _ _ _ c.loop-place.invariant

pub returns-clause-values : goal.returns-clause-values
returns-clause-values c = λ x a h. StandsAt-made _ _ _ x a c.loop-place.invariant (omega arith) h

pub returns-clause-only : goal.returns-clause-only
returns-clause-only c = λ used allowed h. StandsWithin-made _ _ _ used allowed c.loop-place.invariant h
