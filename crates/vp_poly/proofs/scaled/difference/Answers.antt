use Rattle.vp_poly.specs.Times.{negation}
use Rattle.vp_poly.proofs.ScaledLaws.{turned-coefficients}
use Rattle.vp_poly.proofs.TimesLaws.{IsTimes-turned}
use Rattle.vp_poly.proofs.scaled.difference.Goals as goal

pub returns-clause-places : goal.returns-clause-places
returns-clause-places c = λ v h k. c.in_ok-rest.ensures.places v h (c.in_ok-opposite.ensures.places v k)

pub returns-clause-only : goal.returns-clause-only
returns-clause-only c = λ f h k. c.in_ok-rest.ensures.only f h (c.in_ok-opposite.ensures.only f k)

pub returns-clause-coefficients : goal.returns-clause-coefficients
returns-clause-coefficients c =
    λ f g h i. turned-coefficients _ c.in_ok-rest.rest.poly f g (c.in_ok-rest.ensures.coefficients f (λ m. negation (g m)) h (c.in_ok-opposite.ensures.coefficients g i))

pub returns-clause-values : goal.returns-clause-values
returns-clause-values c =
    λ x q r h i. IsTimes-turned _ _ q r (c.in_ok-rest.ensures.values x q (negation r) h (c.in_ok-opposite.ensures.values x r i))
