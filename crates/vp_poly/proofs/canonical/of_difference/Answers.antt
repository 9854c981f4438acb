use Rattle.vp_poly.proofs.canonical.of_difference.Goals as goal

pub returns-clause-canonical : goal.returns-clause-canonical
returns-clause-canonical c = λ f i j h. record {
  poly = c.in_ok-scaled.ensures.canonical;
  coefficients = c.in_ok-scaled.ensures.coefficients _ _ (c.in_ok-left.ensures.coefficients f i h) (c.in_ok-right.ensures.coefficients f j h);
}
