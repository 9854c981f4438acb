use Rattle.vp_poly.proofs.Lawful.{coefficients-replaced, value-replaced, weight-replaced}
use Rattle.vp_poly.proofs.Replacing.{holds-replaced, replaced-twice, formula_replaced-twice, variables-replaced, variables_of-replaced}
use Rattle.vp_poly.proofs.laws.replacing_composes.Goals as goal

pub returns : goal.returns
returns c = record {
  coefficients = coefficients-replaced;
  values = value-replaced;
  weights = weight-replaced;
  truth = holds-replaced;
  twice = replaced-twice;
  formulas_twice = formula_replaced-twice;
  variables = variables-replaced;
  formula_variables = variables_of-replaced;
}
