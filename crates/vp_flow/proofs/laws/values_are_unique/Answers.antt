use Rattle.vp_flow.proofs.Valuing.{AreMultiples, equal_point, equal_value, one_value}
use Rattle.vp_flow.proofs.laws.values_are_unique.Goals as goal

pub returns : goal.returns
returns c =
    let law : AreMultiples = record {
      unique = c.polynomials_are_unique.ensures.canonical;
      some = c.polynomials_add_and_multiply.ensures.multiples;
      values = c.coefficients_tell_values.ensures.multiples;
      coefficients = c.coefficients_combine.ensures.multiples;
      equal = c.multiples_combine.ensures.equal;
      times = c.multiples_combine.ensures.multiples;
    } in
    record { one = one_value law; equal = equal_value; points = equal_point law c.values_respect_equality.ensures.everywhere }
