use Rattle.vp_cert.proofs.Existence.{PolyLaws, never_holds}
use Rattle.vp_cert.proofs.laws.refuted_cases_never_hold.Goals as goal

pub returns : goal.returns
returns c =
    let law : PolyLaws = record {
      allowed = record {
        expressions = c.well_formed_parts_have_allowed_variables.ensures.expressions;
        allowed = c.well_formed_parts_have_allowed_variables.ensures.allowed;
        weaker = c.variables_pass_tests.ensures.expressions;
      };
      single = record {
        poly = c.terms_are_polynomials.ensures.poly;
        coefficients = c.terms_are_polynomials.ensures.coefficients;
        values = c.terms_are_polynomials.ensures.values;
        sizes = c.terms_are_polynomials.ensures.sizes;
      };
      some = c.canonical_polynomials_have_values.ensures.some;
      values = c.canonical_polynomials_have_values.ensures.values;
      weighed = c.canonical_polynomials_have_values.ensures.weighed;
      own = c.points_have_assignments.ensures.own;
      totals = c.polynomials_add_and_multiply.ensures.sums;
      multiples = c.polynomials_add_and_multiply.ensures.products;
      add = c.coefficients_combine.ensures.sums;
      multiply = c.coefficients_combine.ensures.products;
      unique = c.polynomials_are_unique.ensures.by_coefficients;
    } in
    never_holds law
