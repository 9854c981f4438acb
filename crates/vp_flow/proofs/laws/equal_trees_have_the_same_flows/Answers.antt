use Rattle.vp_flow.proofs.SameFlows.{Known, same_rates, same_refusals, same_sides}
use Rattle.vp_flow.proofs.laws.equal_trees_have_the_same_flows.Goals as goal

pub returns : goal.returns
returns c =
    let known : Known = record {
      weights = c.equal_trees_have_one_polynomial.ensures.weights;
      coefficients_are = c.equal_trees_have_one_polynomial.ensures.coefficients;
    } in
    record { sides = same_sides known; rates = same_rates known; refusals = same_refusals known }
