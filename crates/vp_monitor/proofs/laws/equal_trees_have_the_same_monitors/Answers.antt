use Rattle.vp_monitor.proofs.SameTrees.{Known, same_cases, same_monitors, same_obligations, same_passes, same_refusals}
use Rattle.vp_monitor.proofs.laws.equal_trees_have_the_same_monitors.Goals as goal

pub returns : goal.returns
returns c =
    let known : Known = record {
      weights = c.equal_trees_have_one_polynomial.ensures.weights;
      coefficients_are = c.equal_trees_have_one_polynomial.ensures.coefficients;
      forms = c.equal_trees_have_one_normal_form.ensures.forms;
      narrow = c.equal_trees_have_one_normal_form.ensures.narrow;
      replaced = c.replacing_keeps_equal_trees.ensures.formulas;
      counts = c.equal_trees_have_the_same_paths.ensures.counts;
      hidden = c.equal_trees_have_the_same_paths.ensures.hidden;
      narrow_ways = c.equal_trees_have_the_same_paths.ensures.narrow;
      paths = c.equal_trees_have_the_same_paths.ensures.paths;
      sides = c.equal_trees_have_the_same_flows.ensures.sides;
      rates = c.equal_trees_have_the_same_flows.ensures.rates;
      flow_refusals = c.equal_trees_have_the_same_flows.ensures.refusals;
    } in
    record {
      monitors = same_monitors known;
      passes = same_passes known;
      refusals = same_refusals known;
      obligations = same_obligations known;
      cases = same_cases known;
    }
