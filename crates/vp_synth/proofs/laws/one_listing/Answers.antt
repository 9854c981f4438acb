use Rattle.vp_synth.proofs.Once.{one_listing}
use Rattle.vp_synth.proofs.Unmade.{MonitorLaws}
use Rattle.vp_synth.proofs.laws.one_listing.Goals as goal

pub returns : goal.returns
returns c = λ text p q os ps s t i j h k.
    let monitors : MonitorLaws = record {
      monitors = c.equal_trees_have_the_same_monitors.ensures.monitors;
      passes = c.equal_trees_have_the_same_monitors.ensures.passes;
      refuses = c.equal_trees_have_the_same_monitors.ensures.refusals;
      obligations = c.equal_trees_have_the_same_monitors.ensures.obligations;
      cases = c.equal_trees_have_the_same_monitors.ensures.cases;
      same = c.monitors_have_one_outcome.ensures.monitors;
      alone = c.monitors_have_one_outcome.ensures.passes_alone;
      one = c.monitors_have_one_outcome.ensures.refusals;
      same_obligations = c.obligations_have_one_outcome.ensures.obligations;
      few_alone = c.obligations_have_one_outcome.ensures.few_alone;
      one_case = c.obligations_have_one_outcome.ensures.refusals;
    } in
    one_listing monitors p q (c.one_reading.ensures.packages text p q i j) (c.packages_are_well_formed.ensures.packages text q j) os ps s t h k
