use Rattle.vp_synth.proofs.Judged.{CertLaws}
use Rattle.vp_synth.proofs.Unmade.{MonitorLaws}
use Rattle.vp_synth.proofs.Verdict.{Laws, apart, refused}
use Rattle.vp_synth.proofs.laws.one_verdict.Goals as goal

pub returns : goal.returns
returns c =
    let monitors : MonitorLaws = record {
      monitors = c.equal_trees_have_the_same_monitors.ensures.monitors;
      passes = c.equal_trees_have_the_same_monitors.ensures.passes;
      refuses = c.equal_trees_have_the_same_monitors.ensures.refusals;
      obligations = c.equal_trees_have_the_same_monitors.ensures.obligations;
      cases = c.equal_trees_have_the_same_monitors.ensures.cases;
      same = c.monitors_have_one_outcome.ensures.monitors;
      alone = c.monitors_have_one_outcome.ensures.passes_alone;
      one = c.monitors_have_one_outcome.ensures.refusals;
      same_obligations = c.obligations_have_one_outcome.ensures.obligations;
      few_alone = c.obligations_have_one_outcome.ensures.few_alone;
      one_case = c.obligations_have_one_outcome.ensures.refusals;
    } in
    let certs : CertLaws = record {
      refutes = c.equal_trees_refute_alike.ensures.refutes;
      bounds = c.equal_trees_refute_alike.ensures.bounds;
      refuses = c.equal_trees_refute_alike.ensures.refusals;
      alone = c.certificates_have_one_outcome.ensures.refuted_alone;
      one = c.certificates_have_one_outcome.ensures.refusals;
    } in
    let laws : Laws = record {
      one_reading = c.one_reading.ensures.refused;
      apart = c.one_reading.ensures.apart;
      one_package = c.one_reading.ensures.packages;
      good = c.packages_are_well_formed.ensures.packages;
      monitors = monitors;
      certs = certs;
    } in
    record { refused = refused laws; apart = apart laws }
