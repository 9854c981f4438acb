use Rattle.vp_cmd.proofs.Written.{accepted_checks, accepted_compiles, accepted_runs}
use Rattle.vp_cmd.proofs.laws.accepted_packages_are_done.Goals as goal

pub returns : goal.returns
returns c = record {
  checked = accepted_checks c.one_verdict.ensures.apart;
  compiled = accepted_compiles c.one_verdict.ensures.apart c.one_sandbox.ensures;
  run = accepted_runs c.one_verdict.ensures.apart c.one_sandbox.ensures c.alike_sandboxes_agree.ensures;
}
