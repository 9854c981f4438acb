use Rattle.vp_synth.specs.Stages.{Split}
use Rattle.vp_cmd.proofs.Files.{named_unless, refusal_due}
use Rattle.vp_cmd.proofs.packages.prepared.Goals as goal

pub bad_package-requires-clause-named : goal.bad_package-requires-clause-named
bad_package-requires-clause-named c = named_unless Split c.args.text.now c.in-Err.why c.in-Err.ensures.refused

pub returns-in_ok-bad_package-in-Err-clause-halted : goal.returns-in_ok-bad_package-in-Err-clause-halted
returns-in_ok-bad_package-in-Err-clause-halted c =
    refusal_due Split c.args.text.now c.in-Err.why c.in_ok-bad_package-in-Err.field-0 (c.in-Err.ensures.refused c.in_ok-bad_package-in-Err.ensures.memory) c.in_ok-bad_package-in-Err.ensures.due
