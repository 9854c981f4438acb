use Rattle.vp_isa.specs.Answering.{machine_of}
use Rattle.vp_sandbox.specs.Answer.{sandbox_of}
use Rattle.vp_stream.proofs.Agreeing.{runs_alike}
use Rattle.vp_cmd.proofs.laws.codes_run_as_sandboxes.Goals as goal

pub returns : goal.returns
returns c = λ code s input h. runs_alike (machine_of code) (sandbox_of s) h input
