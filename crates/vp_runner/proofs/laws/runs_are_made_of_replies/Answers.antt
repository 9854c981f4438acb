use Rattle.vp_isa.specs.Answering.{machine_of}
use Rattle.vp_stream.proofs.Answered.{run_is_made}
use Rattle.vp_runner.proofs.laws.runs_are_made_of_replies.Goals as goal

pub returns : goal.returns
returns c = λ code bytes. run_is_made (machine_of code) bytes
