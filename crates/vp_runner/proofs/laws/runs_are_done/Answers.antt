use Rattle.vp_isa.specs.Answering.{machine_of}
use Rattle.vp_runner.proofs.Completeness.{done_is_ok, ok_is_done}
use Rattle.vp_runner.proofs.laws.runs_are_done.Goals as goal

pub returns : goal.returns
returns c = λ code bytes. (done_is_ok (machine_of code) bytes, ok_is_done (machine_of code) bytes)
