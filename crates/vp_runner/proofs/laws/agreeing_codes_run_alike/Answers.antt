use Rattle.vp_isa.specs.Answering.{machine_of}
use Rattle.vp_stream.proofs.Agreeing.{answers_alike, runs_alike, so_far_alike}
use Rattle.vp_runner.proofs.laws.agreeing_codes_run_alike.Goals as goal

pub returns : goal.returns
returns c = record {
  runs = λ code other bytes h. runs_alike (machine_of code) (machine_of other) h bytes;
  so_far = λ code other bytes h. so_far_alike (machine_of code) (machine_of other) h bytes;
  answers = λ code other bytes h. answers_alike (machine_of code) (machine_of other) h bytes;
}
