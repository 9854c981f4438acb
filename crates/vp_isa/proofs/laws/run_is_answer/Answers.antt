use Rattle.std.proofs.Common.{ap}
use Rattle.vp_isa.specs.Machine.{MachineState, replied}
use Rattle.vp_isa.proofs.Runs.{run_answers, answer_bound}
use Rattle.vp_isa.proofs.laws.run_is_answer.Goals as goal

pub returns : goal.returns
returns c = record {
  reply = λ code words m n ready to. ap (λ (s : MachineState). s.reply) (run_answers code words m n ready.valid ready.stands ready.going to.comes to.stop);
  next = λ code words m n ready to. ap replied (run_answers code words m n ready.valid ready.stands ready.going to.comes to.stop);
  ran = λ code words m ready. answer_bound code words m ready.valid ready.stands ready.going;
}
