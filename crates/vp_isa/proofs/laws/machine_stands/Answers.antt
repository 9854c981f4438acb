use Rattle.vp_isa.specs.Machine.{fresh}
use Rattle.vp_isa.proofs.Runs.{fresh_stands, answer_stands, ended_due}
use Rattle.vp_isa.proofs.Work.{records_stand}
use Rattle.vp_isa.proofs.laws.machine_stands.Goals as goal

pub returns : goal.returns
returns c = record {
  new = fresh_stands;
  next = λ code words m ready. answer_stands code words m ready.valid ready.stands ready.going;
  after = λ code records valid due. records_stand code records (fresh code) valid (fresh_stands code valid) due;
  ended = ended_due;
}
