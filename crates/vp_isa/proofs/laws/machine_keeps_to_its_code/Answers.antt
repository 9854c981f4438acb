use Rattle.vp_isa.proofs.Work.{work_took, work_run, work_comes}
use Rattle.vp_isa.proofs.laws.machine_keeps_to_its_code.Goals as goal

pub returns : goal.returns
returns c = record { took = work_took; steps = work_run; comes = work_comes }
