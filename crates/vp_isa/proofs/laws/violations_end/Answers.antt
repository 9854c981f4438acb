use Rattle.vp_isa.proofs.Work.{answer_reports, violation_ends}
use Rattle.vp_isa.proofs.laws.violations_end.Goals as goal

pub returns : goal.returns
returns c = record { ended = answer_reports; due = violation_ends }
