use Rattle.std.proofs.Common.{length, arith}
use Rattle.vp_isa.proofs.Runs.{stops}
use Rattle.vp_isa.proofs.laws.run_stops.Goals as goal

pub returns : goal.returns
returns c = λ code m valid within. stops code (length code.instrs) m valid within (omega arith)
