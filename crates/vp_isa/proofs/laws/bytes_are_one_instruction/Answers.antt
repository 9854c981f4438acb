use Rattle.vp_isa.proofs.Bytes.{decoded_back}
use Rattle.vp_isa.proofs.laws.bytes_are_one_instruction.Goals as goal

pub returns-clause-read : goal.returns-clause-read
returns-clause-read c = decoded_back
