use Rattle.vp_sandbox.proofs.Answered.{tested_length}
use Rattle.vp_sandbox.proofs.Valid.{tested_valid, state_next_valid, state_next_length, always_valid}
use Rattle.vp_sandbox.proofs.laws.valid_records_keep_boxes_valid.Goals as goal

pub returns : goal.returns
returns c = record {
  tested = tested_valid;
  after = λ s st words fits size b h. state_next_valid s fits st words size b h;
  size = state_next_length;
  size_tested = tested_length;
  always = λ s rs fits h. always_valid s fits rs h;
}
