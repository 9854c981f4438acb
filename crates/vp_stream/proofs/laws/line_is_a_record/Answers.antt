use Rattle.vp_stream.proofs.LineRecords.{read_is_record}
use Rattle.vp_stream.proofs.laws.line_is_a_record.Goals as goal

pub returns : goal.returns
returns c = read_is_record
