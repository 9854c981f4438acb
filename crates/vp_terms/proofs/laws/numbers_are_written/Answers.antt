use Rattle.vp_terms.proofs.Numbers.{whole_number}
use Rattle.vp_terms.proofs.Written.{written_is_read, read_is_written}
use Rattle.vp_terms.proofs.laws.numbers_are_written.Goals as goal

pub returns : goal.returns
returns c = record { read = written_is_read; written = read_is_written; whole = whole_number }
