use Rattle.vp_terms.proofs.Numbers.{one_number}
use Rattle.vp_terms.proofs.laws.texts_write_one_number.Goals as goal

pub returns : goal.returns
returns c = one_number
