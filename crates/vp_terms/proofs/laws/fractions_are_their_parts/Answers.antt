use Rattle.vp_terms.proofs.Numbers.{same_parts_same}
use Rattle.vp_terms.proofs.laws.fractions_are_their_parts.Goals as goal

pub returns : goal.returns
returns c = same_parts_same
