use Rattle.vp_terms.proofs.Orders.{same_comparison}
use Rattle.vp_terms.proofs.laws.comparisons_respect_equality.Goals as goal

pub returns : goal.returns
returns c = same_comparison
