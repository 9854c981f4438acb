use Rattle.vp_terms.proofs.Orders.{le_or_lt, le_both, le_chain}
use Rattle.vp_terms.proofs.laws.order_is_total.Goals as goal

pub returns : goal.returns
returns c = record { total = le_or_lt; antisymmetric = le_both; transitive = le_chain }
