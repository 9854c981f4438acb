use Rattle.vp_terms.proofs.RationalLaws.{sum-zero, sum-comm, sum-assoc, product-distributes}
use Rattle.vp_terms.proofs.laws.sums_and_products.Goals as goal

pub returns : goal.returns
returns c = record { zero = sum-zero; commutative = sum-comm; associative = sum-assoc; distributive = product-distributes }
