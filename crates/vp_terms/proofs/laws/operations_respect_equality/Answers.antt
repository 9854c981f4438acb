use Rattle.vp_terms.proofs.RationalLaws.{Equals-sum, Equals-difference, Equals-product, Equals-power}
use Rattle.vp_terms.proofs.laws.operations_respect_equality.Goals as goal

pub returns : goal.returns
returns c = record { sums = Equals-sum; differences = Equals-difference; products = Equals-product; powers = Equals-power }
