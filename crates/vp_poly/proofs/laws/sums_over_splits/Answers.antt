use Rattle.vp_poly.proofs.SplitLaws.{split_sum-plus, split_sum-turned}
use Rattle.vp_poly.proofs.Splitting.{split_sum-assoc, split_sum-by}
use Rattle.vp_poly.proofs.laws.sums_over_splits.Goals as goal

pub returns : goal.returns
returns c = record { commutative = split_sum-turned; associative = split_sum-assoc; sums = split_sum-plus; multiples = split_sum-by }
