use Rattle.vp_poly.proofs.TimesLaws.{IsTimes-same, IsTimes-sum, IsTimes-product, IsTimes-scaled}
use Rattle.vp_poly.proofs.laws.multiples_combine.Goals as goal

pub returns : goal.returns
returns c = record { equal = IsTimes-same; sums = IsTimes-sum; products = IsTimes-product; multiples = IsTimes-scaled }
