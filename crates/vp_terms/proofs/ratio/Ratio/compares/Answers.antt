use Rattle.std.proofs.lemmas.Int.{to_z-of_z}
use Rattle.std.specs.Prelude.{FitsSigned}
use Rattle.std.specs.Int.{w128}
use Rattle.vp_terms.proofs.Sizes.{num_fits, den_fits, size_is}
use Rattle.vp_terms.proofs.ratio.Ratio.compares.Goals as goal

pub returns : goal.returns
returns c =
    let self_num = num_fits c.args.self in
    let self_den = den_fits c.args.self in
    let other_num = num_fits c.args.other in
    let other_den = den_fits c.args.other in
    let left = simp to_z-of_z at c.product-left.ensures.value in
    let right = simp to_z-of_z at c.product-right.ensures.value in
    let left_fits : FitsSigned w128 c.product-left.result = record { sfits = c.product-left.type_inv } in
    let right_fits : FitsSigned w128 c.product-right.result = record { sfits = c.product-right.type_inv } in
    let ordered = simp to_z-of_z at c.orders.ensures in
    let p = size_is c.args.other.den c.args.other.lowest.positive in
    let q = size_is c.args.self.den c.args.self.lowest.positive in
    cc
