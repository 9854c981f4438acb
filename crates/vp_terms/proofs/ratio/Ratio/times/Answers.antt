use Rattle.std.proofs.Common.{◌∙◌}
use Rattle.std.proofs.lemmas.Int.{to_z-of_z}
use Rattle.std.specs.Prelude.{FitsSigned}
use Rattle.std.specs.Int.{w128}
use Rattle.vp_terms.specs.Rational.{product}
use Rattle.vp_terms.specs.Meaning.{rational}
use Rattle.vp_terms.proofs.Sizes.{num_fits, den_fits, product_fits, product_positive}
use Rattle.vp_terms.proofs.Results.{result_of, product_den}
use Rattle.vp_terms.proofs.ratio.Ratio.times.Goals as goal

pub reduced-requires : goal.reduced-requires
reduced-requires c =
    let self_num = num_fits c.args.self in
    let self_den = den_fits c.args.self in
    let other_num = num_fits c.args.other in
    let other_den = den_fits c.args.other in
    let den_is = simp to_z-of_z at c.product-den.ensures.value in
    let den_small = product_fits c.args.self.den c.args.other.den c.args.self.lowest.den_small c.args.other.lowest.den_small in
    rw den_is (simp to_z-of_z (product_positive c.args.self.den c.args.other.den c.args.self.lowest.positive c.args.other.lowest.positive))

pub returns : goal.returns
returns c =
    let self_num = num_fits c.args.self in
    let self_den = den_fits c.args.self in
    let other_num = num_fits c.args.other in
    let other_den = den_fits c.args.other in
    let num = simp to_z-of_z at c.product-num.ensures.value in
    let den = simp to_z-of_z at c.product-den.ensures.value in
    let den_fits_too : FitsSigned w128 c.product-den.result = record { sfits = c.product-den.type_inv } in
    let num_fits_too : FitsSigned w128 c.product-num.result = record { sfits = c.product-num.type_inv } in
    result_of
    _
    _
    (product (rational c.args.self) (rational c.args.other))
    c.reduced.result
    (to_z-of_z w128 c.product-num.result num_fits_too ∙ num)
    (to_z-of_z w128 c.product-den.result den_fits_too ∙ product_den c.args.self c.args.other _ den)
    c.reduced.ensures.exact
