use Rattle.std.proofs.lemmas.Int.{to_z-of_z}
use Rattle.vp_terms.proofs.Sizes.{product_small, product_fits}
use Rattle.vp_terms.proofs.number.product.Goals as goal

pub returns-clause-value : goal.returns-clause-value
returns-clause-value c =
    let a_fits = c.ranges.a in
    let b_fits = c.ranges.b in
    let ab_fits = product_fits c.args.a c.args.b c.requires.left c.requires.right in
    simp to_z-of_z

pub returns-clause-size : goal.returns-clause-size
returns-clause-size c =
    let a_fits = c.ranges.a in
    let b_fits = c.ranges.b in
    let ab_fits = product_fits c.args.a c.args.b c.requires.left c.requires.right in
    simp to_z-of_z (product_small c.args.a c.args.b c.requires.left c.requires.right)
