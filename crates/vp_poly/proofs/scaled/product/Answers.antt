use Rattle.vp_poly.proofs.ScaledLaws.{product-values}
use Rattle.vp_poly.proofs.scaled.product.Goals as goal

pub returns-clause-values : goal.returns-clause-values
returns-clause-values c =
    λ x q r h i. product-values c.args.a.now.poly c.args.b.now.poly c.in_ok-poly.poly _ _ _ x q r c.product-weight.ensures c.requires.fits (c.in_ok-poly.ensures.values x) h i
