use Rattle.vp_layout.proofs.Products.{multiplied}
use Rattle.vp_layout.proofs.laws.products_are_computed.Goals as goal

pub returns : goal.returns
returns c = multiplied
