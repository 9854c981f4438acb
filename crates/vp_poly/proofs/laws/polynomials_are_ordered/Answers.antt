use Rattle.std.proofs.Common.{◌∷◌, pos}
use Rattle.vp_poly.proofs.MergeLaws.{IsBefore-trans}
use Rattle.vp_poly.proofs.Unique.{coef-before}
use Rattle.vp_poly.proofs.laws.polynomials_are_ordered.Goals as goal

pub returns : goal.returns
returns c = λ t ts m p l. coef-before (record { mono = m; coef = pos 1 }) (t ∷ ts) (l, IsBefore-trans (record { mono = m; coef = pos 1 }) t ts l p.ordered.0.before)
