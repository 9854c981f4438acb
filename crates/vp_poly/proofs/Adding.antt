-- What `add` stands on.
use Rattle.std.proofs.Common.{◌+◌, ◌<◌, ◌^◌, List, length}
use Rattle.vp_poly.specs.declared.mono.Term.{Term}
use Rattle.vp_poly.specs.Merge.{merged}
use Rattle.vp_poly.specs.Poly.{norm, IsPoly}
use Rattle.vp_poly.specs.Product.{IsTotal}
use Rattle.vp_poly.proofs.MergeLaws.{coef-merged, IsPoly-merged}
use Rattle.vp_poly.proofs.ValueLaws.{value_at-merged}
use Rattle.vp_poly.proofs.SizeLaws.{IsWithin-merged}
use Rattle.vp_poly.proofs.BelowLaws.{AreBelow-merged, HaveOnly-merged}

pub ruleset adding = (coef-merged, IsPoly-merged, value_at-merged, IsWithin-merged, AreBelow-merged, HaveOnly-merged)

pub IsTotal-merged : (xs ys : List Term) → IsPoly xs → IsPoly ys → norm xs + norm ys < 2 ^ 126 → length xs + length ys < 2 ^ 32 → IsTotal xs ys (merged xs ys)
IsTotal-merged xs ys p q small few = record {
  coefficients = coef-merged xs ys;
  values = value_at-merged xs ys;
  poly = IsPoly-merged xs ys p q small few;
  sizes = IsWithin-merged xs ys;
  places = λ v a b. AreBelow-merged v xs ys a b;
  only = λ f a b. HaveOnly-merged f xs ys a b;
}
