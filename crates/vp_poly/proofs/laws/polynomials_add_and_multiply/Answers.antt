use Rattle.std.proofs.Common.{◌≢◌, ◌<◌, ℕ, [], refl, arith, pos}
use Rattle.std.proofs.lemmas.Int.{ints}
use Rattle.vp_poly.specs.Poly.{scaled}
use Rattle.vp_poly.proofs.PolyLaws.{IsPoly-scaled}
use Rattle.vp_poly.proofs.SizeLaws.{coef-scaled}
use Rattle.vp_poly.specs.Merge.{merged}
use Rattle.vp_poly.specs.Product.{with_rows}
use Rattle.vp_poly.proofs.Adding.{IsTotal-merged}
use Rattle.vp_poly.proofs.Multiplying.{IsProduct-rows}
use Rattle.vp_poly.proofs.laws.polynomials_add_and_multiply.Goals as goal

not_zero : (k : ℕ) → 0 < k → pos k ≢ pos 0
not_zero k h e = absurd (omega (arith, ints, e))

pub returns : goal.returns
returns c = record {
  sums = λ xs ys p q small few. (merged xs ys, IsTotal-merged xs ys p q small few);
  products = λ xs ys p q small few low. (with_rows [] xs ys, IsProduct-rows xs ys (with_rows [] xs ys) refl p q small few low);
  multiples = λ k xs p some small. (scaled (pos k) xs, IsPoly-scaled (pos k) xs (scaled (pos k) xs) refl (not_zero k some) small p, coef-scaled (pos k) xs);
}
