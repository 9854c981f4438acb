-- What `mul` stands on.
use Rattle.std.proofs.Common.{◌≡◌, ◌+◌, ◌*◌, ◌<◌, ◌≤◌, ◌^◌, List, [], length, arith, sym, ◌∙◌, subst, ◌*ℤ◌}
use Rattle.vp_terms.proofs.RationalLaws.{chain}
use Rattle.vp_poly.specs.declared.mono.Term.{Term}
use Rattle.vp_poly.specs.Poly.{coef, norm, degree, IsPoly}
use Rattle.vp_poly.specs.Product.{with_rows, IsProduct}
use Rattle.vp_poly.specs.Value.{value_at}
use Rattle.vp_poly.proofs.Ring.{mul_comm}
use Rattle.vp_poly.proofs.SplitLaws.{split_sum-cong, split_sum-turned}
use Rattle.vp_poly.proofs.RowLaws.{coef-product, IsPoly-with_rows}
use Rattle.vp_poly.proofs.ProductValues.{value_at-product, product-comm}
use Rattle.vp_poly.proofs.SizeLaws.{IsWithin-product}
use Rattle.vp_poly.proofs.BelowLaws.{AreBelow-product, HaveOnly-product}

pub IsProduct-rows : (xs ys zs : List Term) → zs ≡ with_rows [] xs ys → IsPoly xs → IsPoly ys → norm xs * norm ys < 2 ^ 126 → length xs * length ys < 2 ^ 32 → degree xs + degree ys ≤ 48 → IsProduct xs ys zs
IsProduct-rows xs ys zs e p q small few low = subst (IsProduct xs ys) (sym e) (record {
  coefficients = λ m. coef-product xs ys m p.ordered q.ordered;
  values = λ a. value_at-product xs ys a;
  poly = IsPoly-with_rows xs ys p q small few low;
  sizes = IsWithin-product xs ys;
  places = λ v a b. AreBelow-product v xs ys a b;
  only = λ f a b. HaveOnly-product f xs ys a b;
})

-- the factors in the other order
pub IsProduct-turned : (xs ys zs : List Term) → IsProduct ys xs zs → IsProduct xs ys zs
IsProduct-turned xs ys zs p = record {
  coefficients = λ m. p.coefficients m ∙ split_sum-turned m (λ a b. coef ys a *ℤ coef xs b) ∙ split_sum-cong m (λ a b. coef ys b *ℤ coef xs a) (λ a b. coef xs a *ℤ coef ys b) (λ a b. mul_comm (coef ys b) (coef xs a));
  values = λ a. chain (p.values a) (product-comm (value_at ys a) (value_at xs a));
  poly = p.poly;
  sizes = record { norm_le = omega (arith, p.sizes.norm_le); degree_le = omega (arith, p.sizes.degree_le); length_le = omega (arith, p.sizes.length_le) };
  places = λ v a b. p.places v b a;
  only = λ f a b. p.only f b a;
}

pub IsProduct-turned_rows : (xs ys zs : List Term) → zs ≡ with_rows [] ys xs → IsPoly xs → IsPoly ys → norm xs * norm ys < 2 ^ 126 → length xs * length ys < 2 ^ 32 → degree xs + degree ys ≤ 48 → IsProduct xs ys zs
IsProduct-turned_rows xs ys zs e p q small few low = IsProduct-turned xs ys zs (IsProduct-rows ys xs zs e q p (omega arith) (omega arith) (omega arith))

-- the same for the lists that two slices lend
pub IsProduct-lent : (xs ys us vs zs : List Term) → us ≡ xs → vs ≡ ys → IsProduct us vs zs → IsProduct xs ys zs
IsProduct-lent xs ys us vs zs e f p = subst (λ (l : List Term). IsProduct l ys zs) e (subst (λ (l : List Term). IsProduct us l zs) f p)
