-- Polynomials whose coefficients are sums or multiples have the sums or multiples as values.
use Rattle.std.proofs.Common.{◌≡◌, ◌≢◌, ◌⊎◌, inl, inr, Bool, ℕ, IsTrue, List, [], ◌∷◌, refl, sym, ap, ◌∙◌, subst, arith, ℤ, pos, ◌+ℤ◌, ◌*ℤ◌, true, false, suc, ◌+◌, slice_index}
use Rattle.std.proofs.lemmas.Int.{ints}
use Rattle.std.proofs.Math.IntN.{zero-*ℤ}
use Rattle.vp_terms.specs.Rational.{whole, sum, product, Equals}
use Rattle.vp_terms.proofs.RationalLaws.{Equals-refl, Equals-sum, Equals-product, Equals-power}
use Rattle.vp_poly.specs.declared.mono.Term.{Term}
use Rattle.vp_poly.specs.Poly.{Powers, coef, scaled, IsPoly}
use Rattle.vp_poly.specs.Merge.{merged}
use Rattle.vp_poly.specs.Places.{HaveOnly}
use Rattle.vp_poly.specs.Value.{Point, value_at, powers_value}
use Rattle.vp_poly.proofs.BelowLaws.{HaveOnly-first, HaveOnly-tail}
use Rattle.vp_poly.proofs.MergeLaws.{coef-merged, IsOrdered-merged}
use Rattle.vp_poly.proofs.PolyLaws.{IsOrdered-scaled}
use Rattle.vp_poly.proofs.ProductValues.{value_at-scaled}
use Rattle.vp_poly.proofs.Scaling.{value_at-zero_times}
use Rattle.vp_poly.proofs.SizeLaws.{coef-scaled}
use Rattle.vp_poly.proofs.Unique.{IsOrdered-unique}
use Rattle.vp_poly.proofs.ValueLaws.{value_at-merged}

pub value-sum : (xs ys zs : List Term) (x : Point) → IsPoly xs → IsPoly ys → IsPoly zs → ((m : Powers) → coef zs m ≡ coef xs m +ℤ coef ys m) → Equals (value_at zs x) (sum (value_at xs x) (value_at ys x))
value-sum xs ys zs x p q r h =
    let same : zs ≡ merged xs ys = IsOrdered-unique zs (merged xs ys) r.ordered (IsOrdered-merged xs ys p.ordered q.ordered) (λ m. h m ∙ sym (coef-merged xs ys m)) in
    subst (λ (l : List Term). Equals (value_at l x) (sum (value_at xs x) (value_at ys x))) (sym same) (value_at-merged xs ys x)

zero_or : (k : ℤ) → (k ≡ pos 0) ⊎ (k ≢ pos 0)
zero_or k = grind (arith, ints)

pub value-multiple : (k : ℤ) (xs zs : List Term) (x : Point) → IsPoly xs → IsPoly zs → ((m : Powers) → coef zs m ≡ k *ℤ coef xs m) → Equals (value_at zs x) (product (whole k) (value_at xs x))
value-multiple k xs zs x p r h = case (zero_or k)
  where
    case : (k ≡ pos 0) ⊎ (k ≢ pos 0) → Equals (value_at zs x) (product (whole k) (value_at xs x))
    case (inl e) =
        let same : zs ≡ [] = IsOrdered-unique zs [] r.ordered tt (λ m. h m ∙ ap (λ (z : ℤ). z *ℤ coef xs m) e ∙ zero-*ℤ (coef xs m)) in
        subst (λ (l : List Term). Equals (value_at l x) (product (whole k) (value_at xs x))) (sym same) (value_at-zero_times k xs x e)
    case (inr n) =
        let same : zs ≡ scaled k xs = IsOrdered-unique zs (scaled k xs) r.ordered (IsOrdered-scaled k xs n p.ordered) (λ m. h m ∙ sym (coef-scaled k xs m)) in
        subst (λ (l : List Term). Equals (value_at l x) (product (whole k) (value_at xs x))) (sym same) (value_at-scaled k xs x)

-- a place that fails the test doesn't count
powers_value-only : (k : ℕ) (f : ℕ → Bool) (es : Powers) (x y : Point) → ((i : ℕ) → f (k + i) ≡ false → slice_index es i ≡ 0) → ((i : ℕ) → IsTrue (f i) → Equals (x i) (y i)) → Equals (powers_value k es x) (powers_value k es y)
powers_value-only k f [] x y z h = Equals-refl (whole (pos 1))
powers_value-only k f (e ∷ es) x y z h = case (f k) refl (powers_value-only (suc k) f es x y (λ i off. z (suc i) (let n : k + suc i ≡ suc k + i = omega arith in ap f n ∙ off)) h)
  where
    case : (b : Bool) → f k ≡ b → Equals (powers_value (suc k) es x) (powers_value (suc k) es y) → Equals (powers_value k (e ∷ es) x) (powers_value k (e ∷ es) y)
    case true on rest = Equals-product _ _ _ _ (Equals-power (x k) (y k) e (h k on)) rest
    case false off rest =
        let none : e ≡ 0 = z 0 (let n : k + 0 ≡ k = omega arith in ap f n ∙ off) in
        subst (λ (n : ℕ). Equals (powers_value k (n ∷ es) x) (powers_value k (n ∷ es) y)) (sym none) (Equals-product _ _ _ _ (Equals-refl (whole (pos 1))) rest)

pub value_at-only : (f : ℕ → Bool) (ts : List Term) (x y : Point) → HaveOnly f ts → ((k : ℕ) → IsTrue (f k) → Equals (x k) (y k)) → Equals (value_at ts x) (value_at ts y)
value_at-only f [] x y b h = Equals-refl (whole (pos 0))
value_at-only f (t ∷ ts) x y b h =
    let first = HaveOnly-first f t ts b in
    let plus_zero : (i : ℕ) → 0 + i ≡ i = λ i. omega arith in
    Equals-sum _ _ _ _ (Equals-product _ _ _ _ (Equals-refl (whole t.coef)) (powers_value-only 0 f t.mono.powers x y (λ i off. first.others i (sym (ap f (plus_zero i)) ∙ off)) h)) (value_at-only f ts x y (HaveOnly-tail f t ts b) h)
