-- What the products stand on.
use Rattle.std.proofs.Common.{◌≡◌, ℕ, ◌*◌, ◌<◌, true, List, subst, sym, ap, ◌∙◌, ◌+◌, ◌^◌, length, max, arith, pos, ◌+ℤ◌, ◌*ℤ◌, neg_ℤ, ℤ}
use Rattle.vp_poly.specs.declared.mono.Term.{Term}
use Rattle.std.proofs.Math.Nat.{mul-le-mul_right}
use Rattle.vp_poly.specs.Poly.{Powers, coef, norm, degree, IsWithin}
use Rattle.vp_poly.specs.Canonical.{IsWeighed}
use Rattle.vp_poly.specs.Rooms.{IsRoomy}
use Rattle.vp_poly.specs.Product.{split_sum}
use Rattle.vp_poly.specs.Coefficient.{Coefficients, times}
use Rattle.vp_poly.specs.Times.{HasCoefficients, IsTimes, negation}
use Rattle.vp_poly.specs.Weights.{Weights, fits, weight_product, weight_sum}
use Rattle.vp_poly.specs.Lcm.{lcm, Shares}
use Rattle.vp_terms.specs.Rational.{Rational, whole, sum, difference, product as times_q, Equals}
use Rattle.vp_terms.proofs.RationalLaws.{chain, Equals-sum}
use Rattle.vp_poly.specs.Value.{Point, value_at}
use Rattle.vp_poly.proofs.TimesLaws.{IsTimes-same, IsTimes-opposite, IsTimes-turned, IsTimes-product, IsTimes-total, IsTimes-difference, HasCoefficients-product, HasCoefficients-sum, HasCoefficients-difference}
use Rattle.vp_poly.proofs.ProductValues.{whole-product}
use Rattle.vp_poly.proofs.WeighedLaws.{IsUnder-fits, product-small, product-few, product-low, IsWeighed-product, IsRoomy-of, scale-small, IsWeighed-sum}

den_product : (v w : Weights) → fits (weight_product v w) ≡ true → v.den * w.den ≡ (weight_product v w).den
den_product v w f = let u = (IsUnder-fits (weight_product v w) f).den in omega arith

pub coefficients_product : (xs ys zs : List Term) (v w : Weights) (f g : Coefficients) → fits (weight_product v w) ≡ true → ((m : Powers) → coef zs m ≡ split_sum m (λ a b. coef xs a *ℤ coef ys b)) → HasCoefficients v.den xs f → HasCoefficients w.den ys g → HasCoefficients (weight_product v w).den zs (times f g)
coefficients_product xs ys zs v w f g ok c h k =
    subst (λ (d : ℕ). HasCoefficients d zs (times f g)) (den_product v w ok) (HasCoefficients-product v.den w.den xs ys zs f g h k c)

pub ruleset multiplying = (product-small, product-few, product-low, IsWeighed-product, coefficients_product)

den_sum : (v w : Weights) → fits (weight_sum v w) ≡ true → lcm v.den w.den ≡ (weight_sum v w).den
den_sum v w f = let u = (IsUnder-fits (weight_sum v w) f).den in omega arith

joined_coefficients : (a b c x y : ℤ) → a ≡ b +ℤ c → b ≡ x → c ≡ y → a ≡ x +ℤ y
joined_coefficients a b c x y e f g = cc

pub coefficients_sum : (xs ys ls rs zs : List Term) (v w : Weights) (k l : ℕ) (f g : Coefficients) → fits (weight_sum v w) ≡ true → Shares v.den w.den k l →
    ((m : Powers) → coef ls m ≡ pos k *ℤ coef xs m) → ((m : Powers) → coef rs m ≡ pos l *ℤ coef ys m) → ((m : Powers) → coef zs m ≡ coef ls m +ℤ coef rs m) →
    HasCoefficients v.den xs f → HasCoefficients w.den ys g → HasCoefficients (weight_sum v w).den zs (λ m. sum (f m) (g m))
coefficients_sum xs ys ls rs zs v w k l f g ok s cl cr cz h i =
    HasCoefficients-sum k l v.den w.den (weight_sum v w).den xs ys zs f g (s.left_whole ∙ den_sum v w ok) (s.right_whole ∙ den_sum v w ok) h i
    (λ m. joined_coefficients _ _ _ _ _ (cz m) (cl m) (cr m))

pub ruleset adding = (IsRoomy-of, scale-small, IsWeighed-sum, coefficients_sum)

-- ---- the sum as `total` makes it; r is the weight that it found

pub total-small : (xs ys ls rs : List Term) (v w : Weights) (k l : ℕ) → IsWeighed xs v → IsWeighed ys w → IsRoomy v w k l →
    IsWithin ls (norm xs * k) (degree xs) (length xs) → IsWithin rs (norm ys * l) (degree ys) (length ys) → norm ls + norm rs < 2 ^ 126
total-small xs ys ls rs v w k l h g r i j =
    omega (arith, mul-le-mul_right k h.within.norm_le, mul-le-mul_right l g.within.norm_le, i.norm_le, j.norm_le, r.norms)

pub total-weighed : (xs ys ls rs zs : List Term) (v w r : Weights) (k l : ℕ) → r ≡ weight_sum v w → fits (weight_sum v w) ≡ true → IsWeighed xs v → IsWeighed ys w → IsRoomy v w k l →
    IsWithin ls (norm xs * k) (degree xs) (length xs) → IsWithin rs (norm ys * l) (degree ys) (length ys) →
    IsWithin zs (norm ls + norm rs) (max (degree ls) (degree rs)) (length ls + length rs) → IsWeighed zs r
total-weighed xs ys ls rs zs v w r k l e f h g o i j z =
    rw e (IsWeighed-sum xs ys ls rs zs v w k l h g o i j z f)

pub total-coefficients : (xs ys ls rs zs : List Term) (v w r : Weights) (k l : ℕ) → r ≡ weight_sum v w → fits (weight_sum v w) ≡ true → Shares v.den w.den k l →
    ((m : Powers) → coef ls m ≡ pos k *ℤ coef xs m) → ((m : Powers) → coef rs m ≡ pos l *ℤ coef ys m) → ((m : Powers) → coef zs m ≡ coef ls m +ℤ coef rs m) →
    (f g : Coefficients) → HasCoefficients v.den xs f → HasCoefficients w.den ys g → HasCoefficients r.den zs (λ m. sum (f m) (g m))
total-coefficients xs ys ls rs zs v w r k l e ok s cl cr cz f g h i =
    subst (λ (u : Weights). HasCoefficients u.den zs (λ m. sum (f m) (g m))) (sym e) (coefficients_sum xs ys ls rs zs v w k l f g ok s cl cr cz h i)

pub weights_meet : (op : Weights → Weights → Weights) (s x y u v : Weights) → s ≡ op x y → x ≡ u → y ≡ v → s ≡ op u v
weights_meet op s x y u v e f g = e ∙ ap (λ (w : Weights). op w y) f ∙ ap (op u) g

-- ---- values at a point

pub product-values : (xs ys zs : List Term) (v w r : Weights) (a : Point) (q s : Rational) → r ≡ weight_product v w → fits (weight_product v w) ≡ true → Equals (value_at zs a) (times_q (value_at xs a) (value_at ys a)) →
    IsTimes v.den (value_at xs a) q → IsTimes w.den (value_at ys a) s → IsTimes r.den (value_at zs a) (times_q q s)
product-values xs ys zs v w r a q s e ok m h k =
    subst (λ (d : ℕ). IsTimes d (value_at zs a) (times_q q s)) (den_product v w ok ∙ ap (λ (u : Weights). u.den) (sym e))
    (IsTimes-same (v.den * w.den) _ _ _ m (IsTimes-product v.den w.den _ _ q s h k))

pub total-values : (xs ys ls rs zs : List Term) (v w r : Weights) (k l : ℕ) (a : Point) (q s : Rational) → r ≡ weight_sum v w → fits (weight_sum v w) ≡ true → Shares v.den w.den k l →
    Equals (value_at ls a) (times_q (whole (pos k)) (value_at xs a)) → Equals (value_at rs a) (times_q (whole (pos l)) (value_at ys a)) → Equals (value_at zs a) (sum (value_at ls a) (value_at rs a)) →
    IsTimes v.den (value_at xs a) q → IsTimes w.den (value_at ys a) s → IsTimes r.den (value_at zs a) (sum q s)
total-values xs ys ls rs zs v w r k l a q s e ok sh vl vr vz h i =
    let d = den_sum v w ok ∙ ap (λ (u : Weights). u.den) (sym e) in
    IsTimes-same r.den _ _ _ (chain vz (Equals-sum _ _ _ _ vl vr))
    (IsTimes-total k l v.den w.den r.den (value_at xs a) (value_at ys a) q s (sh.left_whole ∙ d) (sh.right_whole ∙ d) h i)

-- ---- the opposite, and the difference as a sum with it

pub opposite-coefficients : (xs zs : List Term) (v r : Weights) (k : ℤ) → r ≡ v → k ≡ neg_ℤ (pos 1) → ((m : Powers) → coef zs m ≡ k *ℤ coef xs m) →
    (f : Coefficients) → HasCoefficients v.den xs f → HasCoefficients r.den zs (λ m. negation (f m))
opposite-coefficients xs zs v r k e n c f h = record {
  each = λ m. IsTimes-same r.den _ _ _ (subst (λ (z : ℤ). Equals (whole z) (times_q (whole k) (whole (coef xs m)))) (sym (c m)) (whole-product k (coef xs m)))
      (IsTimes-opposite v.den r.den k _ _ n (ap (λ (w : Weights). w.den) (sym e)) (h.each m));
}

pub opposite-values : (v r : Weights) (k : ℤ) (x y : Rational) → r ≡ v → k ≡ neg_ℤ (pos 1) → Equals y (times_q (whole k) x) →
    (q : Rational) → IsTimes v.den x q → IsTimes r.den y (negation q)
opposite-values v r k x y e n c q h = IsTimes-same r.den _ _ _ c (IsTimes-opposite v.den r.den k x q n (ap (λ (w : Weights). w.den) (sym e)) h)

pub turned-coefficients : (d : ℕ) (zs : List Term) (f g : Coefficients) → HasCoefficients d zs (λ m. sum (f m) (negation (g m))) → HasCoefficients d zs (λ m. difference (f m) (g m))
turned-coefficients d zs f g h = record { each = λ m. IsTimes-turned d _ _ _ (h.each m) }

-- ---- the difference

pub difference-coefficients : (xs ys ls rs zs : List Term) (v w r : Weights) (k l : ℕ) → r ≡ weight_sum v w → fits (weight_sum v w) ≡ true → Shares v.den w.den k l →
    ((m : Powers) → coef ls m ≡ pos k *ℤ coef xs m) → ((m : Powers) → coef rs m ≡ neg_ℤ (pos l) *ℤ coef ys m) → ((m : Powers) → coef zs m ≡ coef ls m +ℤ coef rs m) →
    (f g : Coefficients) → HasCoefficients v.den xs f → HasCoefficients w.den ys g → HasCoefficients r.den zs (λ m. difference (f m) (g m))
difference-coefficients xs ys ls rs zs v w r k l e ok sh cl cr cz f g h i =
    let d = den_sum v w ok ∙ ap (λ (u : Weights). u.den) (sym e) in
    HasCoefficients-difference k l v.den w.den r.den xs ys zs f g (sh.left_whole ∙ d) (sh.right_whole ∙ d) h i
    (λ m. joined_coefficients _ _ _ _ _ (cz m) (cl m) (cr m))

pub difference-values : (xs ys ls rs zs : List Term) (v w r : Weights) (k l : ℕ) (a : Point) (q s : Rational) → r ≡ weight_sum v w → fits (weight_sum v w) ≡ true → Shares v.den w.den k l →
    Equals (value_at ls a) (times_q (whole (pos k)) (value_at xs a)) → Equals (value_at rs a) (times_q (whole (neg_ℤ (pos l))) (value_at ys a)) → Equals (value_at zs a) (sum (value_at ls a) (value_at rs a)) →
    IsTimes v.den (value_at xs a) q → IsTimes w.den (value_at ys a) s → IsTimes r.den (value_at zs a) (difference q s)
difference-values xs ys ls rs zs v w r k l a q s e ok sh vl vr vz h i =
    let d = den_sum v w ok ∙ ap (λ (u : Weights). u.den) (sym e) in
    IsTimes-same r.den _ _ _ (chain vz (Equals-sum _ _ _ _ vl vr))
    (IsTimes-difference k l v.den w.den r.den (value_at xs a) (value_at ys a) q s (sh.left_whole ∙ d) (sh.right_whole ∙ d) h i)
