-- Laws over the definitions alone.
use Rattle.std.proofs.Common.{◌≡◌, ℕ, zero, suc, ◌+◌, ◌*◌, ◌<◌, ◌≤◌, Bool, true, false, nat_lt, List, [], ◌∷◌, slice_index, refl, sym, ap, ap₂, ◌∙◌, subst, arith, ℤ, pos, negsuc, neg_ℤ, ◌*ℤ◌, not, ◌<ℤ◌}
use Rattle.std.proofs.lemmas.Int.{ints}
use Rattle.std.proofs.lemmas.Bool.Decides.{nat_tests}
use Rattle.std.proofs.Math.Nat.{mul-pos}
use Rattle.std.specs.Ordering.{int_eq}
use Rattle.vp_terms.specs.Rational.{Rational, whole, sum, difference, product, power, Equals}
use Rattle.vp_terms.specs.Meaning.{Assignment, value, compares}
use Rattle.vp_terms.specs.Order.{orders}
use Rattle.vp_terms.specs.declared.formula.Cmp.{Cmp}
use Rattle.vp_terms.specs.declared.formula.Cmp.TheVariants.{Le, Lt, Ge, Gt, Eq, Ne}
use Rattle.vp_terms.specs.declared.expr.Var.{Var}
use Rattle.vp_terms.specs.declared.expr.Expr.{Expr}
use Rattle.vp_terms.specs.declared.expr.Expr.TheVariants.{Num, Var as Variable, Add', Sub', Mul', Pow'}
use Rattle.vp_terms.proofs.RationalLaws.{chain, Equals-refl, Equals-sym, Equals-sum, Equals-product, Equals-power}
use Rattle.vp_terms.proofs.Orders.{same_comparison}
use Rattle.vp_poly.specs.declared.mono.Term.{Term}
use Rattle.vp_poly.specs.Poly.{Powers, coef, IsPoly}
use Rattle.vp_poly.specs.Places.{AreBelow}
use Rattle.vp_poly.specs.Value.{Point, powers_value, value_at}
use Rattle.vp_poly.specs.Coefficient.{Coefficients, coefficients, times, to_power}
use Rattle.vp_poly.specs.Times.{IsTimes}
use Rattle.vp_poly.specs.Weights.{Weights, weight, weight_sum, weight_product, weight_power}
use Rattle.vp_poly.specs.Canonical.{IsCanonical}
use Rattle.vp_poly.specs.Replaced.{replaced}
use Rattle.vp_poly.proofs.Unique.{IsOrdered-unique}
use Rattle.vp_poly.proofs.BelowLaws.{AreBelow-first, AreBelow-tail}

-- ---- a polynomial is known by its coefficients

pub IsPoly-unique : (xs ys : List Term) → IsPoly xs → IsPoly ys → ((m : Powers) → coef xs m ≡ coef ys m) → xs ≡ ys
IsPoly-unique xs ys p q h = IsOrdered-unique xs ys p.ordered q.ordered h

one_right : (z : ℤ) → z *ℤ pos 1 ≡ z
one_right z = omega (arith, ints)

same_whole : (a b : ℤ) → Equals (whole a) (whole b) → a ≡ b
same_whole a b e = sym (one_right a) ∙ e.crossed ∙ one_right b

pub IsCanonical-unique : (d : ℕ) (f : Coefficients) (xs ys : List Term) → IsCanonical d xs f → IsCanonical d ys f → xs ≡ ys
IsCanonical-unique d f xs ys a b =
    IsPoly-unique xs ys a.poly b.poly (λ m. same_whole _ _ (chain (a.coefficients.each m).same (Equals-sym _ _ (b.coefficients.each m).same)))

-- ---- values at equal points

powers_value-same : (k : ℕ) (es : Powers) (x y : Point) → ((i : ℕ) → Equals (x i) (y i)) → Equals (powers_value k es x) (powers_value k es y)
powers_value-same k [] x y h = Equals-refl (whole (pos 1))
powers_value-same k (e ∷ es) x y h = Equals-product _ _ _ _ (Equals-power (x k) (y k) e (h k)) (powers_value-same (suc k) es x y h)

pub value_at-same : (ts : List Term) (x y : Point) → ((k : ℕ) → Equals (x k) (y k)) → Equals (value_at ts x) (value_at ts y)
value_at-same [] x y h = Equals-refl (whole (pos 0))
value_at-same (t ∷ ts) x y h =
    Equals-sum _ _ _ _ (Equals-product _ _ _ _ (Equals-refl (whole t.coef)) (powers_value-same 0 t.mono.powers x y h)) (value_at-same ts x y h)

-- a place with the exponent 0 doesn't count
powers_value-below : (k v : ℕ) (es : Powers) (x y : Point) → ((i : ℕ) → v ≤ k + i → slice_index es i ≡ 0) → ((i : ℕ) → i < v → Equals (x i) (y i)) → Equals (powers_value k es x) (powers_value k es y)
powers_value-below k v [] x y z h = Equals-refl (whole (pos 1))
powers_value-below k v (e ∷ es) x y z h = case (nat_lt k v) refl (powers_value-below (suc k) v es x y (λ i le. z (suc i) (omega arith)) h)
  where
    case : (b : Bool) → nat_lt k v ≡ b → Equals (powers_value (suc k) es x) (powers_value (suc k) es y) → Equals (product (power (x k) e) (powers_value (suc k) es x)) (product (power (y k) e) (powers_value (suc k) es y))
    case true t rest = let lt : k < v = grind (arith, nat_tests) in Equals-product _ _ _ _ (Equals-power (x k) (y k) e (h k lt)) rest
    case false t rest =
        let le : v ≤ k + 0 = grind (arith, nat_tests) in
        let none : e ≡ 0 = z 0 le in
        subst (λ (n : ℕ). Equals (product (power (x k) n) (powers_value (suc k) es x)) (product (power (y k) n) (powers_value (suc k) es y))) (sym none)
        (Equals-product _ _ _ _ (Equals-refl (whole (pos 1))) rest)

pub value_at-below : (v : ℕ) (ts : List Term) (x y : Point) → AreBelow v ts → ((k : ℕ) → k < v → Equals (x k) (y k)) → Equals (value_at ts x) (value_at ts y)
value_at-below v [] x y b h = Equals-refl (whole (pos 0))
value_at-below v (t ∷ ts) x y b h =
    let low = AreBelow-first v t ts b in
    let zero_plus : (i : ℕ) → 0 + i ≡ i = λ i. omega arith in
    Equals-sum _ _ _ _ (Equals-product _ _ _ _ (Equals-refl (whole t.coef)) (powers_value-below 0 v t.mono.powers x y (λ i le. low.none i (omega (arith, zero_plus i))) h)) (value_at-below v ts x y (AreBelow-tail v t ts b) h)

-- ---- a positive multiple has the sign

positive_same : (z w : ℤ) → pos 0 <ℤ z → pos 0 <ℤ w → int_eq z (pos 0) ≡ int_eq w (pos 0)
positive_same z w h k = grind (arith, ints)

positive_signs : (c : Cmp) (z w : ℤ) → pos 0 <ℤ z → pos 0 <ℤ w → orders c z (pos 0) ≡ orders c w (pos 0)
positive_signs Le z w h k = grind (arith, ints)
positive_signs Lt z w h k = grind (arith, ints)
positive_signs Ge z w h k = grind (arith, ints)
positive_signs Gt z w h k = grind (arith, ints)
positive_signs Eq z w h k = positive_same z w h k
positive_signs Ne z w h k = ap not (positive_same z w h k)

negative_same : (z w : ℤ) → z <ℤ pos 0 → w <ℤ pos 0 → int_eq z (pos 0) ≡ int_eq w (pos 0)
negative_same z w h k = grind (arith, ints)

negative_signs : (c : Cmp) (z w : ℤ) → z <ℤ pos 0 → w <ℤ pos 0 → orders c z (pos 0) ≡ orders c w (pos 0)
negative_signs Le z w h k = grind (arith, ints)
negative_signs Lt z w h k = grind (arith, ints)
negative_signs Ge z w h k = grind (arith, ints)
negative_signs Gt z w h k = grind (arith, ints)
negative_signs Eq z w h k = negative_same z w h k
negative_signs Ne z w h k = ap not (negative_same z w h k)

multiple_signs : (c : Cmp) (d : ℕ) (n : ℤ) → 0 < d → orders c (pos d *ℤ n) (pos 0) ≡ orders c n (pos 0)
multiple_signs c d (pos zero) h = let e : d * 0 ≡ 0 = omega arith in ap (λ (k : ℕ). orders c (pos k) (pos 0)) e
multiple_signs c d (pos (suc n)) h =
    let some : 0 < d * suc n = mul-pos h (omega arith) in
    positive_signs c (pos (d * suc n)) (pos (suc n)) (omega (arith, ints)) (omega (arith, ints))
multiple_signs c d (negsuc n) h =
    let some : 0 < d * suc n = mul-pos h (omega arith) in
    negative_signs c (neg_ℤ (pos (d * suc n))) (negsuc n) (omega (arith, ints)) (omega (arith, ints))

with_zero : (c : Cmp) (q : Rational) → compares c q (whole (pos 0)) ≡ orders c q.num (pos 0)
with_zero c q = ap₂ (orders c) (one_right q.num) (none q.den)
  where
    none : (n : ℕ) → pos 0 *ℤ pos n ≡ pos 0
    none n = omega (arith, ints)

pub IsTimes-sign : (c : Cmp) (d : ℕ) (v q : Rational) → 0 < d → IsTimes d v q → compares c v (whole (pos 0)) ≡ compares c q (whole (pos 0))
IsTimes-sign c d v q h i =
    same_comparison c v (product (whole (pos d)) q) (whole (pos 0)) (whole (pos 0)) i.same (Equals-refl (whole (pos 0)))
    ∙ with_zero c (product (whole (pos d)) q) ∙ multiple_signs c d q.num h ∙ sym (with_zero c q)

-- ---- replaced variables

pub coefficients-replaced : (f : Var → Coefficients) (s : Var → Expr) (e : Expr) → coefficients f (replaced s e) ≡ coefficients (λ v. coefficients f (s v)) e
coefficients-replaced f s (Num r) = refl
coefficients-replaced f s (Variable v) = refl
coefficients-replaced f s (Add' p e q g) = ap₂ (λ (a b : Coefficients). λ m. sum (a m) (b m)) (coefficients-replaced f s e) (coefficients-replaced f s g)
coefficients-replaced f s (Sub' p e q g) = ap₂ (λ (a b : Coefficients). λ m. difference (a m) (b m)) (coefficients-replaced f s e) (coefficients-replaced f s g)
coefficients-replaced f s (Mul' p e q g) = ap₂ times (coefficients-replaced f s e) (coefficients-replaced f s g)
coefficients-replaced f s (Pow' p e n) = ap (λ (a : Coefficients). to_power a n) (coefficients-replaced f s e)

pub value-replaced : (a : Assignment) (s : Var → Expr) (e : Expr) → value (replaced s e) a ≡ value e (λ v. value (s v) a)
value-replaced a s (Num r) = refl
value-replaced a s (Variable v) = refl
value-replaced a s (Add' p e q g) = ap₂ sum (value-replaced a s e) (value-replaced a s g)
value-replaced a s (Sub' p e q g) = ap₂ difference (value-replaced a s e) (value-replaced a s g)
value-replaced a s (Mul' p e q g) = ap₂ product (value-replaced a s e) (value-replaced a s g)
value-replaced a s (Pow' p e n) = ap (λ (v : Rational). power v n) (value-replaced a s e)

pub weight-replaced : (w : Var → Weights) (s : Var → Expr) (e : Expr) → weight w (replaced s e) ≡ weight (λ v. weight w (s v)) e
weight-replaced w s (Num r) = refl
weight-replaced w s (Variable v) = refl
weight-replaced w s (Add' p e q g) = ap₂ weight_sum (weight-replaced w s e) (weight-replaced w s g)
weight-replaced w s (Sub' p e q g) = ap₂ weight_sum (weight-replaced w s e) (weight-replaced w s g)
weight-replaced w s (Mul' p e q g) = ap₂ weight_product (weight-replaced w s e) (weight-replaced w s g)
weight-replaced w s (Pow' p e n) = ap (λ (v : Weights). weight_power v n) (weight-replaced w s e)
