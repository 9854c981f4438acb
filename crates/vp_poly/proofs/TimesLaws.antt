-- Laws of whole multiples.
use Rattle.std.proofs.Common.{◌≡◌, ℕ, zero, suc, ◌-◌, ◌*◌, Bool, true, false, cond, ◌==◌, List, [], ◌∷◌, ap, sym, subst, arith, ℤ, pos, ◌+ℤ◌, ◌-ℤ◌, ◌*ℤ◌, neg_ℤ}
use Rattle.vp_terms.specs.Rational.{Rational, whole, sum, difference, product, Equals}
use Rattle.vp_terms.proofs.Gaps.{gap-of, gap-same, gaps}
use Rattle.vp_terms.proofs.RationalLaws.{chain, Equals-refl, Equals-sym, Equals-sum, Equals-product, product-distributes}
use Rattle.vp_poly.specs.declared.mono.Term.{Term}
use Rattle.vp_poly.specs.Poly.{Powers, only_at, coef}
use Rattle.vp_poly.specs.Product.{sum_to, over_splits, split_sum}
use Rattle.vp_poly.proofs.SplitLaws.{int_sum}
use Rattle.vp_poly.proofs.ProductValues.{product-interchange, product-one, product-assoc, whole-product}
use Rattle.vp_poly.specs.Coefficient.{Coefficients, fraction_at, times}
use Rattle.vp_poly.specs.Times.{IsTimes, HasCoefficients, negation}

pub IsTimes-same : (d : ℕ) (v w q : Rational) → Equals v w → IsTimes d w q → IsTimes d v q
IsTimes-same d v w q e h = record { same = chain e h.same }

pub IsTimes-sum : (d : ℕ) (v w q r : Rational) → IsTimes d v q → IsTimes d w r → IsTimes d (sum v w) (sum q r)
IsTimes-sum d v w q r h k = record { same = chain (Equals-sum _ _ _ _ h.same k.same) (Equals-sym _ _ (product-distributes (whole (pos d)) q r)) }

pub IsTimes-product : (d e : ℕ) (v w q r : Rational) → IsTimes d v q → IsTimes e w r → IsTimes (d * e) (product v w) (product q r)
IsTimes-product d e v w q r h k = record {
  same =
      chain (Equals-product _ _ _ _ h.same k.same)
      (chain (product-interchange (whole (pos d)) q (whole (pos e)) r) (Equals-product _ _ _ _ (Equals-sym _ _ (whole-product (pos d) (pos e))) (Equals-refl (product q r))));
}

pub IsTimes-scaled : (k d : ℕ) (v q : Rational) → IsTimes d v q → IsTimes (k * d) (product (whole (pos k)) v) q
IsTimes-scaled k d v q h = record {
  same =
      chain (Equals-product _ _ _ _ (Equals-refl (whole (pos k))) h.same)
      (chain (Equals-sym _ _ (product-assoc (whole (pos k)) (whole (pos d)) q)) (Equals-product _ _ _ _ (Equals-sym _ _ (whole-product (pos k) (pos d))) (Equals-refl q)));
}

minus : (a b z : ℤ) (i j : ℕ) → ((z *ℤ a) *ℤ pos (1 * j) +ℤ (neg_ℤ z *ℤ b) *ℤ pos (1 * i)) *ℤ pos (1 * (i * j)) ≡ (z *ℤ (a *ℤ pos j -ℤ b *ℤ pos i)) *ℤ pos ((1 * i) * (1 * j))
minus a b z i j = rw (gap-of a, gap-of b, gap-of z) (simp gaps (gap-same _ _ _ _ (omega arith)))

difference-distributes : (d : ℕ) (q r : Rational) → Equals (sum (product (whole (pos d)) q) (product (whole (neg_ℤ (pos d))) r)) (product (whole (pos d)) (difference q r))
difference-distributes d q r = record { crossed = minus q.num r.num (pos d) q.den r.den }

neg_mul : (z w : ℤ) → neg_ℤ z *ℤ w ≡ neg_ℤ (z *ℤ w)
neg_mul z w = rw (gap-of z, gap-of w) (simp gaps (gap-same _ _ _ _ (omega arith)))

neg_times : (l e : ℕ) → neg_ℤ (pos l) *ℤ pos e ≡ neg_ℤ (pos (l * e))
neg_times l e = neg_mul (pos l) (pos e)

negated-scaled : (l e : ℕ) (w r : Rational) → IsTimes e w r → Equals (product (whole (neg_ℤ (pos l))) w) (product (whole (neg_ℤ (pos (l * e)))) r)
negated-scaled l e w r h =
    chain (Equals-product _ _ _ _ (Equals-refl (whole (neg_ℤ (pos l)))) h.same)
    (chain (Equals-sym _ _ (product-assoc (whole (neg_ℤ (pos l))) (whole (pos e)) r))
    (Equals-product _ _ _ _ (subst (λ (z : ℤ). Equals (product (whole (neg_ℤ (pos l))) (whole (pos e))) (whole z)) (neg_times l e) (Equals-sym _ _ (whole-product (neg_ℤ (pos l)) (pos e)))) (Equals-refl r)))

-- both brought to one denominator
pub IsTimes-total : (k l a b d : ℕ) (v w q r : Rational) → k * a ≡ d → l * b ≡ d → IsTimes a v q → IsTimes b w r → IsTimes d (sum (product (whole (pos k)) v) (product (whole (pos l)) w)) (sum q r)
IsTimes-total k l a b d v w q r e f h g =
    let left = subst (λ (n : ℕ). IsTimes n (product (whole (pos k)) v) q) e (IsTimes-scaled k a v q h) in
    let right = subst (λ (n : ℕ). IsTimes n (product (whole (pos l)) w) r) f (IsTimes-scaled l b w r g) in
    IsTimes-sum d _ _ q r left right

pub IsTimes-difference : (k l a b d : ℕ) (v w q r : Rational) → k * a ≡ d → l * b ≡ d → IsTimes a v q → IsTimes b w r → IsTimes d (sum (product (whole (pos k)) v) (product (whole (neg_ℤ (pos l))) w)) (difference q r)
IsTimes-difference k l a b d v w q r e f h g =
    let left = subst (λ (n : ℕ). IsTimes n (product (whole (pos k)) v) q) e (IsTimes-scaled k a v q h) in
    let right = subst (λ (n : ℕ). Equals (product (whole (neg_ℤ (pos l))) w) (product (whole (neg_ℤ (pos n))) r)) f (negated-scaled l b w r g) in
    record { same = chain (Equals-sum _ _ _ _ left.same right) (difference-distributes d q r) }

-- ---- a difference as a sum with the opposite

pub IsTimes-opposite : (d e : ℕ) (k : ℤ) (v q : Rational) → k ≡ neg_ℤ (pos 1) → d ≡ e → IsTimes d v q → IsTimes e (product (whole k) v) (negation q)
IsTimes-opposite d e k v q f g h =
    let one : ℕ = 1 in
    let own : IsTimes 1 (whole k) (whole (neg_ℤ (pos 1))) = record { same = subst (λ (z : ℤ). Equals (whole z) (product (whole (pos 1)) (whole (neg_ℤ (pos 1))))) (sym f) (product-one (whole (neg_ℤ (pos 1)))) } in
    subst (λ (n : ℕ). IsTimes n (product (whole k) v) (negation q)) (let a : 1 * d ≡ e = omega arith in a) (IsTimes-product 1 d (whole k) v (whole (neg_ℤ (pos 1))) q own h)

opposite-difference : (q r : Rational) → Equals (sum q (negation r)) (difference q r)
opposite-difference q r =
    chain (Equals-sum _ _ _ _ (product-one q) (Equals-refl (negation r)))
    (chain (difference-distributes 1 q r) (Equals-sym _ _ (product-one (difference q r))))

pub IsTimes-turned : (d : ℕ) (v q r : Rational) → IsTimes d v (sum q (negation r)) → IsTimes d v (difference q r)
IsTimes-turned d v q r h = record { same = chain h.same (Equals-product _ _ _ _ (Equals-refl (whole (pos d))) (opposite-difference q r)) }

-- ---- coefficients

whole_sum : (a b : ℤ) → (a +ℤ b) *ℤ pos (1 * 1) ≡ (a *ℤ pos 1 +ℤ b *ℤ pos 1) *ℤ pos 1
whole_sum a b = rw (gap-of a, gap-of b) (simp gaps (gap-same _ _ _ _ (omega arith)))

pub whole-sum : (a b : ℤ) → Equals (whole (a +ℤ b)) (sum (whole a) (whole b))
whole-sum a b = record { crossed = whole_sum a b }

int_sum-times : (d n : ℕ) (f : ℕ → ℤ) (g : ℕ → Rational) → ((i : ℕ) → IsTimes d (whole (f i)) (g i)) → IsTimes d (whole (int_sum n f)) (sum_to sum n g)
int_sum-times d zero f g h = h 0
int_sum-times d (suc n) f g h =
    IsTimes-same d _ _ _ (whole-sum (int_sum n f) (f (suc n))) (IsTimes-sum d _ _ _ _ (int_sum-times d n f g h) (h (suc n)))

pub split_sum-times : (d : ℕ) (m : Powers) (f : Powers → Powers → ℤ) (g : Powers → Powers → Rational) → ((a b : Powers) → IsTimes d (whole (f a b)) (g a b)) → IsTimes d (whole (split_sum m f)) (over_splits sum m g)
split_sum-times d [] f g h = h [] []
split_sum-times d (e ∷ es) f g h =
    int_sum-times d e (λ i. split_sum es (λ a b. f (i ∷ a) ((e - i) ∷ b))) (λ i. over_splits sum es (λ a b. g (i ∷ a) ((e - i) ∷ b)))
    (λ i. split_sum-times d es (λ a b. f (i ∷ a) ((e - i) ∷ b)) (λ a b. g (i ∷ a) ((e - i) ∷ b)) (λ a b. h (i ∷ a) ((e - i) ∷ b)))

pub HasCoefficients-product : (d e : ℕ) (xs ys zs : List Term) (f g : Coefficients) → HasCoefficients d xs f → HasCoefficients e ys g → ((m : Powers) → coef zs m ≡ split_sum m (λ a b. coef xs a *ℤ coef ys b)) → HasCoefficients (d * e) zs (times f g)
HasCoefficients-product d e xs ys zs f g h k c = record {
  each = λ m.
      rw (c m) (split_sum-times (d * e) m (λ a b. coef xs a *ℤ coef ys b) (λ a b. product (f a) (g b))
      (λ a b. IsTimes-same (d * e) _ _ _ (whole-product (coef xs a) (coef ys b)) (IsTimes-product d e _ _ _ _ (h.each a) (k.each b))));
}

pub HasCoefficients-sum : (k l a b d : ℕ) (xs ys zs : List Term) (f g : Coefficients) → k * a ≡ d → l * b ≡ d → HasCoefficients a xs f → HasCoefficients b ys g → ((m : Powers) → coef zs m ≡ pos k *ℤ coef xs m +ℤ pos l *ℤ coef ys m) → HasCoefficients d zs (λ m. sum (f m) (g m))
HasCoefficients-sum k l a b d xs ys zs f g e e' h h' c = record {
  each = λ m.
      rw (c m) (IsTimes-same d _ _ _
      (chain (whole-sum (pos k *ℤ coef xs m) (pos l *ℤ coef ys m)) (Equals-sum _ _ _ _ (whole-product (pos k) (coef xs m)) (whole-product (pos l) (coef ys m))))
      (IsTimes-total k l a b d (whole (coef xs m)) (whole (coef ys m)) (f m) (g m) e e' (h.each m) (h'.each m)));
}

pub HasCoefficients-difference : (k l a b d : ℕ) (xs ys zs : List Term) (f g : Coefficients) → k * a ≡ d → l * b ≡ d → HasCoefficients a xs f → HasCoefficients b ys g → ((m : Powers) → coef zs m ≡ pos k *ℤ coef xs m +ℤ neg_ℤ (pos l) *ℤ coef ys m) → HasCoefficients d zs (λ m. difference (f m) (g m))
HasCoefficients-difference k l a b d xs ys zs f g e e' h h' c = record {
  each = λ m.
      rw (c m) (IsTimes-same d _ _ _
      (chain (whole-sum (pos k *ℤ coef xs m) (neg_ℤ (pos l) *ℤ coef ys m)) (Equals-sum _ _ _ _ (whole-product (pos k) (coef xs m)) (whole-product (neg_ℤ (pos l)) (coef ys m))))
      (IsTimes-difference k l a b d (whole (coef xs m)) (whole (coef ys m)) (f m) (g m) e e' (h.each m) (h'.each m)));
}

-- ---- the same for the laws

pub coefficients-sum : (d : ℕ) (xs ys zs : List Term) (f g : Coefficients) → HasCoefficients d xs f → HasCoefficients d ys g → ((m : Powers) → coef zs m ≡ coef xs m +ℤ coef ys m) → HasCoefficients d zs (λ m. sum (f m) (g m))
coefficients-sum d xs ys zs f g h k c = record {
  each = λ m.
      rw (c m) (IsTimes-same d _ _ _ (whole-sum (coef xs m) (coef ys m)) (IsTimes-sum d _ _ (f m) (g m) (h.each m) (k.each m)));
}

pub coefficients-multiple : (k d : ℕ) (xs zs : List Term) (f : Coefficients) → HasCoefficients d xs f → ((m : Powers) → coef zs m ≡ pos k *ℤ coef xs m) → HasCoefficients (k * d) zs f
coefficients-multiple k d xs zs f h c = record {
  each = λ m.
      rw (c m) (IsTimes-same (k * d) _ _ _ (whole-product (pos k) (coef xs m)) (IsTimes-scaled k d _ (f m) (h.each m)));
}

pub coefficients-product : (d e : ℕ) (xs ys zs : List Term) (f g : Coefficients) → HasCoefficients d xs f → HasCoefficients e ys g → ((m : Powers) → coef zs m ≡ split_sum m (λ a b. coef xs a *ℤ coef ys b)) → HasCoefficients (d * e) zs (times f g)
coefficients-product d e xs ys zs f g h k c = HasCoefficients-product d e xs ys zs f g h k c

none_times : (d : ℕ) → pos 0 *ℤ pos (1 * 1) ≡ (pos d *ℤ pos 0) *ℤ pos 1
none_times d = let e : 0 ≡ d * 0 * 1 = omega arith in ap pos e

one_part : (n : ℤ) (d : ℕ) → n *ℤ pos (1 * d) ≡ (pos d *ℤ n) *ℤ pos 1
one_part n d = rw (gap-of n) (simp gaps (gap-same _ _ _ _ (omega arith)))

-- d times n over d
pub IsTimes-fraction : (d : ℕ) (q : Rational) → q.den ≡ d → IsTimes d (whole q.num) q
IsTimes-fraction d q e = subst (λ (k : ℕ). IsTimes k (whole q.num) q) e (record { same = record { crossed = one_part q.num q.den } })

pub IsTimes-only_at : (d : ℕ) (p m : Powers) (n : ℤ) (q : Rational) → IsTimes d (whole n) q → IsTimes d (whole (only_at p m n)) (fraction_at p m q)
IsTimes-only_at d [] [] n q h = h
IsTimes-only_at d [] (y ∷ ys) n q h = record { same = record { crossed = none_times d } }
IsTimes-only_at d (x ∷ xs) [] n q h = record { same = record { crossed = none_times d } }
IsTimes-only_at d (x ∷ xs) (y ∷ ys) n q h = case (x == y) (IsTimes-only_at d xs ys n q h)
  where
    case : (v : Bool) → IsTimes d (whole (only_at xs ys n)) (fraction_at xs ys q) → IsTimes d (whole (cond v (only_at xs ys n) (pos 0))) (cond v (fraction_at xs ys q) (whole (pos 0)))
    case true r = r
    case false r = record { same = record { crossed = none_times d } }

pub ruleset timing = (HasCoefficients-product, HasCoefficients-sum, HasCoefficients-difference)
