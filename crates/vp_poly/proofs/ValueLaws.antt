-- Values of polynomials.
use Rattle.std.proofs.Common.{◌≡◌, ℕ, ◌*◌, Bool, true, false, List, [], ◌∷◌, Some, None, refl, sym, ap, subst, arith, ℤ, pos, negsuc, ◌+ℤ◌, ◌*ℤ◌, if◌then◌else◌}
use Rattle.std.specs.declared.cmp.Ordering.{Ordering}
use Rattle.std.specs.declared.cmp.Ordering.TheVariants.{Less, Equal, Greater}
use Rattle.std.specs.Ordering.{int_eq}
use Rattle.vp_terms.specs.Rational.{Rational, whole, sum, product, Equals}
use Rattle.vp_terms.proofs.Gaps.{gap-of, gap-same, gaps}
use Rattle.vp_terms.proofs.RationalLaws.{chain, Equals-refl, Equals-sym, Equals-sum, sum-assoc, sum-comm, sum-interchange, sum-zero, sum-no_product, product-whole_sum}
use Rattle.vp_poly.specs.declared.mono.Term.{Term}
use Rattle.vp_poly.specs.Poly.{mono_cmp, scaled}
use Rattle.vp_poly.specs.Merge.{by_order, joined, with_first, merged_from, merged}
use Rattle.vp_poly.proofs.MergeLaws.{int_eq_same}
use Rattle.vp_poly.proofs.PolyLaws.{same_powers}
use Rattle.vp_poly.specs.Value.{Point, powers_value, value_at}

-- the negated number, over the same denominator
pub record IsNegated (q r : Rational) : Type 0 where
  pub num : r.num ≡ negsuc 0 *ℤ q.num
  pub den : r.den ≡ q.den

turned : (c n m : ℤ) (d e : ℕ) → ((negsuc 0 *ℤ c) *ℤ n) *ℤ pos d +ℤ (negsuc 0 *ℤ m) *ℤ pos e ≡ negsuc 0 *ℤ ((c *ℤ n) *ℤ pos d +ℤ m *ℤ pos e)
turned c n m d e = rw (gap-of c, gap-of n, gap-of m, gap-of (negsuc 0)) (simp gaps (gap-same _ _ _ _ (omega arith)))

negated_sum : (c n m m' : ℤ) (d d' e : ℕ) → m' ≡ negsuc 0 *ℤ m → d' ≡ d → ((negsuc 0 *ℤ c) *ℤ n) *ℤ pos d' +ℤ m' *ℤ pos e ≡ negsuc 0 *ℤ ((c *ℤ n) *ℤ pos d +ℤ m *ℤ pos e)
negated_sum c n m m' d d' e f g = rw (f, g) (turned c n m d e)

pub value_at-negated : (ts : List Term) (a : Point) → IsNegated (value_at ts a) (value_at (scaled (negsuc 0) ts) a)
value_at-negated [] a = record { num = refl; den = refl }
value_at-negated (t ∷ ts) a =
    let rest = value_at-negated ts a in
    let q = powers_value 0 t.mono.powers a in
    let r = value_at ts a in
    let s = value_at (scaled (negsuc 0) ts) a in
    record { num = negated_sum t.coef q.num r.num s.num r.den s.den (1 * q.den) rest.num rest.den; den = ap (λ (d : ℕ). 1 * q.den * d) rest.den }

-- ---- the value of a merge

value_at-joined : (x y : Term) (ts : List Term) (a : Point) → Equals (value_at (with_first (joined x y) ts) a) (sum (product (whole (x.coef +ℤ y.coef)) (powers_value 0 x.mono.powers a)) (value_at ts a))
value_at-joined x y ts a = case (int_eq (x.coef +ℤ y.coef) (pos 0)) refl
  where
    case : (b : Bool) → int_eq (x.coef +ℤ y.coef) (pos 0) ≡ b → Equals (value_at (with_first (if b then None else Some (record { mono = x.mono; coef = x.coef +ℤ y.coef })) ts) a) (sum (product (whole (x.coef +ℤ y.coef)) (powers_value 0 x.mono.powers a)) (value_at ts a))
    case true e = sum-no_product (x.coef +ℤ y.coef) (powers_value 0 x.mono.powers a) (value_at ts a) (int_eq_same _ _ e)
    case false e = Equals-refl (sum (product (whole (x.coef +ℤ y.coef)) (powers_value 0 x.mono.powers a)) (value_at ts a))

abbrev pub term_value : Term → Point → Rational
term_value t a = product (whole t.coef) (powers_value 0 t.mono.powers a)

value_at-merged_from : (x : Term) (rest : List Term → List Term) (a : Point) (c : Rational) → ((zs : List Term) → Equals (value_at (rest zs) a) (sum c (value_at zs a))) → (ys : List Term) → Equals (value_at (merged_from x rest ys) a) (sum (sum (term_value x a) c) (value_at ys a))
value_at-merged_from x rest a c h [] =
    chain (Equals-sum _ _ _ _ (Equals-refl (term_value x a)) (h [])) (Equals-sym _ _ (sum-assoc (term_value x a) c (whole (pos 0))))
value_at-merged_from x rest a c h (y ∷ ys) = case (value_at-merged_from x rest a c h ys) (mono_cmp x.mono y.mono) refl
  where
    case : Equals (value_at (merged_from x rest ys) a) (sum (sum (term_value x a) c) (value_at ys a)) → (o : Ordering) → mono_cmp x.mono y.mono ≡ o → Equals (value_at (by_order o (x ∷ rest (y ∷ ys)) (with_first (joined x y) (rest ys)) (y ∷ merged_from x rest ys)) a) (sum (sum (term_value x a) c) (value_at (y ∷ ys) a))
    case more Less e =
        chain (Equals-sum _ _ _ _ (Equals-refl (term_value x a)) (h (y ∷ ys))) (Equals-sym _ _ (sum-assoc (term_value x a) c (value_at (y ∷ ys) a)))
    case more Equal e =
        let same = ap (λ (l : List ℕ). product (whole y.coef) (powers_value 0 l a)) (sym (same_powers x.mono y.mono e)) in
        let split = product-whole_sum x.coef y.coef (powers_value 0 x.mono.powers a) in
        let split' = subst (λ (v : Rational). Equals (product (whole (x.coef +ℤ y.coef)) (powers_value 0 x.mono.powers a)) (sum (term_value x a) v)) same split in
        chain (value_at-joined x y (rest ys) a)
        (chain (Equals-sum _ _ _ _ split' (h ys)) (sum-interchange (term_value x a) (term_value y a) c (value_at ys a)))
    case more Greater e =
        chain (Equals-sum _ _ _ _ (Equals-refl (term_value y a)) more)
        (chain (Equals-sym _ _ (sum-assoc (term_value y a) (sum (term_value x a) c) (value_at ys a)))
        (chain (Equals-sum _ _ _ _ (sum-comm (term_value y a) (sum (term_value x a) c)) (Equals-refl (value_at ys a)))
        (sum-assoc (sum (term_value x a) c) (term_value y a) (value_at ys a))))

-- the value of the sum is the sum of the values
pub value_at-merged : (xs ys : List Term) (a : Point) → Equals (value_at (merged xs ys) a) (sum (value_at xs a) (value_at ys a))
value_at-merged [] ys a = chain (sum-zero (value_at ys a)) (sum-comm (value_at ys a) (whole (pos 0)))
value_at-merged (x ∷ xs) ys a = value_at-merged_from x (merged xs) a (value_at xs a) (λ zs. value_at-merged xs zs a) ys
