-- What dividing both parts by their greatest common divisor gives.
use Rattle.std.proofs.Common.{◌≡◌, ℕ, suc, ◌*◌, ◌/◌, ◌^◌, ◌<◌, ℤ, pos, negsuc, neg_ℤ, ◌*ℤ◌, ◌<ℤ◌, unsigned_abs, arith, refl, sym, ◌∙◌, ap, subst}
use Rattle.std.proofs.lemmas.Int.{ints, unsigned_abs-mul, fits_signed_from_abs}
use Rattle.std.proofs.Math.Nat.{div-mul_cancel, mul_assoc, mul_comm}
use Rattle.std.specs.Int.{IsGcd, w128}
use Rattle.std.specs.Prelude.{FitsSigned}
use Rattle.vp_terms.specs.Lowest.{IsLowest, with_sign_of}
use Rattle.vp_terms.specs.Ratios.{IsQuotient}
use Rattle.vp_terms.specs.declared.ratio.Ratio.{Ratio}
use Rattle.vp_terms.proofs.Gaps.{gap-of, gap-same, gaps}
use Rattle.vp_terms.proofs.Lowest.{parts_coprime, divisor_positive, same_as_left, quotient_positive}

size_of : (z : ℤ) (n : ℕ) → unsigned_abs (with_sign_of z n) ≡ n
size_of (pos m) n = refl
size_of (negsuc m) n = omega (arith, ints)

size_positive : (z : ℤ) → pos 0 <ℤ z → 0 < unsigned_abs z
size_positive z h = omega (arith, ints)

keeps_positive : (z : ℤ) (n : ℕ) → pos 0 <ℤ z → 0 < n → pos 0 <ℤ with_sign_of z n
keeps_positive (pos m) n h k = omega (arith, ints)
keeps_positive (negsuc m) n h k = absurd (omega (arith, ints))

pub lowest_parts : (z d : ℤ) (g : ℕ) → pos 0 <ℤ d → IsGcd (unsigned_abs z) (unsigned_abs d) g → unsigned_abs z / g < 2 ^ 62 → unsigned_abs d / g < 2 ^ 62 → IsLowest (with_sign_of z (unsigned_abs z / g)) (with_sign_of d (unsigned_abs d / g))
lowest_parts z d g h c p q =
    let k = size_positive d h in
    let gp = divisor_positive (unsigned_abs z) (unsigned_abs d) g k c in
    record {
      positive = keeps_positive d (unsigned_abs d / g) h (quotient_positive (unsigned_abs d) g k c.1);
      num_small = rw (size_of z (unsigned_abs z / g)) p;
      den_small = rw (size_of d (unsigned_abs d / g)) q;
      coprime = rw (size_of z (unsigned_abs z / g), size_of d (unsigned_abs d / g)) (parts_coprime (unsigned_abs z) (unsigned_abs d) g gp c);
    }

crossed : (a b g : ℕ) → a / g * g ≡ a → b / g * g ≡ b → a / g * b ≡ a * (b / g)
crossed a b g p q =
    ap (λ (n : ℕ). a / g * n) (sym q) ∙ ap (λ (n : ℕ). a / g * n) (mul_comm (b / g) g) ∙ sym (mul_assoc (a / g) g (b / g)) ∙ ap (λ (n : ℕ). n * (b / g)) p

neg_left : (x y : ℤ) → neg_ℤ x *ℤ y ≡ neg_ℤ (x *ℤ y)
neg_left x y = rw (gap-of x, gap-of y) (simp gaps (gap-same _ _ _ _ (omega arith)))

negatives : (n e s k : ℕ) → n * e ≡ s * k → neg_ℤ (pos n) *ℤ pos e ≡ neg_ℤ (pos s) *ℤ pos k
negatives n e s k p = neg_left (pos n) (pos e) ∙ ap neg_ℤ (ap pos p) ∙ sym (neg_left (pos s) (pos k))

signs : (z d : ℤ) (n k : ℕ) → pos 0 <ℤ d → n * unsigned_abs d ≡ unsigned_abs z * k → with_sign_of z n *ℤ d ≡ z *ℤ with_sign_of d k
signs (pos m) (pos e) n k h p = omega (arith, ints)
signs (negsuc m) (pos e) n k h p = negatives n e (suc m) k p
signs z (negsuc e) n k h p = absurd (omega (arith, ints))

pub same_value : (z d : ℤ) (g : ℕ) → pos 0 <ℤ d → IsGcd (unsigned_abs z) (unsigned_abs d) g → with_sign_of z (unsigned_abs z / g) *ℤ d ≡ z *ℤ with_sign_of d (unsigned_abs d / g)
same_value z d g h c =
    signs z d (unsigned_abs z / g) (unsigned_abs d / g) h (crossed (unsigned_abs z) (unsigned_abs d) g (div-mul_cancel g c.0) (div-mul_cancel g c.1))

-- a fraction in lowest terms of that value has just these parts, so they are small
pub small_parts : (z d : ℤ) (g : ℕ) (r : Ratio) → pos 0 <ℤ d → IsGcd (unsigned_abs z) (unsigned_abs d) g → IsQuotient z d r → (unsigned_abs z / g < 2 ^ 62) × (unsigned_abs d / g < 2 ^ 62)
small_parts z d g r h c e =
    let sizes : unsigned_abs r.num * unsigned_abs d ≡ unsigned_abs z * unsigned_abs r.den =
    sym (unsigned_abs-mul r.num d) ∙ ap unsigned_abs e ∙ unsigned_abs-mul z r.den in
    let s =
    same_as_left
    (unsigned_abs r.num)
    (unsigned_abs r.den)
    (unsigned_abs z)
    (unsigned_abs d)
    g
    (size_positive r.den r.lowest.positive)
    (size_positive d h)
    r.lowest.coprime
    c
    sizes in
    (subst (λ (n : ℕ). n < 2 ^ 62) s.0 r.lowest.num_small, subst (λ (n : ℕ). n < 2 ^ 62) s.1 r.lowest.den_small)

-- the same where the sizes are known by their values
pub lowest_sizes : (z d : ℤ) (a b g : ℕ) → pos 0 <ℤ d → a ≡ unsigned_abs z → b ≡ unsigned_abs d → IsGcd a b g → a / g < 2 ^ 62 → b / g < 2 ^ 62 → IsLowest (with_sign_of z (a / g)) (with_sign_of d (b / g))
lowest_sizes z d a b g h e f c p q = rw (e, f) (lowest_parts z d g h (rw (e, f) at c) (rw e at p) (rw f at q))

pub same_value_sizes : (z d : ℤ) (a b g : ℕ) → pos 0 <ℤ d → a ≡ unsigned_abs z → b ≡ unsigned_abs d → IsGcd a b g → with_sign_of z (a / g) *ℤ d ≡ z *ℤ with_sign_of d (b / g)
same_value_sizes z d a b g h e f c = rw (e, f) (same_value z d g h (rw (e, f) at c))

pub small_sizes : (z d : ℤ) (a b g : ℕ) (r : Ratio) → pos 0 <ℤ d → a ≡ unsigned_abs z → b ≡ unsigned_abs d → IsGcd a b g → IsQuotient z d r → (a / g < 2 ^ 62) × (b / g < 2 ^ 62)
small_sizes z d a b g r h e f c k = rw (e, f) (small_parts z d g r h (rw (e, f) at c) k)

-- a number with the size of a small one is a signed number of 128 bits
pub fits : (z : ℤ) (n : ℕ) (k : ℤ) → k ≡ with_sign_of z n → n < 2 ^ 62 → FitsSigned w128 k
fits z n k e h = rw e (fits_signed_from_abs w128 (with_sign_of z n) (rw (size_of z n) (omega arith)))
