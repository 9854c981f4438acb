-- Products and sums of rationals that are at least 0.
use Rattle.std.proofs.Common.{◌≡◌, ℕ, zero, suc, ◌+◌, ◌*◌, ◌<◌, true, List, [], ◌∷◌, ℤ, pos, negsuc, neg_ℤ, ◌*ℤ◌, int_le, int_lt, refl, sym, ap₂, ◌∙◌, arith}
use Rattle.std.specs.Prelude.{⊤}
use Rattle.std.specs.Ordering.{int_eq}
use Rattle.std.proofs.Math.Nat.{mul-pos}
use Rattle.std.proofs.lemmas.Int.{ints}
use Rattle.vp_terms.specs.Rational.{Rational, whole, Equals, sum, product}
use Rattle.vp_terms.specs.Meaning.{compares}
use Rattle.vp_terms.specs.Order.{orders}
use Rattle.vp_terms.specs.declared.formula.Cmp.{Cmp}
use Rattle.vp_terms.specs.declared.formula.Cmp.TheVariants as cmp
use Rattle.vp_terms.proofs.Gaps.{gap-of, gap-same, gaps}
use Rattle.vp_cert.specs.Certificate.{combined, squared}

-- at least 0, and above 0
pub record IsNatural (q : Rational) : Type 0 where
  pub size : ℕ
  pub is : q.num ≡ pos size

pub record IsPositive (q : Rational) : Type 0 where
  pub size : ℕ
  pub is : q.num ≡ pos size
  pub some : 0 < size

pub natural : (q : Rational) → IsPositive q → IsNatural q
natural q h = record { size = h.size; is = h.is }

pub natural_product : (q r : Rational) → IsNatural q → IsNatural r → IsNatural (product q r)
natural_product q r h k = record { size = h.size * k.size; is = rw (h.is, k.is) refl }

pub positive_product : (q r : Rational) → IsPositive q → IsPositive r → IsPositive (product q r)
positive_product q r h k = record { size = h.size * k.size; is = rw (h.is, k.is) refl; some = mul-pos h.some k.some }

pub natural_sum : (q r : Rational) → IsNatural q → IsNatural r → IsNatural (sum q r)
natural_sum q r h k = record { size = h.size * r.den + k.size * q.den; is = rw (h.is, k.is) refl }

pub positive_sum : (q r : Rational) → IsNatural q → IsPositive r → IsPositive (sum q r)
positive_sum q r h k = record { size = h.size * r.den + k.size * q.den; is = rw (h.is, k.is) refl; some = omega (arith, mul-pos k.some q.positive) }

negated_twice : (a n : ℕ) → negsuc a *ℤ neg_ℤ (pos n) ≡ pos (suc a * n)
negated_twice a zero = omega (arith, ints)
negated_twice a (suc n) = refl

square : (z : ℤ) (n : ℕ) → (m : ℕ) × (z *ℤ (z *ℤ pos n) ≡ pos m)
square (pos a) n = (a * (a * n), refl)
square (negsuc a) n = (suc a * (suc a * n), negated_twice a (suc a * n))

pub natural_square : (q r : Rational) → IsNatural r → IsNatural (product q (product q r))
natural_square q r h =
    let s = square q.num h.size in
    record { size = s.0; is = rw h.is s.1 }

-- ---- lists of factors

abbrev pub EachIs : (Rational → Type 0) → List Rational → Type 0
EachIs p [] = ⊤
EachIs p (q ∷ qs) = p q × EachIs p qs

pub positive_products : (q : Rational) (rs : List Rational) → IsPositive q → EachIs IsPositive rs → IsPositive (combined product q rs)
positive_products q [] h k = h
positive_products q (r ∷ rs) h k = positive_products (product r q) rs (positive_product r q k.0 h) k.1

pub natural_products : (q : Rational) (rs : List Rational) → IsNatural q → EachIs IsNatural rs → IsNatural (combined product q rs)
natural_products q [] h k = h
natural_products q (r ∷ rs) h k = natural_products (product r q) rs (natural_product r q k.0 h) k.1

pub natural_squares : (q : Rational) (rs : List Rational) → IsNatural q → IsNatural (combined product q (squared rs))
natural_squares q [] h = h
natural_squares q (r ∷ rs) h = natural_squares (product r (product r q)) rs (natural_square r q h)

pub positive_sums : (q : Rational) (rs : List Rational) → IsPositive q → EachIs IsNatural rs → IsPositive (combined sum q rs)
positive_sums q [] h k = h
positive_sums q (r ∷ rs) h k = positive_sums (sum r q) rs (positive_sum r q k.0 h) k.1

zero_times : (z w : ℤ) → z ≡ pos 0 → w *ℤ z ≡ pos 0
zero_times z w e = rw e (omega (arith, ints))

zero_by : (z w : ℤ) → z ≡ pos 0 → z *ℤ w ≡ pos 0
zero_by z w e = rw e (rw (gap-of w) (omega (arith, ints)))

-- an equation's term
pub natural_zero : (q r s : Rational) → r.num ≡ pos 0 → IsNatural (product s (product r q))
natural_zero q r s e = record { size = 0; is = zero_times (r.num *ℤ q.num) s.num (zero_by r.num q.num e) }

-- ---- comparisons with 0, and equality

pub one_right : (z : ℤ) → z *ℤ pos 1 ≡ z
one_right z = rw (gap-of z) (simp gaps (gap-same _ _ _ _ (omega arith)))

pub with_zero : (c : Cmp) (q : Rational) → compares c q (whole (pos 0)) ≡ orders c q.num (pos 0)
with_zero c q = ap₂ (orders c) (one_right q.num) (none q.den)
  where
    none : (n : ℕ) → pos 0 *ℤ pos n ≡ pos 0
    none n = omega (arith, ints)

num_positive : (z : ℤ) → int_lt (pos 0) z ≡ true → (n : ℕ) × (z ≡ pos n) × (0 < n)
num_positive (pos zero) h = absurd (cc)
num_positive (pos (suc n)) h = (suc n, refl, omega arith)
num_positive (negsuc n) h = absurd (cc)

num_natural : (z : ℤ) → int_le (pos 0) z ≡ true → (n : ℕ) × (z ≡ pos n)
num_natural (pos n) h = (n, refl)
num_natural (negsuc n) h = absurd (cc)

num_zero : (z : ℤ) → int_eq z (pos 0) ≡ true → z ≡ pos 0
num_zero z h = grind (arith, ints)

pub positive_of : (q : Rational) → compares cmp.Gt q (whole (pos 0)) ≡ true → IsPositive q
positive_of q h = let r = num_positive q.num (sym (with_zero cmp.Gt q) ∙ h) in record { size = r.0; is = r.1; some = r.2 }

pub natural_of : (q : Rational) → compares cmp.Ge q (whole (pos 0)) ≡ true → IsNatural q
natural_of q h = let r = num_natural q.num (sym (with_zero cmp.Ge q) ∙ h) in record { size = r.0; is = r.1 }

pub zero_of : (q : Rational) → compares cmp.Eq q (whole (pos 0)) ≡ true → q.num ≡ pos 0
zero_of q h = num_zero q.num (sym (with_zero cmp.Eq q) ∙ h)

-- a positive rational isn't 0
pub not_zero : (q : Rational) → IsPositive q → Equals (whole (pos 0)) q → ⊥
not_zero q h e =
    let f : pos 0 *ℤ pos q.den ≡ q.num *ℤ pos 1 = e.crossed in
    let g : pos 0 *ℤ pos q.den ≡ pos 0 = omega (arith, ints) in
    let i = h.some in
    let j : pos h.size ≡ pos 0 = sym h.is ∙ sym (one_right q.num) ∙ sym f ∙ g in
    omega (arith, ints)
