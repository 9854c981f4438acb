-- Answers about rationals that are the same, and about the parts of an expression.
use Rattle.std.proofs.Common.{◌≡◌, ◌↔◌, ℕ, zero, suc, ◌≤◌, ◌⊎◌, inl, inr, Option, None, Some, refl, sym, subst, arith, pos}
use Rattle.std.specs.Prelude.{IsSome, IfSome}
use Rattle.std.proofs.lemmas.Int.{ints}
use Rattle.std.proofs.lemmas.Nat.Gcd.{dvd_refl}
use Rattle.vp_terms.specs.declared.ratio.Ratio.{Ratio}
use Rattle.vp_terms.specs.Rational.{Rational, sum, difference, product, power, Equals}
use Rattle.vp_terms.specs.Meaning.{rational}
use Rattle.vp_terms.specs.Evaluation.{IsSmall, IsResult, PowersAreSmall}
use Rattle.vp_terms.proofs.RationalLaws.{Equals-refl, Equals-sym, Equals-trans, Equals-sum, Equals-difference, Equals-product, Equals-power}

pub small_over : (q q' : Rational) → Equals q q' → IsSmall q → IsSmall q'
small_over q q' e s = (s.0, Equals-trans (rational s.0) q q' s.1 e)

pub result_over : (q q' : Rational) (o : Option Ratio) → Equals q q' → IsResult q o → IsResult q' o
result_over q q' None e h = λ s. h (small_over q' q (Equals-sym q q' e) s)
result_over q q' (Some r) e h = Equals-trans (rational r) q q' h e

pub result_exact : (q : Rational) (o : Option Ratio) → IsResult q o → IfSome o (λ r. Equals (rational r) q)
result_exact q None h = tt
result_exact q (Some r) h = h

pub result_small : (q : Rational) (o : Option Ratio) → IsResult q o → IsSome o → IsSmall q
result_small q None h s = absurd (cc)
result_small q (Some r) h s = (r, h)

pub small_result : (q : Rational) (o : Option Ratio) → IsResult q o → IsSmall q → IsSome o
small_result q None h s = absurd (h s)
small_result q (Some r) h s = refl

pub powers_over : (q q' : Rational) (n : ℕ) → Equals q q' → PowersAreSmall q n → PowersAreSmall q' n
powers_over q q' n e s k h = small_over (power q k) (power q' k) (Equals-power q q' k e) (s k h)

-- the fraction 1
one : Ratio
one =
    record {
      num = pos 1;
      den = pos 1;
      lowest = record {
        positive = omega (arith, ints);
        num_small = omega (arith, ints);
        den_small = omega (arith, ints);
        coprime = (dvd_refl 1, dvd_refl 1, λ d p q. p);
      };
    }

pub power_zero : (q : Rational) (n : ℕ) → n ≡ 0 → PowersAreSmall q n
unfolding one
power_zero q n e zero h = (one, record { crossed = refl })
power_zero q n e (suc k) h = absurd (omega arith)

pub fewer_powers : (q : Rational) (m n : ℕ) → m ≤ n → PowersAreSmall q n → PowersAreSmall q m
fewer_powers q m n h s k p = s k (omega arith)

one_more : (q : Rational) (m : ℕ) → PowersAreSmall q m → IsSmall (power q (suc m)) → (k : ℕ) → (k ≤ m) ⊎ (k ≡ suc m) → IsSmall (power q k)
one_more q m s t k (inl h) = s k h
one_more q m s t k (inr e) = let P : ℕ → Type 0 = λ n. IsSmall (power q n) in subst P (sym e) t

below_or_same : (k m : ℕ) → k ≤ suc m → (k ≤ m) ⊎ (k ≡ suc m)
below_or_same k m h = grind arith

pub power_exact : (q : Rational) (r : Ratio) (m : ℕ) (o : Option Ratio) → Equals (rational r) (power q m) → IsResult (product q (rational r)) o → IsResult (power q (suc m)) o
power_exact q r m o e h = result_over _ _ o (Equals-product q q (rational r) (power q m) (Equals-refl q) e) h

pub power_small : (q : Rational) (m : ℕ) (o : Option Ratio) → PowersAreSmall q m → IsResult (power q (suc m)) o → IsSome o ↔ PowersAreSmall q (suc m)
power_small q m o s h = (
  λ i k p. one_more q m s (result_small _ o h i) k (below_or_same k m p),
  λ a. small_result _ o h (a (suc m) (omega arith)),
)

pub sum_result : (q r : Rational) (a b : Ratio) (o : Option Ratio) → Equals (rational a) q → Equals (rational b) r → IsResult (sum (rational a) (rational b)) o → IsResult (sum q r) o
sum_result q r a b o e f h = result_over _ _ o (Equals-sum (rational a) q (rational b) r e f) h

pub difference_result : (q r : Rational) (a b : Ratio) (o : Option Ratio) → Equals (rational a) q → Equals (rational b) r → IsResult (difference (rational a) (rational b)) o → IsResult (difference q r) o
difference_result q r a b o e f h = result_over _ _ o (Equals-difference (rational a) q (rational b) r e f) h

pub product_result : (q r : Rational) (a b : Ratio) (o : Option Ratio) → Equals (rational a) q → Equals (rational b) r → IsResult (product (rational a) (rational b)) o → IsResult (product q r) o
product_result q r a b o e f h = result_over _ _ o (Equals-product (rational a) q (rational b) r e f) h

-- two parts that are small beside the whole
pub all_small : (A B : Type 0) (q : Rational) (o : Option Ratio) → A → B → IsResult q o → IsSome o ↔ (A × B × IsSmall q)
all_small A B q o a b h = (λ s. (a, b, result_small q o h s), λ t. small_result q o h t.2)

-- a power of a value that is known by a fraction
pub power_over : (q : Rational) (a : Ratio) (n : ℕ) (o : Option Ratio) → Equals (rational a) q → IfSome o (λ r. Equals (rational r) (power (rational a) n)) → IfSome o (λ r. Equals (rational r) (power q n))
power_over q a n None e h = tt
power_over q a n (Some r) e h = Equals-trans (rational r) (power (rational a) n) (power q n) h (Equals-power (rational a) q n e)

pub powers_small : (A : Type 0) (q : Rational) (a : Ratio) (n : ℕ) (o : Option Ratio) → A → Equals (rational a) q → (IsSome o ↔ PowersAreSmall (rational a) n) → IsSome o ↔ (A × PowersAreSmall q n)
powers_small A q a n o x e h = (
  λ s. (x, powers_over (rational a) q n e (h.0 s)),
  λ t. h.1 (powers_over q (rational a) n (Equals-sym (rational a) q e) t.1),
)

pub ruleset evaluating = (result_exact, sum_result, difference_result, product_result, all_small, power_over, powers_small)
