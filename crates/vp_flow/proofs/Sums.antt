-- Sums of whole numbers over the numbers from 0 to n.
use Rattle.std.proofs.Common.{◌≡◌, ◌≢◌, ℕ, zero, suc, ◌≤◌, Bool, true, false, ◌==◌, refl, ap, arith, ℤ, pos, ◌+ℤ◌}
use Rattle.std.proofs.lemmas.Int.{ints}
use Rattle.std.proofs.lemmas.Bool.{eqb-true, eqb-false}
use Rattle.std.proofs.lemmas.Bool.Decides.{nat_tests}
use Rattle.vp_poly.proofs.SplitLaws.{int_sum}

pub int_sum-zero : (n : ℕ) (f : ℕ → ℤ) → ((i : ℕ) → i ≤ n → f i ≡ pos 0) → int_sum n f ≡ pos 0
int_sum-zero zero f h = h 0 (omega arith)
int_sum-zero (suc n) f h = let a = int_sum-zero n f (λ i le. h i (omega arith)) in let b = h (suc n) (omega arith) in omega (arith, ints)

pub test_off : (x y : ℕ) → x ≢ y → (x == y) ≡ false
test_off x y n = grind (arith, nat_tests)

pub int_sum-single : (n x : ℕ) (f : ℕ → ℤ) → x ≤ n → ((i : ℕ) → i ≤ n → i ≢ x → f i ≡ pos 0) → int_sum n f ≡ f x
int_sum-single zero x f le h = let e : 0 ≡ x = omega arith in ap f e
int_sum-single (suc n) x f le h = case (x == suc n) refl (λ lt. int_sum-single n x f lt (λ i i_le ne. h i (omega arith) ne))
  where
    case : (v : Bool) → (x == suc n) ≡ v → (x ≤ n → int_sum n f ≡ f x) → int_sum n f +ℤ f (suc n) ≡ f x
    case true t more =
        let e : x ≡ suc n = eqb-true x (suc n) t in
        let a = int_sum-zero n f (λ i i_le. h i (omega arith) (omega arith)) in
        let b = ap f e in
        omega (arith, ints)
    case false t more =
        let ne : x ≢ suc n = eqb-false x (suc n) t in
        let a = more (omega arith) in
        let b = h (suc n) (omega arith) (omega arith) in
        omega (arith, ints)
