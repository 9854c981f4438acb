-- Truths and tests of numbers.
use Rattle.std.proofs.Common.{◌≡◌, ◌≢◌, ℕ, ◌<◌, ◌≤◌, ◌⊎◌, inl, inr, Bool, true, false, not, ◌&&◌, ◌||◌, ◌==◌, nat_lt, IsTrue, refl, arith}
use Rattle.std.proofs.lemmas.Bool.Decides.{nat_tests}

pub both : (a b : Bool) → IsTrue (a && b) → IsTrue a × IsTrue b
both true b h = (refl, h)
both false b h = absurd (cc)

pub both_true : (a b : Bool) → IsTrue a → IsTrue b → IsTrue (a && b)
both_true true b h k = k
both_true false b h k = absurd (cc)

pub or_left : (a b : Bool) → IsTrue a → IsTrue (a || b)
or_left true b h = refl
or_left false b h = absurd (cc)

pub or_right : (a b : Bool) → IsTrue b → IsTrue (a || b)
or_right true b h = refl
or_right false b h = h

pub or_cases : (a b : Bool) → IsTrue (a || b) → IsTrue a ⊎ IsTrue b
or_cases true b h = inl refl
or_cases false b h = inr h

pub denied : (b : Bool) → IsTrue (not b) → ¬ IsTrue b
denied true h k = absurd (cc)
denied false h k = absurd (cc)

pub not_true : (b : Bool) → (¬ IsTrue b) → IsTrue (not b)
not_true true h = absurd (h refl)
not_true false h = refl

pub below : (a b : ℕ) → IsTrue (nat_lt a b) → a < b
below a b h = grind arith

pub is_below : (a b : ℕ) → a < b → IsTrue (nat_lt a b)
is_below a b h = grind arith

pub below_or_not : (k n : ℕ) → (k < n) ⊎ (n ≤ k)
below_or_not k n = grind arith

pub same_or_not : (k c : ℕ) → (k ≡ c) ⊎ (k ≢ c)
same_or_not k c = grind arith

pub is_same : (c k : ℕ) → (c == k) ≡ true → c ≡ k
is_same c k h = grind (arith, nat_tests)

pub is_other : (c k : ℕ) → (c == k) ≡ false → k ≢ c
is_other c k h = grind (arith, nat_tests)

pub same_test : (c : ℕ) → (c == c) ≡ true
same_test c = grind (arith, nat_tests)

pub other_test : (c k : ℕ) → k ≢ c → (c == k) ≡ false
other_test c k h = grind (arith, nat_tests)
