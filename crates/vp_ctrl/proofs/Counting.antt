-- Counts of ways that saturate.
use Rattle.std.proofs.Common.{◌≡◌, ℕ, zero, suc, ◌+◌, ◌*◌, ◌≤◌, ◌⊎◌, inl, inr, min, refl, sym, ap, ◌∙◌, arith}
use Rattle.std.proofs.Math.Nat.{mul_comm}

at_most_or_not : (a m : ℕ) → (a ≤ m) ⊎ (m ≤ a)
at_most_or_not a m = grind arith

times_some : (a b : ℕ) → a ≤ a * suc b
times_some a b = omega arith

-- a product of a number that was cut
cut_left : (a b m : ℕ) → min (min a m * b) m ≡ min (a * b) m
cut_left a zero m = omega arith
cut_left a (suc b) m = cases (at_most_or_not a m)
  where
    cases : (a ≤ m) ⊎ (m ≤ a) → min (min a m * suc b) m ≡ min (a * suc b) m
    cases (inl h) = let e : min a m ≡ a = omega arith in rw e refl
    cases (inr h) =
        let e : min a m ≡ m = omega arith in
        let p = times_some m b in
        let q = times_some a b in
        let k : min (m * suc b) m ≡ m = omega arith in
        let l : min (a * suc b) m ≡ m = omega arith in
        rw e (k ∙ sym l)

pub cut_both : (a b m : ℕ) → min (min a m * min b m) m ≡ min (a * b) m
cut_both a b m =
    cut_left a (min b m) m
    ∙ ap (λ (n : ℕ). min n m) (mul_comm a (min b m))
    ∙ cut_left b a m
    ∙ ap (λ (n : ℕ). min n m) (mul_comm b a)

pub cut_sum : (a b m : ℕ) → min (min a m + min b m) m ≡ min (a + b) m
cut_sum a b m = omega arith

pub ruleset counting = (cut_both, cut_sum)
