-- The code is no longer than the bounds.
use Rattle.std.proofs.Common.{◌≡◌, ◌≢◌, ℕ, zero, suc, ◌+◌, ◌-◌, ◌*◌, ◌%◌, ◌≤◌, nat_le, nat_eq, List, [], ◌∷◌, ◌++◌, length, Bool, true, false, not, ◌||◌, refl, arith, length-append}
use Rattle.std.specs.Prelude.{sum_by, if◌then◌else◌}
use Rattle.std.proofs.lemmas.Bool.Decides.{nat_tests}
use Rattle.std.proofs.lemmas.List.Sums.{sum_by-cons}
use Rattle.vp_isa.specs.declared.instr.Instr.{Instr}
use Rattle.vp_layout.specs.declared.home.Home.{Home}
use Rattle.vp_poly.specs.declared.mono.Term.{Term}
use Rattle.vp_logic.specs.declared.norm.Rel.{Rel}
use Rattle.vp_logic.specs.declared.norm.Rel.TheVariants.{Ge, Gt, Eq}
use Rattle.vp_logic.specs.Tree.{Tree, Trees, One, AllOf, AnyOf, None as Done, Then}
use Rattle.vp_sandbox.specs.Sizes.{power_size, term_size, poly_size, form_size, members_size}
use Rattle.vp_gen.specs.PowerCode.{even_steps, even_code, power_code, first_code, factor_code}
use Rattle.vp_gen.specs.PolyCode.{has_factors, factors_code, front_code, scaled_code, term_code, added_code, sums_code, poly_code}
use Rattle.vp_layout.specs.Truths.{need, needs}
use Rattle.vp_gen.specs.FormCode.{rel_code, form_code, all_code, any_code}

length-if : (b : Bool) (x y : List Instr) (n : ℕ) → (b ≡ true → length x ≤ n) → (b ≡ false → length y ≤ n) → length (if b then x else y) ≤ n
length-if true x y n p q = p refl
length-if false x y n p q = q refl

length-steps : (d n : ℕ) → length (even_steps d n) ≡ 2 * n
length-steps d zero = refl
length-steps d (suc n) = simp length-append (omega (arith, length-steps d n))

length-even : (d n : ℕ) (v : Home) → length (even_code d n v) ≡ 7 + 2 * n
length-even d n v = simp length-append (omega (arith, length-steps d n))

odd : (k : ℕ) → nat_eq (k % 2) 0 ≡ false → k % 2 ≢ 0
odd k e = grind (arith, nat_tests)

length-power : (d k : ℕ) (v : Home) → 2 ≤ k → length (power_code d k v) ≤ 2 * k + 15
length-power d k v h = length-if (nat_eq (k % 2) 0) _ _ _ (λ e. omega (arith, length-even d (k - 2) v))
    (λ e. let k3 : 3 ≤ k = omega (arith, odd k e) in simp length-append (omega (arith, length-even (d + 2) (k - 3) v)))

second : (k : ℕ) → nat_eq k 0 ≡ false → nat_eq k 1 ≡ false → 2 ≤ k
second k e f = grind (arith, nat_tests)

size_of : (k : ℕ) → 2 ≤ k → power_size k ≡ 2 * k + 32
size_of zero h = absurd (omega arith)
size_of (suc zero) h = absurd (omega arith)
size_of (suc (suc k)) h = refl

size_one : (k : ℕ) → nat_eq k 1 ≡ true → power_size k ≡ 16
size_one k e = let one : k ≡ 1 = grind (arith, nat_tests) in rw one refl

length-first : (d k : ℕ) (v : Home) → nat_eq k 0 ≡ false → length (first_code d k v) + 14 ≤ power_size k
length-first d k v h = case (nat_eq k 1) refl
  where
    case : (b : Bool) → nat_eq k 1 ≡ b → length (first_code d k v) + 14 ≤ power_size k
    case true e = rw e (omega (arith, size_one k e))
    case false e = rw e (let k2 = second k h e in omega (arith, length-power d k v k2, size_of k k2))

length-factor : (d k : ℕ) (v : Home) → nat_eq k 0 ≡ false → length (factor_code d k v) ≤ power_size k
length-factor d k v h = case (nat_eq k 1) refl
  where
    case : (b : Bool) → nat_eq k 1 ≡ b → length (factor_code d k v) ≤ power_size k
    case true e = rw e (omega (arith, size_one k e))
    case false e = rw e (simp length-append (let k2 = second k h e in omega (arith, length-power (d + 2) k v k2, size_of k k2)))

length-factors : (d : ℕ) (ks : List ℕ) (hs : List Home) → length (factors_code d ks hs) ≤ sum_by power_size ks
length-factors d [] hs = omega arith
length-factors d (k ∷ ks) [] = omega arith
length-factors d (k ∷ ks) (h ∷ hs) = rw (sum_by-cons power_size k ks) (case (nat_eq k 0) refl (length-factors d ks hs))
  where
    case : (b : Bool) → nat_eq k 0 ≡ b → length (factors_code d ks hs) ≤ sum_by power_size ks
        → length ((if b then [] else factor_code d k h) ++ factors_code d ks hs) ≤ power_size k + sum_by power_size ks
    case true e rest = omega (arith, rest)
    case false e rest =
        let all : length (factor_code d k h ++ factors_code d ks hs) ≤ power_size k + sum_by power_size ks =
        omega (arith, length-append (factor_code d k h) (factors_code d ks hs), length-factor d k h e, rest) in all

length-front : (d : ℕ) (ks : List ℕ) (hs : List Home) → has_factors ks hs ≡ true → length (front_code d ks hs) + 14 ≤ sum_by power_size ks
length-front d [] hs any = absurd cc
length-front d (k ∷ ks) [] any = absurd cc
length-front d (k ∷ ks) (h ∷ hs) any = rw (sum_by-cons power_size k ks) (case (nat_eq k 0) refl any (length-front d ks hs))
  where
    case : (b : Bool) → nat_eq k 0 ≡ b → (not b || has_factors ks hs) ≡ true → (has_factors ks hs ≡ true → length (front_code d ks hs) + 14 ≤ sum_by power_size ks)
        → length (if b then front_code d ks hs else (first_code d k h ++ factors_code d ks hs)) + 14 ≤ power_size k + sum_by power_size ks
    case true e some rest = omega (arith, rest some)
    case false e some rest =
        let all : length (first_code d k h ++ factors_code d ks hs) + 14 ≤ power_size k + sum_by power_size ks =
        omega (arith, length-append (first_code d k h) (factors_code d ks hs), length-first d k h e, length-factors d ks hs) in all

length-term : (d : ℕ) (t : Term) (hs : List Home) → length (term_code d t hs) ≤ term_size t
length-term d t hs = length-if (has_factors t.mono.powers hs) (scaled_code d t hs) _ _
    (λ e. simp length-append (omega (arith, length-front (d + 2) t.mono.powers hs e))) (λ e. omega arith)

length-sums : (d : ℕ) (ts : List Term) (hs : List Home) → length (sums_code d ts hs) ≤ sum_by (λ u. term_size u + 2) ts
length-sums d [] hs = omega arith
length-sums d (t ∷ ts) hs =
    let one : length (added_code d t hs) ≤ term_size t + 2 = simp length-append (omega (arith, length-term (d + 2) t hs)) in
    omega (arith, length-append (added_code d t hs) (sums_code d ts hs), one, length-sums d ts hs, sum_by-cons (λ u. term_size u + 2) t ts)

pub length-poly : (d : ℕ) (ts : List Term) (hs : List Home) → length (poly_code d ts hs) ≤ poly_size ts
length-poly d [] hs = omega arith
length-poly d (t ∷ ts) hs = simp length-append (omega (arith, length-term d t hs, length-sums d ts hs, sum_by-cons (λ u. term_size u + 2) t ts))

length-rel : (d : ℕ) (rel : Rel) → length (rel_code d rel) ≤ 10
length-rel d Ge = omega arith
length-rel d Gt = omega arith
length-rel d Eq = omega arith

mutual
  pub length-form : (n : Tree) (d : ℕ) (hs : List Home) → length (form_code d n hs) ≤ form_size n
  length-form (One atom) d hs = simp length-append (omega (arith, length-poly (d + 1) atom.poly hs, length-rel d atom.rel))
  length-form (AllOf ns) d hs = omega (arith, length-all ns d hs)
  length-form (AnyOf ns) d hs = omega (arith, length-any ns d hs)

  length-all : (ns : Trees) (d : ℕ) (hs : List Home) → length (all_code d ns hs) ≤ members_size ns + 1
  length-all Done d hs = omega arith
  length-all (Then n ns) d hs =
      let two : length (if nat_le (needs ns) (need n) then (form_code d n hs ++ all_code (d + 1) ns hs) else (all_code d ns hs ++ form_code (d + 1) n hs)) ≤ form_size n + (members_size ns + 1) =
      length-if (nat_le (needs ns) (need n)) (form_code d n hs ++ all_code (d + 1) ns hs) (all_code d ns hs ++ form_code (d + 1) n hs) _
      (λ e. simp length-append (omega (arith, length-form n d hs, length-all ns (d + 1) hs)))
      (λ e. simp length-append (omega (arith, length-all ns d hs, length-form n (d + 1) hs))) in
      simp length-append (omega (arith, two))

  length-any : (ns : Trees) (d : ℕ) (hs : List Home) → length (any_code d ns hs) ≤ members_size ns + 1
  length-any Done d hs = omega arith
  length-any (Then n ns) d hs =
      let two : length (if nat_le (needs ns) (need n) then (form_code d n hs ++ any_code (d + 1) ns hs) else (any_code d ns hs ++ form_code (d + 1) n hs)) ≤ form_size n + (members_size ns + 1) =
      length-if (nat_le (needs ns) (need n)) (form_code d n hs ++ any_code (d + 1) ns hs) (any_code d ns hs ++ form_code (d + 1) n hs) _
      (λ e. simp length-append (omega (arith, length-form n d hs, length-any ns (d + 1) hs)))
      (λ e. simp length-append (omega (arith, length-any ns d hs, length-form n (d + 1) hs))) in
      simp length-append (omega (arith, two))
