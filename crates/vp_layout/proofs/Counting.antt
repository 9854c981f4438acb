-- A form needs few cells.
use Rattle.std.proofs.Common.{◌≡◌, ℕ, suc, ◌+◌, ◌*◌, ◌^◌, ◌≤◌, nat_eq, min, max, leb, nat_lt, Bool, true, false, refl, arith, pow-suc}
use Rattle.std.specs.Prelude.{List, [], ◌∷◌, sum_by, if◌then◌else◌}
use Rattle.std.proofs.lemmas.Bool.Decides.{nat_tests}
use Rattle.std.proofs.lemmas.List.Sums.{sum_by-cons}
use Rattle.std.proofs.Math.Pow.{pow_mono}
use Rattle.vp_logic.specs.Tree.{Tree, Trees, One, AllOf, AnyOf, None as Done, Then}
use Rattle.vp_sandbox.specs.Sizes.{form_size, members_size}
use Rattle.vp_layout.specs.Truths.{joint, need, needs, AllNeed}

capped : (a : ℕ) → 2 ^ min (a + 1) 4294967295 ≤ 2 * 2 ^ a
capped a =
    let twice : 2 ^ suc a ≡ 2 ^ a * 2 = pow-suc 2 a in
    let le : min (a + 1) 4294967295 ≤ suc a = omega arith in
    omega (arith, pow_mono le, twice)

joint_power : (a b x y : ℕ) → 2 ^ a ≤ x → 2 ^ b ≤ y → 2 ^ joint a b ≤ x + y
joint_power a b x y h k = case (nat_eq a b) refl
  where
    case : (t : Bool) → nat_eq a b ≡ t → 2 ^ (if t then min (a + 1) 4294967295 else max a b) ≤ x + y
    case true e = let same : a ≡ b = grind (arith, nat_tests) in let k' : 2 ^ a ≤ y = rw same k in omega (arith, capped a)
    case false e = larger (leb b a) refl
      where
        larger : (u : Bool) → leb b a ≡ u → 2 ^ max a b ≤ x + y
        larger true f = let m : max a b ≡ a = grind (arith, nat_tests) in rw m (omega arith)
        larger false f = let m : max a b ≡ b = grind (arith, nat_tests) in rw m (omega arith)

mutual
  pub need_power : (n : Tree) → 2 ^ need n ≤ form_size n
  need_power (One atom) = let two : 2 ^ 1 ≡ 2 = refl in omega (arith, two)
  need_power (AllOf ns) = omega (arith, needs_power ns)
  need_power (AnyOf ns) = omega (arith, needs_power ns)

  needs_power : (ns : Trees) → 2 ^ needs ns ≤ members_size ns + 1
  needs_power Done = let one : 2 ^ 0 ≡ 1 = refl in omega (arith, one)
  needs_power (Then n ns) =
      omega (arith, joint_power (need n) (needs ns) (form_size n) (members_size ns + 1) (need_power n) (needs_power ns))

few : (n k : ℕ) → 2 ^ k ≤ n → n ≤ 65536 → k ≤ 16
few n k h le = by_test (nat_lt 16 k) refl
  where
    by_test : (b : Bool) → nat_lt 16 k ≡ b → k ≤ 16
    by_test false e = grind (arith, nat_tests)
    by_test true e =
        let more : 17 ≤ k = grind (arith, nat_tests) in
        let big : 2 ^ 17 ≡ 131072 = refl in
        absurd (omega (arith, pow_mono more, big))

pub few_truths : (n : Tree) → form_size n ≤ 65536 → need n ≤ 16
few_truths n h = few (form_size n) (need n) (need_power n) h

pub all_few : (ns : List Tree) → sum_by (λ t. form_size t + 8) ns ≤ 65536 → AllNeed 16 ns
all_few [] h = tt
all_few (n ∷ ns) h =
    let all : sum_by (λ t. form_size t + 8) (n ∷ ns) ≡ (form_size n + 8) + sum_by (λ t. form_size t + 8) ns = sum_by-cons (λ t. form_size t + 8) n ns in
    (few_truths n (omega (arith, all, h)), all_few ns (omega (arith, all, h)))
