-- Laws of the least common multiple.
use Rattle.std.proofs.Common.{◌≡◌, ℕ, zero, suc, ◌*◌, ◌/◌, ◌%◌, ◌<◌, ◌^◌, ◌==◌, Bool, true, false, cond, refl, sym, ap, ◌∙◌, subst, arith, min}
use Rattle.std.proofs.Math.Nat.{mul-pos, mul-div_cancel, pow-suc, pow-zero}
use Rattle.std.specs.Int.{IsGcd}
use Rattle.std.proofs.lemmas.Bool.{eqb-true, eqb-false}
use Rattle.std.proofs.lemmas.Nat.Gcd.{IsGcd-from_zero, IsGcd-from_mod, same_from_IsGcd, mod-eq-zero_of_dvd, IsGcd-swap}
use Rattle.vp_poly.specs.Lcm.{gcd_by, gcd, lcm, Shares}

gcd_by-is : (n a b : ℕ) → b < n → IsGcd a b (gcd_by n a b)
gcd_by-is zero a b h = absurd (omega arith)
gcd_by-is (suc n) a b h = case (b == 0) refl (λ lt. gcd_by-is n b (a % b) lt)
  where
    case : (v : Bool) → (b == 0) ≡ v → (a % b < n → IsGcd b (a % b) (gcd_by n b (a % b))) → IsGcd a b (cond v a (gcd_by n b (a % b)))
    case true e more = IsGcd-from_zero a b (eqb-true b 0 e)
    case false e more =
        let ne = eqb-false b 0 e in
        let some : 0 < b = omega arith in
        IsGcd-from_mod a b (gcd_by n b (a % b)) (more (omega arith))

pub gcd-is : (a b : ℕ) → IsGcd a b (gcd a b)
unfolding gcd
gcd-is a b = gcd_by-is (suc b) a b (omega arith)

pub gcd-same : (a b g : ℕ) → IsGcd a b g → g ≡ gcd a b
gcd-same a b g h = same_from_IsGcd a b g (gcd a b) h (gcd-is a b)

pub gcd-positive : (a b : ℕ) → 0 < b → 0 < gcd a b
gcd-positive a b h = case (gcd a b) refl
  where
    case : (g : ℕ) → gcd a b ≡ g → 0 < gcd a b
    case zero e = let m = mod-eq-zero_of_dvd (gcd a b) (gcd-is a b).1 in omega arith
    case (suc g) e = omega arith

pub ruleset gcds = (IsGcd-from_zero, IsGcd-from_mod, gcd-same, gcd-positive)

pub min_positive : (a b n : ℕ) → 0 < a → 0 < b → 0 < n → 0 < min (a * b) n
min_positive a b n h k l = let some = mul-pos h k in omega arith

pub pow_positive : (a k : ℕ) → 0 < a → 0 < a ^ k
pow_positive a zero h = omega (arith, pow-zero a)
pow_positive a (suc k) h = let some = mul-pos (pow_positive a k h) h in omega (arith, pow-suc a k)

pub min_power_positive : (a k n : ℕ) → 0 < a → 0 < n → 0 < min (a ^ k) n
min_power_positive a k n h l = let some = pow_positive a k h in omega arith

pub ruleset positive = (min_positive, min_power_positive)

-- `a` times what `b` has beyond the common divisor
lcm-left_whole : (a b : ℕ) → 0 < b → b / gcd a b * a ≡ lcm a b
lcm-left_whole a b h =
    let g = gcd-is a b in
    let some = gcd-positive a b h in
    let x = mod-eq-zero_of_dvd (gcd a b) g.0 in
    let y = mod-eq-zero_of_dvd (gcd a b) g.1 in
    let ea : gcd a b * (a / gcd a b) ≡ a = omega arith in
    let eb : gcd a b * (b / gcd a b) ≡ b = omega arith in
    let p = ap (λ (n : ℕ). b / gcd a b * n) ea in
    let q = ap (λ (n : ℕ). a / gcd a b * n) eb in
    omega arith

quotient : (k a n : ℕ) → 0 < a → k * a ≡ n → k ≡ n / a
quotient k a n h e = sym (mul-div_cancel k h) ∙ ap (λ (t : ℕ). t / a) e

quotient_positive : (g b : ℕ) → 0 < b → 0 < g → b % g ≡ 0 → 0 < b / g
quotient_positive g b h some y = case (b / g) refl
  where
    case : (n : ℕ) → b / g ≡ n → 0 < b / g
    case zero e = let z = ap (λ (n : ℕ). g * n) e in omega arith
    case (suc n) e = omega arith

shares_are : (a b : ℕ) → 0 < a → 0 < b → Shares a b (b / gcd a b) (a / gcd a b)
shares_are a b h k =
    let g = gcd-is a b in
    let some = gcd-positive a b k in
    let whole = lcm-left_whole a b k in
    record {
      left = quotient _ a _ h whole;
      right = quotient _ b _ k refl;
      left_whole = whole;
      right_whole = refl;
      left_positive = quotient_positive (gcd a b) b k some (mod-eq-zero_of_dvd (gcd a b) g.1);
      right_positive = quotient_positive (gcd a b) a h some (mod-eq-zero_of_dvd (gcd a b) g.0);
    }

pub Shares-of : (a b g : ℕ) → g ≡ gcd a b → 0 < a → 0 < b → Shares a b (b / g) (a / g)
Shares-of a b g e h k = rw e (shares_are a b h k)

pub divisor_positive : (a b g : ℕ) → g ≡ gcd a b → 0 < b → 0 < g
divisor_positive a b g e h = rw e (gcd-positive a b h)

pub ruleset sharing = (Shares-of, divisor_positive)

pub lcm-product : (a b : ℕ) → 0 < b → lcm a b * gcd a b ≡ a * b
lcm-product a b h =
    let g = gcd-is a b in
    let some = gcd-positive a b h in
    let x = mod-eq-zero_of_dvd (gcd a b) g.0 in
    let ea : gcd a b * (a / gcd a b) ≡ a = omega arith in
    let e = ap (λ (n : ℕ). n * b) ea in
    omega arith

pub lcm-shares : (a b : ℕ) → 0 < a → 0 < b → Shares a b (lcm a b / a) (lcm a b / b)
lcm-shares a b h k =
    let s = shares_are a b h k in
    record {
      left = refl;
      right = refl;
      left_whole = sym (ap (λ (n : ℕ). n * a) s.left) ∙ s.left_whole;
      right_whole = sym (ap (λ (n : ℕ). n * b) s.right) ∙ s.right_whole;
      left_positive = subst (λ (n : ℕ). 0 < n) s.left s.left_positive;
      right_positive = subst (λ (n : ℕ). 0 < n) s.right s.right_positive;
    }

pub ruleset multiples = (lcm-shares, divisor_positive)
