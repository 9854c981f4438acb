-- Lowest terms: what the greatest common divisor leaves, and that no other fraction has the same value.
use Prim.Native.Nat.{◌∣◌}
use Rattle.std.proofs.Common.{◌≡◌, ℕ, zero, suc, ◌*◌, ◌/◌, ◌%◌, ◌<◌, ◌≤◌, arith, refl, sym, ◌∙◌, ap, subst}
use Rattle.std.proofs.Math.Nat.{div-mul_cancel, dvd_of_mul-dvd-mul_right, mul-dvd-mul_right, dvd-mul_left, dvd-mul_right, one-dvd, eq-one_of_dvd-one, pos_of_dvd_of_pos, mod-lt, mul_comm, mul_assoc, le_of_mul-le-mul_right}
use Rattle.std.proofs.lemmas.Nat.Gcd.{IsGcd-from_zero, IsGcd-from_mod, dvd_antisymm}
use Rattle.std.specs.Int.{IsGcd}

-- there is a greatest common divisor
gcd_within : (n a b : ℕ) → b ≤ n → (g : ℕ) × IsGcd a b g
gcd_within n a zero h = (a, IsGcd-from_zero a zero refl)
gcd_within zero a (suc b) h = absurd (omega arith)
gcd_within (suc n) a (suc b) h =
    let small : a % suc b < suc b = mod-lt a (omega arith) in
    let r = gcd_within n (suc b) (a % suc b) (omega arith) in
    (r.0, IsGcd-from_mod a (suc b) r.0 r.1)

-- the divisor is not 0
pub divisor_positive : (a b g : ℕ) → 0 < b → IsGcd a b g → 0 < g
divisor_positive a b g h d = pos_of_dvd_of_pos d.1 h

-- a divisor of a part, times g
scaled : (a g d : ℕ) → g ∣ a → d ∣ a / g → d * g ∣ a
scaled a g d h k =
    let P : ℕ → Type 0 = λ n. d * g ∣ n in
    subst P (div-mul_cancel g h) (mul-dvd-mul_right d k g)

unscaled : (g d : ℕ) → 0 < g → d * g ∣ g → d ∣ 1
unscaled g d h k =
    let P : ℕ → Type 0 = λ n. d * g ∣ n in
    let e : g ≡ 1 * g = omega arith in
    dvd_of_mul-dvd-mul_right {k = g} d {n = 1} h (subst P e k)

-- what is left has no common divisor
pub parts_coprime : (a b g : ℕ) → 0 < g → IsGcd a b g → IsGcd (a / g) (b / g) 1
parts_coprime a b g h d =
    (one-dvd (a / g), one-dvd (b / g), λ k p q. unscaled g k h (d.2 (k * g) (scaled a g k d.0 p) (scaled b g k d.1 q)))

-- a divisor of a product with a factor that has nothing in common with it divides the other factor
pub divides_other : (a b d : ℕ) → 0 < d → IsGcd a b 1 → b ∣ a * d → b ∣ d
divides_other a b d h one k =
    let r = gcd_within (b * d) (a * d) (b * d) (omega arith) in
    let G = r.0 in
    let P : ℕ → Type 0 = λ n. n ∣ a * d in
    let Q : ℕ → Type 0 = λ n. n ∣ b * d in
    let R : ℕ → Type 0 = λ n. b ∣ n in
    let below : d ∣ G = r.1.2 d (dvd-mul_left d a) (dvd-mul_left d b) in
    let e : G / d * d ≡ G = div-mul_cancel d below in
    let pa : G / d ∣ a = dvd_of_mul-dvd-mul_right {k = d} (G / d) {n = a} h (subst P (sym e) r.1.0) in
    let pb : G / d ∣ b = dvd_of_mul-dvd-mul_right {k = d} (G / d) {n = b} h (subst Q (sym e) r.1.1) in
    let unit : G / d ≡ 1 = eq-one_of_dvd-one (one.2 (G / d) pa pb) in
    let same : G ≡ d = sym e ∙ ap (λ (n : ℕ). n * d) unit ∙ (omega arith) in
    subst R same (r.1.2 b k (dvd-mul_right b d))

pub same_from_scaled : (a b k : ℕ) → 0 < k → a * k ≡ b * k → a ≡ b
same_from_scaled a b k h e =
    let p : a * k ≤ b * k = omega arith in
    let q : b * k ≤ a * k = omega arith in
    omega (arith, le_of_mul-le-mul_right {m = a} {n = b} {k = k} p h, le_of_mul-le-mul_right {m = b} {n = a} {k = k} q h)

-- two fractions of one value in lowest terms are the same
pub same_parts : (a b c d : ℕ) → 0 < b → 0 < d → IsGcd a b 1 → IsGcd c d 1 → a * d ≡ c * b → (a ≡ c) × (b ≡ d)
same_parts a b c d hb hd p q e =
    let P : ℕ → Type 0 = λ n. b ∣ n in
    let Q : ℕ → Type 0 = λ n. d ∣ n in
    let R : ℕ → Type 0 = λ n. a * n ≡ c * b in
    let low : b ∣ d = divides_other a b d hd p (subst P (sym e) (dvd-mul_left b c)) in
    let high : d ∣ b = divides_other c d b hb q (subst Q e (dvd-mul_left d a)) in
    let same : b ≡ d = dvd_antisymm low high in
    (same_from_scaled a c b hb (subst R (sym same) e), same)

-- a quotient by a divisor is not 0
pub quotient_positive : (m g : ℕ) → 0 < m → g ∣ m → 0 < m / g
quotient_positive m g h d = cases (m / g) (div-mul_cancel g d)
  where
    cases : (k : ℕ) → k * g ≡ m → 0 < k
    cases zero e = absurd (omega arith)
    cases (suc k) e = omega arith

-- the same for what the greatest common divisor leaves of n and m
pub same_as_left : (a b n m g : ℕ) → 0 < b → 0 < m → IsGcd a b 1 → IsGcd n m g → a * m ≡ n * b → (a ≡ n / g) × (b ≡ m / g)
same_as_left a b n m g hb hm p d e =
    let pg = divisor_positive n m g hm d in
    let en : n / g * g ≡ n = div-mul_cancel g d.0 in
    let em : m / g * g ≡ m = div-mul_cancel g d.1 in
    let left : a * (m / g) * g ≡ a * m = mul_assoc a (m / g) g ∙ ap (λ (k : ℕ). a * k) em in
    let right : n / g * b * g ≡ n * b = mul_assoc (n / g) b g ∙ ap (λ (k : ℕ). n / g * k) (mul_comm b g) ∙ sym (mul_assoc (n / g) g b) ∙ ap (λ (k : ℕ). k * b) en in
    let crossed : a * (m / g) ≡ n / g * b = same_from_scaled _ _ g pg (left ∙ e ∙ sym right) in
    same_parts a b (n / g) (m / g) hb (quotient_positive m g hm d.1) p (parts_coprime n m g pg d) crossed
