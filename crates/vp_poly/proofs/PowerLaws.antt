-- What powers stand on.
use Rattle.std.proofs.Common.{◌≡◌, ℕ, zero, suc, ◌+◌, ◌-◌, ◌*◌, ◌<◌, ◌≤◌, ◌^◌, Bool, true, List, [], length, replicate, refl, sym, ap, subst, arith, pos, ◌*ℤ◌, get_or}
use Rattle.std.proofs.Math.Nat.{pow-suc, pow-succ', pow-zero, mul-pos, mul-le-mul_left, mul-le-mul_right}
use Rattle.vp_terms.specs.Rational.{Rational, whole, product, power, Equals}
use Rattle.vp_poly.specs.declared.mono.Term.{Term}
use Rattle.vp_poly.specs.Poly.{Powers, coef, norm, degree, IsPoly, IsWithin}
use Rattle.vp_poly.specs.Product.{split_sum}
use Rattle.vp_poly.specs.Places.{AreBelow, HaveOnly}
use Rattle.vp_poly.specs.Value.{Point, value_at}
use Rattle.vp_poly.specs.Coefficient.{Coefficients, constant, times, to_power}
use Rattle.vp_poly.specs.Times.{IsTimes, HasCoefficients}
use Rattle.vp_poly.specs.Weights.{Weights, fits, weight_power}
use Rattle.vp_poly.specs.Canonical.{IsWeighed}
use Rattle.vp_poly.specs.Unity.{unity, HasPower}
use Rattle.vp_poly.proofs.BelowLaws.{AreBelow-cons, AreBelow-nil, HaveOnly-cons, HaveOnly-nil}
use Rattle.vp_poly.proofs.TimesLaws.{HasCoefficients-product, IsTimes-product, IsTimes-same}
use Rattle.vp_poly.proofs.NumberLaws.{HasCoefficients-number, number-values}
use Rattle.vp_poly.proofs.WeighedLaws.{IsUnder-fits, norm_if-true, times_le}

-- ---- bounds

one_le-pow : (a k : ℕ) → 0 < a → 1 ≤ a ^ k
one_le-pow a zero h = omega (arith, pow-zero a)
one_le-pow a (suc k) h = omega (arith, pow-suc a k, mul-pos (let p : 0 < a ^ k = one_le-pow a k h in p) h)

zero_pow : (k : ℕ) → 0 ^ suc k ≡ 0
zero_pow k = omega (arith, pow-suc 0 k)

-- a lower power is at most 1 or the higher one
pow_le : (a i j : ℕ) → 0 < a → a ^ i ≤ a ^ (i + j)
pow_le a i zero h = let e : i + 0 ≡ i = omega arith in rw e (omega arith)
pow_le a i (suc j) h =
    let e : i + suc j ≡ suc (i + j) = omega arith in
    rw e (omega (arith, pow-suc a (i + j), pow_le a i j h, mul-le-mul_left (a ^ (i + j)) (let p : 1 ≤ a = h in p)))

pub pow_below : (a i k b : ℕ) → i ≤ k → a ^ k ≤ b → 1 ≤ b → a ^ i ≤ b
pow_below zero zero k b le h one = omega arith
pow_below zero (suc i) k b le h one = omega (arith, zero_pow i)
pow_below (suc a) i k b le h one =
    let e : i + (k - i) ≡ k = omega arith in
    omega (arith, pow_le (suc a) i (k - i) (omega arith), ap (λ (n : ℕ). suc a ^ n) e)

-- ---- the conditions of the next factor

-- what the weight says where it isn't over
pub record IsRaisable (w : Weights) (k : ℕ) : Type 0 where
  pub norm : w.norm ^ k ≤ 2 ^ 62
  pub den : w.den ^ k ≡ (weight_power w k).den
  pub degree : k * w.degree ≤ 12
  pub terms : w.terms ^ k ≤ 4096

pub IsRaisable-of : (w : Weights) (k : ℕ) → fits (weight_power w k) ≡ true → IsRaisable w k
IsRaisable-of w k f =
    let u = IsUnder-fits (weight_power w k) f in
    let n = norm_if-true (fits w) (w.norm ^ k) u.norm in
    record {
      norm = omega (arith, u.norm);
      den = (let d = u.den in omega arith);
      degree = (let d = u.degree in omega arith);
      terms = (let t = u.terms in omega arith);
    }

pub power-small : (ts ps : List Term) (w : Weights) (i k : ℕ) → IsWeighed ts w → fits (weight_power w k) ≡ true → HasPower ts w i ps → i < k → norm ts * norm ps < 2 ^ 126
power-small ts ps w i k h f p lt =
    let u = IsUnder-fits w h.fits in
    let r = IsRaisable-of w k f in
    let a : norm ts ≤ 2 ^ 62 = omega (arith, h.within.norm_le, u.norm) in
    let b : norm ps ≤ 2 ^ 62 = omega (arith, p.within.norm_le, pow_below w.norm i k (2 ^ 62) (omega arith) r.norm (omega arith)) in
    let c : norm ts < 2 ^ 62 = omega (arith, h.within.norm_le, u.norm) in
    let d = times_le (norm ts) (norm ps) (2 ^ 62 - 1) (2 ^ 62) (omega arith) b in
    omega arith

pub power-few : (ts ps : List Term) (w : Weights) (i k : ℕ) → IsWeighed ts w → fits (weight_power w k) ≡ true → HasPower ts w i ps → i < k → length ts * length ps < 2 ^ 32
power-few ts ps w i k h f p lt =
    let u = IsUnder-fits w h.fits in
    let r = IsRaisable-of w k f in
    let a : length ts ≤ 4096 = omega (arith, h.within.length_le, u.terms) in
    let b : length ps ≤ 4096 = omega (arith, p.within.length_le, pow_below w.terms i k 4096 (omega arith) r.terms (omega arith)) in
    omega (arith, times_le (length ts) (length ps) 4096 4096 a b)

pub power-low : (ts ps : List Term) (w : Weights) (i k : ℕ) → IsWeighed ts w → fits (weight_power w k) ≡ true → HasPower ts w i ps → i < k → degree ts + degree ps ≤ 48
power-low ts ps w i k h f p lt =
    let u = IsUnder-fits w h.fits in
    let r = IsRaisable-of w k f in
    let b = mul-le-mul_right w.degree (let le : i ≤ k = omega arith in le) in
    omega (arith, h.within.degree_le, u.degree, p.within.degree_le, r.degree)

-- ---- the powers

pub get_or-same : (z n k : ℕ) → get_or (replicate n z) k z ≡ z
get_or-same z zero k = refl
get_or-same z (suc n) zero = refl
get_or-same z (suc n) (suc k) = get_or-same z n k

pow_zero : (a : ℕ) → a ^ 0 ≡ 1
pow_zero a = pow-zero a

pub HasPower-none : (ts ps : List Term) (w : Weights) → ps ≡ unity → IsPoly ps → HasPower ts w 0 ps
HasPower-none ts ps w e p = record {
  poly = p;
  within = rw e (record { norm_le = omega (arith, pow_zero w.norm); degree_le = omega arith; length_le = omega (arith, pow_zero w.terms) });
  places = λ v b. rw e (AreBelow-cons v (record { mono = record { powers = replicate 32 0 }; coef = pos 1 }) [] (record { none = λ k le. get_or-same 0 32 k }) (AreBelow-nil v));
  only = λ f b. rw e (HaveOnly-cons f (record { mono = record { powers = replicate 32 0 }; coef = pos 1 }) [] (record { others = λ k no_place. get_or-same 0 32 k }) (HaveOnly-nil f));
  coefficients = λ f h. subst (λ (d : ℕ). HasCoefficients d ps (constant (whole (pos 1)))) (sym (pow_zero w.den)) (HasCoefficients-number (pos 1) (pos 1) ps (whole (pos 1)) e refl refl);
  values = λ x q h. subst (λ (d : ℕ). IsTimes d (value_at ps x) (whole (pos 1))) (sym (pow_zero w.den)) (number-values (pos 1) (pos 1) ps (record { mono = record { powers = replicate 32 0 }; coef = pos 1 }) _ (whole (pos 1)) x refl e refl refl refl);
}

pub power_next : (ts ps zs : List Term) (w : Weights) (i : ℕ) → IsWeighed ts w → HasPower ts w i ps → IsPoly zs →
    ((m : Powers) → coef zs m ≡ split_sum m (λ a b. coef ts a *ℤ coef ps b)) →
    ((a : Point) → Equals (value_at zs a) (product (value_at ts a) (value_at ps a))) →
    IsWithin zs (norm ts * norm ps) (degree ts + degree ps) (length ts * length ps) →
    ((v : ℕ) → AreBelow v ts → AreBelow v ps → AreBelow v zs) →
    ((f : ℕ → Bool) → HaveOnly f ts → HaveOnly f ps → HaveOnly f zs) → HasPower ts w (suc i) zs
power_next ts ps zs w i h p poly cs vs size below only = record {
  poly = poly;
  within = record {
    norm_le = omega (arith, size.norm_le, times_le (norm ts) (norm ps) w.norm (w.norm ^ i) h.within.norm_le p.within.norm_le, pow-succ' w.norm i);
    degree_le = omega (arith, size.degree_le, h.within.degree_le, p.within.degree_le);
    length_le = omega (arith, size.length_le, times_le (length ts) (length ps) w.terms (w.terms ^ i) h.within.length_le p.within.length_le, pow-succ' w.terms i);
  };
  places = λ v b. below v b (p.places v b);
  only = λ f b. only f b (p.only f b);
  coefficients = λ f g. subst (λ (d : ℕ). HasCoefficients d zs (times f (to_power f i))) (sym (pow-succ' w.den i)) (HasCoefficients-product w.den (w.den ^ i) ts ps zs f (to_power f i) g (p.coefficients f g) cs);
  values = λ x q g. subst (λ (d : ℕ). IsTimes d (value_at zs x) (product q (power q i))) (sym (pow-succ' w.den i)) (IsTimes-same (w.den * w.den ^ i) _ _ _ (vs x) (IsTimes-product w.den (w.den ^ i) _ _ q (power q i) g (p.values x q g)));
}

pub HasPower-more : (ts ps zs : List Term) (w : Weights) (i : ℕ) → IsWeighed ts w → HasPower ts w i ps → IsPoly zs →
    ((m : Powers) → coef zs m ≡ split_sum m (λ a b. coef ts a *ℤ coef ps b)) →
    ((a : Point) → Equals (value_at zs a) (product (value_at ts a) (value_at ps a))) →
    IsWithin zs (norm ts * norm ps) (degree ts + degree ps) (length ts * length ps) →
    ((v : ℕ) → AreBelow v ts → AreBelow v ps → AreBelow v zs) →
    ((f : ℕ → Bool) → HaveOnly f ts → HaveOnly f ps → HaveOnly f zs) → HasPower ts w (i + 1) zs
HasPower-more ts ps zs w i h p poly cs vs size below only =
    let e : suc i ≡ i + 1 = omega arith in
    subst (λ (n : ℕ). HasPower ts w n zs) e (power_next ts ps zs w i h p poly cs vs size below only)

-- ---- the last power

pub record IsRaised (ts : List Term) (w r : Weights) (k : ℕ) (ps : List Term) : Type 0 where
  pub weighed : IsWeighed ps r
  pub canonical : IsPoly ps
  pub places : (v : ℕ) → AreBelow v ts → AreBelow v ps
  pub only : (f : ℕ → Bool) → HaveOnly f ts → HaveOnly f ps
  pub coefficients : (f : Coefficients) → HasCoefficients w.den ts f → HasCoefficients r.den ps (to_power f k)
  pub values : (x : Point) (q : Rational) → IsTimes w.den (value_at ts x) q → IsTimes r.den (value_at ps x) (power q k)

raised : (ts ps : List Term) (w : Weights) (k : ℕ) → fits (weight_power w k) ≡ true → HasPower ts w k ps → IsRaised ts w (weight_power w k) k ps
raised ts ps w k f p =
    let r = IsRaisable-of w k f in
    let u = IsUnder-fits (weight_power w k) f in
    let n = norm_if-true (fits w) (w.norm ^ k) u.norm in
    record {
      weighed = record {
        fits = f;
        within = record {
          norm_le = omega (arith, p.within.norm_le);
          degree_le = omega (arith, p.within.degree_le, r.degree);
          length_le = omega (arith, p.within.length_le, r.terms);
        };
      };
      canonical = p.poly;
      places = p.places;
      only = p.only;
      coefficients = λ g h. subst (λ (d : ℕ). HasCoefficients d ps (to_power g k)) r.den (p.coefficients g h);
      values = λ x q h. subst (λ (d : ℕ). IsTimes d (value_at ps x) (power q k)) r.den (p.values x q h);
    }

-- where r is the weight that was found, and i the last count
pub IsRaised-of : (ts ps : List Term) (w r : Weights) (i k : ℕ) → r ≡ weight_power w k → i ≡ k → fits (weight_power w k) ≡ true → HasPower ts w i ps → IsRaised ts w r k ps
IsRaised-of ts ps w r i k e d f p =
    subst (λ (v : Weights). IsRaised ts w v k ps) (sym e) (raised ts ps w k f (subst (λ (n : ℕ). HasPower ts w n ps) d p))

pub ruleset raising = (power-small, power-few, power-low, HasPower-none)
