-- The sum of a series, one polynomial after the other.
use Rattle.std.proofs.Common.{◌≡◌, ℕ, zero, suc, ◌+◌, ◌-◌, ◌*◌, ◌/◌, ◌^◌, ◌≤◌, ◌<◌, max, Bool, true, false, ◌==◌, List, [], length, get_or, Option, unwrap_or, refl, sym, ap, ◌∙◌, subst, arith, ℤ, pos, ◌+ℤ◌, ◌*ℤ◌, mul-le-mul, mul-le-mul_right, mul-le-mul_left, mul_comm, mul_assoc, mul-add, mul-pos, pow-suc, mul-div_cancel}
use Rattle.std.proofs.Math.Nat.{pow-zero}
use Rattle.std.proofs.lemmas.Int.{ints}
use Rattle.std.proofs.Math.IntN.{zero-*ℤ}
use Rattle.std.proofs.lemmas.Option.{slice_get-get_or}
use Rattle.std.proofs.lemmas.Bool.{eqb-true, eqb-false}
use Rattle.std.proofs.lemmas.Bool.Decides.{nat_tests}
use Rattle.vp_terms.specs.Rational.{whole, sum}
use Rattle.vp_poly.specs.declared.mono.Term.{Term}
use Rattle.vp_poly.specs.Poly.{Powers, IsWithin, only_at, coef, norm, degree}
use Rattle.vp_poly.specs.Product.{sum_to, split_sum}
use Rattle.vp_poly.specs.Coefficient.{Coefficients, times}
use Rattle.vp_poly.specs.Times.{IsTimes, HasCoefficients}
use Rattle.vp_poly.specs.Places.{places_for}
use Rattle.vp_poly.specs.Weights.{Weights, fits}
use Rattle.vp_poly.proofs.ProductValues.{whole-product}
use Rattle.vp_poly.proofs.TimesLaws.{IsTimes-same, IsTimes-sum, IsTimes-scaled, IsTimes-only_at, whole-sum}
use Rattle.vp_flow.specs.Series.{factorial, factorial_positive, tau_powers, tau_power}
use Rattle.vp_flow.specs.Parts.{IsSized}
use Rattle.vp_flow.specs.Assembly.{IsAssembled, HasSum, nth}
use Rattle.vp_flow.specs.Weights.{flow_weight, added_to}
use Rattle.vp_flow.specs.declared.bounds.Bounds.{Bounds}
use Rattle.vp_flow.specs.declared.rates.Rates.{Rates}
use Rattle.vp_flow.proofs.Bridge.{IsTimes-conv}
use Rattle.vp_flow.proofs.Derivative.{IsTimes-over, over}

-- ---- the norms of weights

added_to-same : (n : ℕ) (f g : ℕ → ℕ) → ((k : ℕ) → k ≤ n → f k ≡ g k) → added_to n f ≡ added_to n g
added_to-same zero f g h = h 0 (omega arith)
added_to-same (suc n) f g h = let a = added_to-same n f g (λ k le. h k (omega arith)) in let b = h (suc n) (omega arith) in omega arith

added_to-times : (n c : ℕ) (f : ℕ → ℕ) → added_to n (λ k. c * f k) ≡ c * added_to n f
added_to-times zero c f = refl
added_to-times (suc n) c f = let a = added_to-times n c f in omega (arith, mul-add c (added_to n f) (f (suc n)))

-- a greater factorial is a multiple
multiple : (h k : ℕ) → k ≤ h → (q : ℕ) × (factorial h ≡ q * factorial k)
multiple zero k le = let e : 0 ≡ k = omega arith in (1, subst (λ (n : ℕ). 1 ≡ 1 * factorial n) e refl)
multiple (suc h) k le = case (k == suc h) refl (multiple h k)
  where
    case : (v : Bool) → (k == suc h) ≡ v → (k ≤ h → (q : ℕ) × (factorial h ≡ q * factorial k)) → (q : ℕ) × (suc h * factorial h ≡ q * factorial k)
    case true t more = let e : suc h ≡ k = sym (eqb-true k (suc h) t) in (1, subst (λ (n : ℕ). factorial (suc h) ≡ 1 * factorial n) e (let o : factorial (suc h) ≡ 1 * factorial (suc h) = omega arith in o))
    case false t more =
        let ne = eqb-false k (suc h) t in
        let r = more (omega arith) in
        (suc h * r.0, ap (λ (n : ℕ). suc h * n) r.1 ∙ sym (mul_assoc (suc h) r.0 (factorial k)))

quotient : (q d n : ℕ) → 0 < d → n ≡ q * d → n / d ≡ q
quotient q d n h e = ap (λ (w : ℕ). w / d) e ∙ mul-div_cancel q h

ratio-next : (h k : ℕ) → k ≤ h → factorial (suc h) / factorial k ≡ suc h * (factorial h / factorial k)
ratio-next h k le =
    let r = multiple h k le in
    let a = quotient r.0 (factorial k) (factorial h) (factorial_positive k) r.1 in
    let b = quotient (suc h * r.0) (factorial k) (factorial (suc h)) (factorial_positive k) (ap (λ (n : ℕ). suc h * n) r.1 ∙ sym (mul_assoc (suc h) r.0 (factorial k))) in
    b ∙ ap (λ (n : ℕ). suc h * n) (sym a)

ratio-own : (h : ℕ) → factorial h / factorial h ≡ 1
ratio-own h = quotient 1 (factorial h) (factorial h) (factorial_positive h) (omega arith)

four : (a b c d e : ℕ) → a * (b * c) * (d * e) ≡ (c * d) * (a * b * e)
four a b c d e = omega arith

pub norm-next : (b : Bounds) (h : ℕ) → (flow_weight b (suc h)).norm ≡ (b.common * suc h) * (flow_weight b h).norm + b.norm ^ suc h
norm-next b h =
    let first = added_to-same h (λ k. b.norm ^ k * b.common ^ (suc h - k) * (factorial (suc h) / factorial k)) (λ k. (b.common * suc h) * (b.norm ^ k * b.common ^ (h - k) * (factorial h / factorial k)))
    (λ k le.
    let s : suc h - k ≡ suc (h - k) = omega arith in
    ap (λ (n : ℕ). b.norm ^ k * b.common ^ n * (factorial (suc h) / factorial k)) s
    ∙ ap (λ (n : ℕ). b.norm ^ k * n * (factorial (suc h) / factorial k)) (pow-suc b.common (h - k))
    ∙ ap (λ (n : ℕ). b.norm ^ k * (b.common ^ (h - k) * b.common) * n) (ratio-next h k le)
    ∙ four (b.norm ^ k) (b.common ^ (h - k)) b.common (suc h) (factorial h / factorial k)) in
    let all = added_to-times h (b.common * suc h) (λ k. b.norm ^ k * b.common ^ (h - k) * (factorial h / factorial k)) in
    let last : b.norm ^ suc h * b.common ^ (suc h - suc h) * (factorial (suc h) / factorial (suc h)) ≡ b.norm ^ suc h =
    ap (λ (n : ℕ). b.norm ^ suc h * b.common ^ n * (factorial (suc h) / factorial (suc h))) (let s : suc h - suc h ≡ 0 = omega arith in s)
    ∙ ap (λ (n : ℕ). b.norm ^ suc h * n * (factorial (suc h) / factorial (suc h))) (pow-zero b.common)
    ∙ ap (λ (n : ℕ). b.norm ^ suc h * 1 * n) (ratio-own (suc h))
    ∙ (let o : b.norm ^ suc h * 1 * 1 ≡ b.norm ^ suc h = omega arith in o) in
    ap (λ (n : ℕ). n + b.norm ^ suc h * b.common ^ (suc h - suc h) * (factorial (suc h) / factorial (suc h))) (first ∙ all)
    ∙ ap (λ (n : ℕ). (b.common * suc h) * added_to h (λ k. b.norm ^ k * b.common ^ (h - k) * (factorial h / factorial k)) + n) last

pub norm-none : (b : Bounds) → (flow_weight b 0).norm ≡ 1
norm-none b =
    ap (λ (n : ℕ). n * b.common ^ 0 * (factorial 0 / factorial 0)) (pow-zero b.norm)
    ∙ ap (λ (n : ℕ). 1 * n * (factorial 0 / factorial 0)) (pow-zero b.common)
    ∙ ap (λ (n : ℕ). 1 * 1 * n) (ratio-own 0)

-- ---- what a weight that fits says

pub record IsLimited (w : Weights) : Type 0 where
  pub norm : w.norm < 2 ^ 62
  pub den : w.den < 2 ^ 62
  pub degree : w.degree ≤ 12
  pub terms : w.terms ≤ 4096

pub limited : (w : Weights) → fits w ≡ true → IsLimited w
limited w h = record { norm = grind (arith, nat_tests); den = grind (arith, nat_tests); degree = grind (arith, nat_tests); terms = grind (arith, nat_tests) }

pub den-factor : (e k : ℕ) → 1 ≤ e → e * suc k ≤ e ^ suc k * factorial (suc k)
den-factor e k one =
    let p : 1 ≤ e ^ k = pow_one e k one in
    let f = factorial_positive k in
    let a : e * 1 ≤ e * e ^ k = mul-le-mul_left e p in
    let b : suc k * 1 ≤ suc k * factorial k = mul-le-mul_left (suc k) f in
    let c : e * suc k ≤ (e ^ k * e) * (suc k * factorial k) = mul-le-mul (let q : e ≤ e ^ k * e = omega (arith, mul_comm e (e ^ k)) in q) (let q : suc k ≤ suc k * factorial k = omega arith in q) in
    omega (arith, ap (λ (n : ℕ). n * (suc k * factorial k)) (pow-suc e k))
  where
    pow_one : (e k : ℕ) → 1 ≤ e → 1 ≤ e ^ k
    pow_one e zero h = omega (arith, pow-zero e)
    pow_one e (suc k) h = omega (arith, pow-suc e k, mul-pos (let p : 0 < e ^ k = pow_one e k h in p) h)

-- ---- one polynomial more

-- what is known where the polynomial k is added
pub record IsAdding (r : Rates) (parts : List (List Term)) (k : ℕ) (flow part : List Term) : Type 0 where
  pub common : 1 ≤ r.bounds.common
  pub before : IsAssembled r parts k flow
  pub is : nth parts k ≡ part
  pub size : IsSized r.bounds k part
  pub fits : fits (flow_weight r.bounds k) ≡ true

pub record IsEasy (r : Rates) (k : ℕ) (flow part : List Term) : Type 0 where
  pub factor : r.bounds.common * k < 2 ^ 62
  pub small : norm flow * (r.bounds.common * k) + norm part < 2 ^ 126
  pub few : length flow + length part < 2 ^ 32
  pub low : degree part + k ≤ 48

pub easy : (r : Rates) (parts : List (List Term)) (k : ℕ) (flow part : List Term) → IsAdding r parts k flow part → IsEasy r k flow part
easy r parts zero flow part x =
    let w = limited (flow_weight r.bounds 0) x.fits in
    let n : norm flow * (r.bounds.common * 0) ≡ 0 = omega arith in
    let l : length flow ≡ 0 = ap (λ (ts : List Term). length ts) x.before in
    record {
      factor = omega arith;
      small = omega (arith, x.size.norm_le, pow-zero r.bounds.norm);
      few = omega (arith, x.size.length_le, pow-zero r.bounds.terms);
      low = omega (arith, x.size.degree_le);
    }
easy r parts (suc k) flow part x =
    let w = limited (flow_weight r.bounds (suc k)) x.fits in
    let n = norm-next r.bounds k in
    let a : norm flow * (r.bounds.common * suc k) ≤ (flow_weight r.bounds k).norm * (r.bounds.common * suc k) = mul-le-mul_right (r.bounds.common * suc k) x.before.within.norm_le in
    let c = mul_comm (flow_weight r.bounds k).norm (r.bounds.common * suc k) in
    record {
      factor = omega (arith, den-factor r.bounds.common k x.common, w.den);
      small = omega (arith, x.size.norm_le, w.norm);
      few = omega (arith, x.size.length_le, x.before.within.length_le, w.terms);
      low = omega (arith, x.size.degree_le, w.degree);
    }

-- the new coefficients
IsTimes-power : (r : Rates) (k : ℕ) (part : List Term) (f : Coefficients) → HasCoefficients (r.bounds.common ^ k) part f → (m : Powers) → IsTimes (r.bounds.common ^ k * factorial k) (whole (split_sum m (λ a b. coef part a *ℤ only_at (tau_powers (places_for r.counts) k) b (pos 1)))) (times f (tau_power (places_for r.counts) k) m)
IsTimes-power r k part f h m =
    IsTimes-conv (r.bounds.common ^ k) (factorial k) (coef part) (λ b. only_at (tau_powers (places_for r.counts) k) b (pos 1)) f (tau_power (places_for r.counts) k) h.each
    (λ b. IsTimes-only_at (factorial k) (tau_powers (places_for r.counts) k) b (pos 1) (over k) (IsTimes-over k)) m

dens-next : (e k n : ℕ) → (e * suc k) * (e ^ k * n) ≡ e ^ suc k * (suc k * n)
dens-next e k n = omega (arith, ap (λ (w : ℕ). w * (suc k * n)) (pow-suc e k))

none_of : (x y z : ℤ) → x ≡ pos 0 → y ≡ x +ℤ z → z ≡ y
none_of x y z e f = omega (arith, ints)

zero_times : (c : ℤ) → pos 0 *ℤ c ≡ pos 0
zero_times c = zero-*ℤ c

pub HasSum-more : (r : Rates) (parts : List (List Term)) (k : ℕ) (flow part out : List Term) → IsAdding r parts k flow part → ((m : Powers) → coef out m ≡ pos (r.bounds.common * k) *ℤ coef flow m +ℤ split_sum m (λ a b. coef part a *ℤ only_at (tau_powers (places_for r.counts) k) b (pos 1))) → IsWithin out (norm flow * (r.bounds.common * k) + norm part) (max (degree flow) (degree part + k)) (length flow + length part) → HasSum r parts k out
HasSum-more r parts zero flow part out x c s = record {
  coefficients = λ f h. record {
    each = λ m.
        subst (λ (z : ℤ). IsTimes (r.bounds.common ^ 0 * 1) (whole z) (times (f 0) (tau_power (places_for r.counts) 0) m))
        (none_of (pos (r.bounds.common * 0) *ℤ coef flow m) (coef out m) (split_sum m (λ a b. coef part a *ℤ only_at (tau_powers (places_for r.counts) 0) b (pos 1)))
        (ap (λ (n : ℕ). pos n *ℤ coef flow m) (let z : r.bounds.common * 0 ≡ 0 = omega arith in z) ∙ zero_times (coef flow m)) (c m))
        (IsTimes-power r 0 part (f 0) (subst (λ (l : List Term). HasCoefficients (r.bounds.common ^ 0) l (f 0)) x.is (h 0 (omega arith))) m);
  };
  within =
      let l : length flow ≡ 0 = ap (λ (ts : List Term). length ts) x.before in
      let d : degree flow ≡ 0 = ap degree x.before in
      let n : norm flow * (r.bounds.common * 0) ≡ 0 = omega arith in
      record {
        norm_le = omega (arith, s.norm_le, x.size.norm_le, pow-zero r.bounds.norm, norm-none r.bounds);
        degree_le = omega (arith, s.degree_le, x.size.degree_le);
        length_le = omega (arith, s.length_le, x.size.length_le);
      };
}
HasSum-more r parts (suc k) flow part out x c s = record {
  coefficients = λ f h.
      let before = x.before.coefficients f (λ j lt. h j (omega arith)) in
      let here = subst (λ (l : List Term). HasCoefficients (r.bounds.common ^ suc k) l (f (suc k))) x.is (h (suc k) (omega arith)) in
      record {
        each = λ m.
            subst (λ (z : ℤ). IsTimes (r.bounds.common ^ suc k * factorial (suc k)) (whole z) (sum (sum_to sum k (λ j. times (f j) (tau_power (places_for r.counts) j) m)) (times (f (suc k)) (tau_power (places_for r.counts) (suc k)) m))) (sym (c m))
            (IsTimes-same (r.bounds.common ^ suc k * factorial (suc k)) _ _ _ (whole-sum (pos (r.bounds.common * suc k) *ℤ coef flow m) (split_sum m (λ a b. coef part a *ℤ only_at (tau_powers (places_for r.counts) (suc k)) b (pos 1))))
            (IsTimes-sum (r.bounds.common ^ suc k * factorial (suc k)) _ _ _ _
            (subst (λ (d : ℕ). IsTimes d (whole (pos (r.bounds.common * suc k) *ℤ coef flow m)) (sum_to sum k (λ j. times (f j) (tau_power (places_for r.counts) j) m))) (dens-next r.bounds.common k (factorial k))
            (IsTimes-same ((r.bounds.common * suc k) * (r.bounds.common ^ k * factorial k)) _ _ _ (whole-product (pos (r.bounds.common * suc k)) (coef flow m)) (IsTimes-scaled (r.bounds.common * suc k) (r.bounds.common ^ k * factorial k) _ _ (before.each m))))
            (IsTimes-power r (suc k) part (f (suc k)) here m)));
      };
  within =
      let n = norm-next r.bounds k in
      let w = x.before.within in
      let a : norm flow * (r.bounds.common * suc k) ≤ (flow_weight r.bounds k).norm * (r.bounds.common * suc k) = mul-le-mul_right (r.bounds.common * suc k) w.norm_le in
      let b = mul_comm (flow_weight r.bounds k).norm (r.bounds.common * suc k) in
      record {
        norm_le = omega (arith, s.norm_le, x.size.norm_le);
        degree_le = omega (arith, s.degree_le, x.size.degree_le, w.degree_le);
        length_le = omega (arith, s.length_le, x.size.length_le, w.length_le);
      };
}

pub adding : (r : Rates) (parts : List (List Term)) (k : ℕ) (flow part : List Term) → 1 ≤ r.bounds.common → IsAssembled r parts k flow → k < length parts → part ≡ get_or parts k part → ((k : ℕ) → k < length parts → IsSized r.bounds k (nth parts k)) → ((k : ℕ) → k < length parts → fits (flow_weight r.bounds k) ≡ true) → IsAdding r parts k flow part
adding r parts k flow part common before lt e sizes fit =
    let is : nth parts k ≡ part = ap (λ (o : Option (List Term)). unwrap_or o []) (slice_get-get_or parts k part lt) ∙ sym e in
    record { common = common; before = before; is = is; size = subst (λ (l : List Term). IsSized r.bounds k l) is (sizes k lt); fits = fit k lt }

pub IsAssembled-next : (r : Rates) (parts : List (List Term)) (k : ℕ) (out : List Term) → HasSum r parts k out → IsAssembled r parts (k + 1) out
IsAssembled-next r parts k out h = let s : suc k ≡ k + 1 = omega arith in subst (λ (n : ℕ). IsAssembled r parts n out) s h
