-- Weights of flows grow with the height.
use Rattle.std.proofs.Common.{◌≡◌, ℕ, zero, suc, ◌+◌, ◌*◌, ◌/◌, ◌^◌, ◌≤◌, ◌<◌, Bool, true, false, ◌==◌, nat_lt, Option, None, MatchOption, refl, sym, ap, ◌∙◌, subst, arith, mul-le-mul, mul-le-mul_right, mul-le-mul_left, mul_comm, mul-pos, pow-suc}
use Rattle.std.proofs.Math.Nat.{pow-zero}
use Rattle.std.proofs.lemmas.Bool.{eqb-true, eqb-false}
use Rattle.std.proofs.lemmas.Bool.Decides.{nat_tests}
use Rattle.vp_poly.specs.Weights.{Weights, fits}
use Rattle.vp_flow.specs.Series.{factorial, factorial_positive}
use Rattle.vp_flow.specs.Weights.{flow_weight, IsGrowth}
use Rattle.vp_flow.specs.declared.bounds.Bounds.{Bounds}
use Rattle.vp_flow.specs.declared.weights.Growth.{Growth}
use Rattle.vp_flow.proofs.Assembling.{norm-next, norm-none, limited, den-factor}
use Rattle.vp_flow.proofs.Derivative.{pow_positive}

not_true : (b : Bool) → (b ≡ true → ⊥) → b ≡ false
not_true true h = absurd (h refl)
not_true false h = refl

pub over-norm : (w : Weights) → 2 ^ 62 ≤ w.norm → fits w ≡ false
over-norm w h = not_true (fits w) (λ e. let l = (limited w e).norm in absurd (omega arith))

pub over-den : (w : Weights) → 2 ^ 62 ≤ w.den → fits w ≡ false
over-den w h = not_true (fits w) (λ e. let l = (limited w e).den in absurd (omega arith))

pub over-terms : (w : Weights) → 4096 < w.terms → fits w ≡ false
over-terms w h = not_true (fits w) (λ e. let l = (limited w e).terms in absurd (omega arith))

pub over-degree : (w : Weights) → 12 < w.degree → fits w ≡ false
over-degree w h = not_true (fits w) (λ e. let l = (limited w e).degree in absurd (omega arith))

-- ---- from one height to the next

pub den-next : (b : Bounds) (k : ℕ) → (flow_weight b (suc k)).den ≡ (flow_weight b k).den * (b.common * (k + 1))
den-next b k = omega (arith, ap (λ (n : ℕ). n * (suc k * factorial k)) (pow-suc b.common k))

pub den-positive : (b : Bounds) (k : ℕ) → 1 ≤ b.common → 0 < (flow_weight b k).den
den-positive b k one = mul-pos (pow_positive b.common k one) (factorial_positive k)

norm-step : (b : Bounds) (k : ℕ) → (flow_weight b (suc k)).norm ≡ (flow_weight b k).norm * (b.common * (k + 1)) + b.norm ^ k * b.norm
norm-step b k =
    let s : suc k ≡ k + 1 = omega arith in
    norm-next b k
    ∙ ap (λ (n : ℕ). (b.common * n) * (flow_weight b k).norm + b.norm ^ suc k) s
    ∙ ap (λ (n : ℕ). n + b.norm ^ suc k) (mul_comm (b.common * (k + 1)) (flow_weight b k).norm)
    ∙ ap (λ (n : ℕ). (flow_weight b k).norm * (b.common * (k + 1)) + n) (pow-suc b.norm k)

-- what is over stays over
over-next : (b : Bounds) (k : ℕ) → 1 ≤ b.common → fits (flow_weight b k) ≡ false → fits (flow_weight b (suc k)) ≡ false
over-next b k one h =
    not_true (fits (flow_weight b (suc k))) (λ e.
    let l = limited (flow_weight b (suc k)) e in
    let f : 1 ≤ b.common * (k + 1) = mul-le-mul one (let o : 1 ≤ k + 1 = omega arith in o) in
    let n : (flow_weight b k).norm * 1 ≤ (flow_weight b k).norm * (b.common * (k + 1)) = mul-le-mul_left (flow_weight b k).norm f in
    let d : (flow_weight b k).den * 1 ≤ (flow_weight b k).den * (b.common * (k + 1)) = mul-le-mul_left (flow_weight b k).den f in
    let norm : (flow_weight b k).norm < 2 ^ 62 = omega (arith, norm-step b k, l.norm) in
    let den : (flow_weight b k).den < 2 ^ 62 = omega (arith, den-next b k, l.den) in
    let degree : (flow_weight b k).degree < 13 = omega (arith, l.degree) in
    let terms : (flow_weight b k).terms < 4097 = omega (arith, l.terms) in
    clash (fits (flow_weight b k)) (fitting (flow_weight b k) norm den degree terms) h)
  where
    clash : (v : Bool) → v ≡ true → v ≡ false → ⊥
    clash v a b = cc

    lt_true : (x y : ℕ) → x < y → nat_lt x y ≡ true
    lt_true x y h = grind (arith, nat_tests)

    fitting : (w : Weights) → w.norm < 2 ^ 62 → w.den < 2 ^ 62 → w.degree < 13 → w.terms < 4097 → fits w ≡ true
    fitting w n d g t = rw (lt_true _ _ n, lt_true _ _ d, lt_true _ _ g, lt_true _ _ t) refl

pub over-later : (b : Bounds) (k h : ℕ) → 1 ≤ b.common → k ≤ h → fits (flow_weight b k) ≡ false → fits (flow_weight b h) ≡ false
over-later b k zero one le o = let e : k ≡ 0 = omega arith in subst (λ (n : ℕ). fits (flow_weight b n) ≡ false) e o
over-later b k (suc h) one le o = case (k == suc h) refl (λ less. over-later b k h one less o)
  where
    case : (v : Bool) → (k == suc h) ≡ v → (k ≤ h → fits (flow_weight b h) ≡ false) → fits (flow_weight b (suc h)) ≡ false
    case true t more = subst (λ (n : ℕ). fits (flow_weight b n) ≡ false) (eqb-true k (suc h) t) o
    case false t more = let ne = eqb-false k (suc h) t in over-next b h one (more (omega arith))

-- ---- the ways in which a step is over

pub huge-factor : (b : Bounds) (k : ℕ) → 1 ≤ b.common → 2 ^ 62 ≤ b.common * (k + 1) → fits (flow_weight b (suc k)) ≡ false
huge-factor b k one h =
    over-den (flow_weight b (suc k))
    (let p = mul-le-mul_right (b.common * (k + 1)) (den-positive b k one) in
    omega (arith, den-next b k))

pub huge-norm_power : (b : Bounds) (k : ℕ) (g : Growth) → IsGrowth b k g → 2 ^ 62 ≤ g.norm_power * b.norm → fits (flow_weight b (suc k)) ≡ false
huge-norm_power b k g x h = over-norm (flow_weight b (suc k)) (omega (arith, norm-step b k, ap (λ (n : ℕ). n * b.norm) x.norm_power))

pub huge-terms_power : (b : Bounds) (k : ℕ) (g : Growth) → IsGrowth b k g → 2 ^ 62 ≤ g.terms_power * b.terms → fits (flow_weight b (suc k)) ≡ false
huge-terms_power b k g x h = over-terms (flow_weight b (suc k)) (omega (arith, ap (λ (n : ℕ). n * b.terms) x.terms_power, pow-suc b.terms k))

pub huge-scaled : (b : Bounds) (k factor : ℕ) (g : Growth) → IsGrowth b k g → factor ≡ b.common * (k + 1) → 2 ^ 62 ≤ g.norm * factor → fits (flow_weight b (suc k)) ≡ false
huge-scaled b k factor g x e h =
    over-norm (flow_weight b (suc k)) (omega (arith, norm-step b k, ap (λ (n : ℕ). n * factor) x.norm, ap (λ (n : ℕ). (flow_weight b k).norm * n) e))

pub huge-norm : (b : Bounds) (k factor scaled power : ℕ) (g : Growth) → IsGrowth b k g → factor ≡ b.common * (k + 1) → scaled ≡ g.norm * factor → power ≡ g.norm_power * b.norm → 2 ^ 62 ≤ scaled + power → fits (flow_weight b (suc k)) ≡ false
huge-norm b k factor scaled power g x e s p h =
    over-norm (flow_weight b (suc k))
    (omega (arith, norm-step b k, ap (λ (n : ℕ). n * factor) x.norm, ap (λ (n : ℕ). (flow_weight b k).norm * n) e, ap (λ (n : ℕ). n * b.norm) x.norm_power))

pub huge-den : (b : Bounds) (k factor : ℕ) (g : Growth) → IsGrowth b k g → factor ≡ b.common * (k + 1) → 2 ^ 62 ≤ g.den * factor → fits (flow_weight b (suc k)) ≡ false
huge-den b k factor g x e h =
    over-den (flow_weight b (suc k)) (omega (arith, den-next b k, ap (λ (n : ℕ). n * factor) x.den, ap (λ (n : ℕ). (flow_weight b k).den * n) e))

pub huge-terms : (b : Bounds) (k power : ℕ) (g : Growth) → IsGrowth b k g → power ≡ g.terms_power * b.terms → 2 ^ 62 ≤ g.terms + power → fits (flow_weight b (suc k)) ≡ false
huge-terms b k power g x p h =
    over-terms (flow_weight b (suc k)) (omega (arith, x.terms, ap (λ (n : ℕ). n * b.terms) x.terms_power, pow-suc b.terms k))

pub grown : (b : Bounds) (k factor scaled norm_power terms_power norm den terms : ℕ) (g : Growth) → IsGrowth b k g → factor ≡ b.common * (k + 1) → scaled ≡ g.norm * factor → norm_power ≡ g.norm_power * b.norm → terms_power ≡ g.terms_power * b.terms → norm ≡ scaled + norm_power → den ≡ g.den * factor → terms ≡ g.terms + terms_power → norm < 2 ^ 62 → den < 2 ^ 62 → terms < 2 ^ 62 → IsGrowth b (suc k) (record { norm = norm; den = den; terms = terms; norm_power = norm_power; terms_power = terms_power })
grown b k factor scaled norm_power terms_power norm den terms g x e s p q n d t ns ds ts = record {
  norm = omega (arith, norm-step b k, ap (λ (n : ℕ). n * factor) x.norm, ap (λ (n : ℕ). (flow_weight b k).norm * n) e, ap (λ (n : ℕ). n * b.norm) x.norm_power);
  den = omega (arith, den-next b k, ap (λ (n : ℕ). n * factor) x.den, ap (λ (n : ℕ). (flow_weight b k).den * n) e);
  terms = omega (arith, x.terms, ap (λ (n : ℕ). n * b.terms) x.terms_power, pow-suc b.terms k);
  norm_power = omega (arith, ap (λ (n : ℕ). n * b.norm) x.norm_power, pow-suc b.norm k);
  terms_power = omega (arith, ap (λ (n : ℕ). n * b.terms) x.terms_power, pow-suc b.terms k);
  norm_small = ns;
  den_small = ds;
  terms_small = ts;
}

pub grown-none : (b : Bounds) → IsGrowth b 0 (record { norm = 1; den = 1; terms = 1; norm_power = 1; terms_power = 1 })
grown-none b = record {
  norm = sym (norm-none b);
  den = omega (arith, ap (λ (n : ℕ). n * 1) (pow-zero b.common));
  terms = omega (arith, pow-zero b.terms);
  norm_power = omega (arith, pow-zero b.norm);
  terms_power = omega (arith, pow-zero b.terms);
  norm_small = omega arith;
  den_small = omega arith;
  terms_small = omega arith;
}

-- what a failed step answers
pub over-answer : (b : Bounds) (k : ℕ) (o : Option Growth) → o ≡ None → fits (flow_weight b (suc k)) ≡ false → MatchOption o (fits (flow_weight b (suc k)) ≡ false) (IsGrowth b (suc k))
over-answer b k o e h = subst (λ (p : Option Growth). MatchOption p (fits (flow_weight b (suc k)) ≡ false) (IsGrowth b (suc k))) (sym e) h

pub same_times : (a b x y n : ℕ) → x ≡ y → n ≡ a * (x + b) → n ≡ a * (y + b)
same_times a b x y n e h = h ∙ ap (λ (z : ℕ). a * (z + b)) e

-- ---- a common denominator that is over

pub flat : (b : Bounds) (c : ℕ) → flow_weight b 0 ≡ flow_weight (record { common = c; norm = b.norm; degree = b.degree; terms = b.terms }) 0
flat b c =
    let e : b.common ^ 0 ≡ c ^ 0 = omega (arith, pow-zero b.common, pow-zero c) in
    ap (λ (n : ℕ). made (b.norm ^ 0 * n * (factorial 0 / factorial 0)) (n * factorial 0)) e
  where
    made : ℕ → ℕ → Weights
    made n d = record { norm = n; den = d; degree = 1 + 0 * b.degree; terms = b.terms ^ 0 }

pub over-common : (b : Bounds) (h : ℕ) → 2 ^ 62 ≤ b.common → fits (flow_weight b (suc h)) ≡ false
over-common b h le =
    over-den (flow_weight b (suc h))
    (let f = den-factor b.common h (let o : 1 ≤ b.common = omega arith in o) in
    let m : b.common * 1 ≤ b.common * suc h = mul-le-mul_left b.common (let o : 1 ≤ suc h = omega arith in o) in
    omega arith)

-- it may be cut to 2^62: what fits and its weight stay the same
pub cut : (b : Bounds) (h : ℕ) → 2 ^ 62 ≤ b.common → fits (flow_weight b h) ≡ fits (flow_weight (record { common = 2 ^ 62; norm = b.norm; degree = b.degree; terms = b.terms }) h)
cut b zero le = ap fits (flat b (2 ^ 62))
cut b (suc h) le = over-common b h le ∙ sym (over-common (record { common = 2 ^ 62; norm = b.norm; degree = b.degree; terms = b.terms }) h (omega arith))
