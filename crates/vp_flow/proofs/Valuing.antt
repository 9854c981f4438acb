-- The values of flows at points.
use Rattle.std.proofs.Common.{◌≡◌, ℕ, ◌*◌, ◌^◌, ◌≤◌, ◌<◌, List, Option, None, Some, slice_get, sym, subst, arith, ℤ, pos, ◌*ℤ◌, mul-pos, mul-le-mul_right}
use Rattle.std.specs.Prelude.{IfSome}
use Rattle.vp_terms.specs.Rational.{Rational, Equals, product, whole}
use Rattle.vp_terms.specs.declared.package.Package.{Package}
use Rattle.vp_terms.proofs.Gaps.{gap-of, gap-same, gaps}
use Rattle.vp_terms.proofs.RationalLaws.{chain, Equals-refl, Equals-sym, Equals-product}
use Rattle.vp_poly.specs.declared.mono.Term.{Term}
use Rattle.vp_poly.specs.declared.scaled.Scaled.{Scaled}
use Rattle.vp_poly.specs.Poly.{IsPoly, Powers, coef, norm}
use Rattle.vp_poly.specs.Coefficient.{Coefficients}
use Rattle.vp_poly.specs.Canonical.{IsCanonical, IsWeighed}
use Rattle.vp_poly.specs.Times.{HasCoefficients, IsTimes}
use Rattle.vp_poly.specs.Value.{Point, value_at}
use Rattle.vp_poly.specs.Weights.{Weights}
use Rattle.vp_flow.specs.Series.{factorial_positive}
use Rattle.vp_flow.specs.Bounds.{bounds_of}
use Rattle.vp_flow.specs.Weights.{flow_weight}
use Rattle.vp_flow.specs.Outcome.{AreFlows, IsFlowOf}
use Rattle.vp_flow.specs.Valued.{HasValue, HaveValues}
use Rattle.vp_flow.proofs.Assembling.{limited}
use Rattle.vp_flow.proofs.BoundLaws.{common-positive}
use Rattle.vp_flow.proofs.Derivative.{IsTimes-equal, pow_positive}
use Rattle.vp_flow.proofs.Outcomes.{Unique}
use Rattle.vp_flow.proofs.WeighLaws.{positive-sides}

-- what is known of multiples
pub record AreMultiples : Type 0 where
  pub unique : Unique
  pub some : (k : ℕ) (xs : List Term) → IsPoly xs → 0 < k → norm xs * k < 2 ^ 126 → (zs : List Term) × IsPoly zs × ((m : Powers) → coef zs m ≡ pos k *ℤ coef xs m)
  pub values : (k : ℤ) (xs zs : List Term) (x : Point) → IsPoly xs → IsPoly zs → ((m : Powers) → coef zs m ≡ k *ℤ coef xs m) → Equals (value_at zs x) (product (whole k) (value_at xs x))
  pub coefficients : (k d : ℕ) (xs zs : List Term) (f : Coefficients) → HasCoefficients d xs f → ((m : Powers) → coef zs m ≡ pos k *ℤ coef xs m) → HasCoefficients (k * d) zs f
  pub equal : (d : ℕ) (v w q : Rational) → Equals v w → IsTimes d w q → IsTimes d v q
  pub times : (k d : ℕ) (v q : Rational) → IsTimes d v q → IsTimes (k * d) (product (whole (pos k)) v) q

-- ---- one value

small_product : (n k : ℕ) → n < 2 ^ 62 → k < 2 ^ 62 → n * k < 2 ^ 126
small_product n k h l = let le : n ≤ 2 ^ 62 = omega arith in omega (arith, mul-le-mul_right k le)

-- the same over a denominator that is k times as large
raised : AreMultiples → (k : ℕ) (s : Scaled) (f : Coefficients) (x : Point) (v : Rational) → 0 < k → k < 2 ^ 62 → IsWeighed s.poly s.weight → IsCanonical s.weight.den s.poly f → IsTimes s.weight.den (value_at s.poly x) v → (zs : List Term) × IsCanonical (k * s.weight.den) zs f × IsTimes (k * s.weight.den) (value_at zs x) v
raised law k s f x v pos_k small w c t =
    let zs = law.some k s.poly c.poly pos_k (small_product (norm s.poly) k low small) in (
      zs.0,
      record { poly = zs.1; coefficients = law.coefficients k s.weight.den s.poly zs.0 f c.coefficients zs.2 },
      law.equal (k * s.weight.den) (value_at zs.0 x) (product (whole (pos k)) (value_at s.poly x)) v
          (law.values (pos k) s.poly zs.0 x c.poly zs.1 zs.2) (law.times k s.weight.den (value_at s.poly x) v t),
    )
  where
    low : norm s.poly < 2 ^ 62
    low = let n = w.within.norm_le in let l = (limited s.weight w.fits).norm in omega arith

pub one_value : AreMultiples → (f : Coefficients) (x : Point) (v w : Rational) → HasValue f x v → HasValue f x w → Equals v w
one_value law f x v w a b =
    let d = a.scaled.weight.den in
    let e = b.scaled.weight.den in
    let p = raised law b.scaled.weight.den a.scaled f x v b.positive (limited b.scaled.weight b.weighed.fits).den a.weighed a.canonical a.value in
    let q = raised law a.scaled.weight.den b.scaled f x w a.positive (limited a.scaled.weight a.weighed.fits).den b.weighed b.canonical b.value in
    let turned : a.scaled.weight.den * b.scaled.weight.den ≡ b.scaled.weight.den * a.scaled.weight.den = omega arith in
    let same : q.0 ≡ p.0 = law.unique (b.scaled.weight.den * a.scaled.weight.den) f q.0 p.0 (subst (λ (n : ℕ). IsCanonical n q.0 f) turned q.1) p.1 in
    IsTimes-equal (b.scaled.weight.den * a.scaled.weight.den) (value_at p.0 x) v w (mul-pos b.positive a.positive) p.2
    (subst (λ (ts : List Term). IsTimes (b.scaled.weight.den * a.scaled.weight.den) (value_at ts x) w) same
    (subst (λ (n : ℕ). IsTimes n (value_at q.0 x) w) turned q.2))

pub equal_value : (f : Coefficients) (x : Point) (v w : Rational) → Equals v w → HasValue f x v → HasValue f x w
equal_value f x v w e a = record {
  scaled = a.scaled;
  weighed = a.weighed;
  positive = a.positive;
  canonical = a.canonical;
  value = record { same = chain a.value.same (Equals-product _ _ _ _ (Equals-refl (whole (pos a.scaled.weight.den))) e) };
}

pub equal_point : AreMultiples → ((ts : List Term) (x y : Point) → ((k : ℕ) → Equals (x k) (y k)) → Equals (value_at ts x) (value_at ts y)) → (f : Coefficients) (x y : Point) (v : Rational) → ((k : ℕ) → Equals (x k) (y k)) → HasValue f x v → HasValue f y v
equal_point law everywhere f x y v e a = record {
  scaled = a.scaled;
  weighed = a.weighed;
  positive = a.positive;
  canonical = a.canonical;
  value = law.equal a.scaled.weight.den (value_at a.scaled.poly y) (value_at a.scaled.poly x) v (Equals-sym _ _ (everywhere a.scaled.poly x y e)) a.value;
}

-- ---- some value

crossing : (n : ℤ) (e d : ℕ) → n *ℤ pos (1 * (e * d)) ≡ (pos d *ℤ n) *ℤ pos e
crossing n e d = rw (gap-of n) (simp gaps (gap-same _ _ _ _ (omega arith)))

divided : (q : Rational) (d : ℕ) → 0 < d → (v : Rational) × IsTimes d q v
divided q d h = (record { num = q.num; den = q.den * d; positive = mul-pos q.positive h }, record { same = record { crossed = crossing q.num q.den d } })

pub valued : (pkg : Package) (fs : List Scaled) → AreFlows pkg fs → HaveValues fs
valued pkg fs a = λ f own x i. at f x i (slice_get fs i) (a.each i) (own.each i)
  where
    positive : (h : ℕ) (s : Scaled) → s.weight ≡ flow_weight (bounds_of a.sides) h → 0 < s.weight.den
    positive h s e = subst (λ (w : Weights). 0 < w.den) (sym e) (mul-pos (pow_positive (bounds_of a.sides).common h (common-positive a.sides (positive-sides pkg a.sides a.right))) (factorial_positive h))

    at : (f : ℕ → Coefficients) (x : Point) (i : ℕ) (o : Option Scaled) → IfSome o (IsFlowOf pkg a.sides i (a.heights i)) → IfSome o (λ s. HasCoefficients s.weight.den s.poly (f i)) → IfSome o (λ s. (v : Rational) × IsTimes s.weight.den (value_at s.poly x) v × HasValue (f i) x v)
    at f x i None h c = tt
    at f x i (Some s) h c =
        let p = positive (a.heights i) s h.weight in
        let d = divided (value_at s.poly x) s.weight.den p in
        (d.0, d.1, record { scaled = s; weighed = h.weighed; positive = p; canonical = record { poly = h.canonical.poly; coefficients = c }; value = d.1 })
