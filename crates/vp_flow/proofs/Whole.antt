-- The flow of a state is what the definition says.
use Rattle.std.proofs.Common.{◌≡◌, ℕ, zero, suc, ◌^◌, ◌≤◌, ◌<◌, Bool, true, false, List, [], length, get_or, Option, unwrap_or, refl, sym, ap, ◌∙◌, subst, arith, ℤ}
use Rattle.std.proofs.Math.Nat.{pow-zero}
use Rattle.std.proofs.lemmas.Option.{slice_get-get_or}
use Rattle.vp_terms.specs.Rational.{whole}
use Rattle.vp_poly.specs.declared.mono.Term.{Term}
use Rattle.vp_poly.specs.Poly.{IsPoly}
use Rattle.vp_poly.specs.Coefficient.{Coefficients}
use Rattle.vp_poly.specs.Times.{IsTimes, HasCoefficients}
use Rattle.vp_poly.specs.Places.{places_for}
use Rattle.vp_poly.specs.Weights.{Weights, fits}
use Rattle.vp_flow.specs.Series.{lie, flow_of}
use Rattle.vp_flow.specs.Parts.{AreFirst, IsLow, IsPart, IsSized, sides}
use Rattle.vp_flow.specs.Filled.{row_at}
use Rattle.vp_flow.specs.Assembly.{HasSum, IsAssembled, nth}
use Rattle.vp_flow.specs.Weights.{flow_weight}
use Rattle.vp_flow.specs.Flows.{AreOf, IsFlow}
use Rattle.vp_flow.specs.declared.bounds.Bounds.{Bounds}
use Rattle.vp_flow.specs.declared.rates.Rates.{Rates}
use Rattle.vp_flow.proofs.Bridge.{IsTimes-lie}
use Rattle.vp_flow.proofs.Assembling.{limited, norm-next}
use Rattle.vp_flow.proofs.Growing.{over-later}

clash : (v : Bool) → v ≡ true → v ≡ false → ⊥
clash v a b = cc

pub fits-below : (b : Bounds) (k h : ℕ) → 1 ≤ b.common → k ≤ h → fits (flow_weight b h) ≡ true → fits (flow_weight b k) ≡ true
fits-below b k h one le f = case (fits (flow_weight b k)) refl
  where
    case : (v : Bool) → fits (flow_weight b k) ≡ v → v ≡ true
    case true e = refl
    case false e = absurd (clash (fits (flow_weight b h)) f (over-later b k h one le e))

pub low-where : (b : Bounds) (k : ℕ) → fits (flow_weight b k) ≡ true → IsLow b k
low-where b zero f = record { norm = omega (arith, pow-zero b.norm); degree = omega arith; terms = omega (arith, pow-zero b.terms) }
low-where b (suc k) f =
    let l = limited (flow_weight b (suc k)) f in
    record { norm = omega (arith, norm-next b k, l.norm); degree = l.degree; terms = omega (arith, l.terms) }

-- ---- the series of a state, as the pieces of its flow

pub sizes-of : (r : Rates) (i h : ℕ) (parts own : List (List Term)) → parts ≡ own → AreFirst r i (suc h) own → (k : ℕ) → k < length parts → IsSized r.bounds k (nth parts k)
sizes-of r i h parts own e x k lt =
    let s = x.size in
    let n : length parts ≡ length own = ap (λ (l : List (List Term)). length l) e in
    subst (λ (l : List (List Term)). IsSized r.bounds k (nth l k)) (sym e) (x.each k (omega arith)).size

pub fits-of : (r : Rates) (i h : ℕ) (parts own : List (List Term)) (w : Weights) → 1 ≤ r.bounds.common → parts ≡ own → AreFirst r i (suc h) own → w ≡ flow_weight r.bounds h → fits w ≡ true → (k : ℕ) → k < length parts → fits (flow_weight r.bounds k) ≡ true
fits-of r i h parts own w one e x s f k lt =
    let z = x.size in
    let n : length parts ≡ length own = ap (λ (l : List (List Term)). length l) e in
    fits-below r.bounds k h one (omega arith) (subst (λ (v : Weights). fits v ≡ true) s f)

pub row-of : (series : List (List (List Term))) (i : ℕ) (parts row : List (List Term)) → i < length series → parts ≡ row → row ≡ get_or series i row → parts ≡ row_at series i
row-of series i parts row lt e f = e ∙ f ∙ sym (ap (λ (o : Option (List (List Term))). unwrap_or o []) (slice_get-get_or series i row lt))

piece : (r : Rates) (rates : ℕ → Coefficients) (i k : ℕ) (ts : List Term) → AreOf r rates → IsPart r i k ts → HasCoefficients (r.bounds.common ^ k) ts (lie (places_for r.counts) rates i k)
piece r rates i k ts of x = record {
  each = λ m.
      subst (λ (z : ℤ). IsTimes (r.bounds.common ^ k) (whole z) (lie (places_for r.counts) rates i k m)) (sym (x.coefficients m))
      (IsTimes-lie (places_for r.counts) r.bounds.common (sides r) rates (λ j lt n. (of.each j lt).each n) k i m);
}

pub IsFlow-assembled : (r : Rates) (i h : ℕ) (parts own : List (List Term)) (poly : List Term) (w : Weights) → parts ≡ own → AreFirst r i (suc h) own → w ≡ flow_weight r.bounds h → fits w ≡ true → IsAssembled r parts (length parts) poly → IsPoly poly → (f : ℕ → ℕ) → f i ≡ h → IsFlow r f i (record { poly = poly; weight = w })
IsFlow-assembled r i h parts own poly w e x s fit a canonical f same =
    let z = x.size in
    let n : length parts ≡ suc h = ap (λ (l : List (List Term)). length l) e ∙ x.size in
    let all : HasSum r parts h poly = subst (λ (c : ℕ). IsAssembled r parts c poly) n a in
    subst (λ (v : Weights). IsFlow r f i (record { poly = poly; weight = v })) (sym s)
    (record {
      weight = ap (flow_weight r.bounds) (sym same);
      weighed = record { within = all.within; fits = subst (λ (v : Weights). fits v ≡ true) s fit };
      poly = canonical;
      coefficients = λ rates of.
          subst (λ (c : ℕ). HasCoefficients (flow_weight r.bounds h).den poly (flow_of (places_for r.counts) rates i c)) (sym same)
          (all.coefficients (lie (places_for r.counts) rates i)
          (λ k lt. piece r rates i k (nth parts k) of (subst (λ (l : List (List Term)). IsPart r i k (nth l k)) (sym e) (x.each k lt))));
    })
