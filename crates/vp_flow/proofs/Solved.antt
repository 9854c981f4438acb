-- The flows of a package, from its right sides over their common denominator.
use Rattle.std.proofs.Common.{◌≡◌, inl, inr, ℕ, zero, suc, ◌+◌, ◌*◌, ◌/◌, ◌^◌, ◌≤◌, ◌<◌, List, [], ◌∷◌, length, Option, None, Some, slice_get, slice_index, unwrap_or, All, sym, ap, ◌∙◌, subst, arith}
use Rattle.std.specs.Prelude.{IfSome}
use Rattle.vp_words.specs.declared.record.Counts.{Counts}
use Rattle.vp_words.specs.Record.{IsValid}
use Rattle.vp_terms.specs.declared.expr.Places.{Places}
use Rattle.vp_terms.specs.declared.package.Package.{Package}
use Rattle.vp_terms.specs.WellFormed.{IsWellFormed}
use Rattle.vp_poly.specs.declared.scaled.Scaled.{Scaled}
use Rattle.vp_poly.specs.Places.{AreBelow, places_for}
use Rattle.vp_poly.specs.Times.{HasCoefficients}
use Rattle.vp_poly.specs.Weights.{Weights, fits}
use Rattle.vp_flow.specs.Series.{flow_of}
use Rattle.vp_flow.specs.Sides.{AreHeights, AreRightSides, model, polys, rates_of}
use Rattle.vp_flow.specs.Order.{Fall, IsOrder}
use Rattle.vp_flow.specs.Bounds.{bounds_of, common_den}
use Rattle.vp_flow.specs.Weights.{flow_weight}
use Rattle.vp_flow.specs.Weighing.{AreBounds}
use Rattle.vp_flow.specs.Flows.{AreFlowsOf, AreOfBounds, IsFlow, IsOfBounds}
use Rattle.vp_flow.specs.Outcome.{AreFlows, AreLinear, IsFlowOf}
use Rattle.vp_flow.specs.Sharing.{AreShared, IsSuited}
use Rattle.vp_flow.specs.declared.bounds.Bounds.{Bounds}
use Rattle.vp_flow.specs.declared.rates.Rates.{Rates}
use Rattle.vp_flow.proofs.BoundLaws.{ArePositive, at_least_one-positive, common-positive}
use Rattle.vp_flow.proofs.HeightLaws.{falls}
use Rattle.vp_flow.proofs.SharingLaws.{AreGiven, are-of, each-shared, fall-shared}
use Rattle.vp_flow.proofs.WeighLaws.{LEAST, flat-weight, positive-sides, suited, weight-at, zero-height}

-- ---- what is given

pub states-are : (pkg : Package) (c : Counts) (qs : List Scaled) → IsWellFormed pkg → places_for c ≡ model pkg → AreRightSides pkg qs → length qs ≡ c.states
states-are pkg c qs good s right = right.count ∙ good.plant.rate_count ∙ sym (ap (λ (p : Places). p.states) s)

heights-are : (pkg : Package) (c : Counts) (qs : List Scaled) (h : ℕ → ℕ) → places_for c ≡ model pkg → AreHeights (places_for c) (polys qs) h → AreHeights (model pkg) (polys qs) h
heights-are pkg c qs h s a = subst (λ (p : Places). AreHeights p (polys qs) h) s a

pub suited-are : (pkg : Package) (c : Counts) (qs : List Scaled) (heights : List ℕ) (ws : List Weights) (o : Option Bounds) (b : Bounds) → b ≡ unwrap_or o LEAST → IsWellFormed pkg → places_for c ≡ model pkg → AreRightSides pkg qs → AreHeights (places_for c) (polys qs) (slice_index heights) → AreOfBounds (bounds_of qs) heights c.states ws → AreBounds qs o → All (IsSuited b) qs
suited-are pkg c qs heights ws o b e good s right are x a =
    subst (λ (v : Bounds). All (IsSuited v) qs) (sym e)
    (suited pkg qs heights c.states ws o right (sym (states-are pkg c qs good s right)) (ap (λ (p : Places). p.states) s) (heights-are pkg c qs (slice_index heights) s are) x a)

-- the four numbers are at least 1
record IsPositive (b : Bounds) : Type 0 where
  pub common : 1 ≤ b.common
  pub norm : 1 ≤ b.norm
  pub degree : 1 ≤ b.degree
  pub terms : 1 ≤ b.terms

positive : (qs : List Scaled) (o : Option Bounds) → ArePositive qs → AreBounds qs o → IsPositive (unwrap_or o LEAST)
positive qs None h a = record { common = omega arith; norm = omega arith; degree = omega arith; terms = omega arith }
positive qs (Some b) h a = subst IsPositive (sym a.0) (record {
  common = common-positive qs h;
  norm = at_least_one-positive (λ q. q.weight.norm * (common_den qs / q.weight.den)) qs;
  degree = at_least_one-positive (λ q. q.weight.degree) qs;
  terms = at_least_one-positive (λ q. q.weight.terms) qs;
})

pub given : (pkg : Package) (c : Counts) (qs : List Scaled) (heights : List ℕ) (ws : List Weights) (o : Option Bounds) (b : Bounds) (r : Rates) → b ≡ unwrap_or o LEAST → IsWellFormed pkg → places_for c ≡ model pkg → IsValid c → AreRightSides pkg qs → AreLinear pkg qs → All (λ q. AreBelow (c.params + c.states + c.controls) q.poly) qs → AreHeights (places_for c) (polys qs) (slice_index heights) → AreOfBounds (bounds_of qs) heights c.states ws → AreBounds qs o → AreShared c b qs r → AreGiven pkg c b qs r
given pkg c qs heights ws o b r e good s valid right linear low are x a shared =
    let p = subst IsPositive (sym e) (positive qs o (positive-sides pkg qs right) a) in
    record {
      model_is = s;
      valid = valid;
      states = states-are pkg c qs good s right;
      right = right;
      linear = linear;
      low = low;
      suited = suited-are pkg c qs heights ws o b e good s right are x a;
      shared = shared;
      common = p.common;
      norm = p.norm;
      degree = p.degree;
      terms = p.terms;
    }

-- ---- orders, heights and weights over the common denominator

pub order-shared : (pkg : Package) (c : Counts) (b : Bounds) (qs : List Scaled) (r : Rates) (order lent : List ℕ) → AreGiven pkg c b qs r → r.counts ≡ c → IsOrder (places_for c) (polys qs) order → lent ≡ order → IsOrder (places_for r.counts) r.sides lent
order-shared pkg c b qs r order lent x e o f =
    subst (λ (k : Counts). IsOrder (places_for k) r.sides lent) (sym e) (subst (λ (l : List ℕ). IsOrder (places_for c) r.sides l) (sym f) (record {
      states = o.states;
      after = λ t j lt j_lt. elim (o.after t j lt j_lt) [
        | inl free ↦ inl (each-shared (λ m. slice_index m (c.params + j) ≡ 0) c b qs r x.shared (slice_index order t) (let n = x.states in let l = o.states t lt in omega arith) free)
        | inr earlier ↦ inr earlier
      ];
    }))

pub heights-shared : (pkg : Package) (c : Counts) (b : Bounds) (qs : List Scaled) (r : Rates) (heights lent : List ℕ) → AreGiven pkg c b qs r → r.counts ≡ c → AreHeights (places_for c) (polys qs) (slice_index heights) → lent ≡ heights → Fall (places_for r.counts) r.sides (slice_index lent)
heights-shared pkg c b qs r heights lent x e are f =
    subst (λ (k : Counts). Fall (places_for k) r.sides (slice_index lent)) (sym e) (subst (λ (l : List ℕ). Fall (places_for c) r.sides (slice_index l)) (sym f)
    (fall-shared (places_for c) c b qs r (slice_index heights) x.states x.shared (falls (places_for c) (polys qs) (slice_index heights) are)))

-- what every member has, where each has something from which it follows
pub map-each : {X : Type 0} → (P Q : ℕ → X → Type 0) (xs : List X) → ((i : ℕ) (x : X) → i < length xs → P i x → Q i x) → ((i : ℕ) → IfSome (slice_get xs i) (P i)) → (i : ℕ) → IfSome (slice_get xs i) (Q i)
map-each {X} P Q [] f h i = tt
map-each {X} P Q (x ∷ xs) f h zero = f 0 x (omega arith) (h 0)
map-each {X} P Q (x ∷ xs) f h (suc i) = map-each (λ j. P (suc j)) (λ j. Q (suc j)) xs (λ j y lt p. f (suc j) y (omega arith) p) (λ j. h (suc j)) i

pub weights-shared : (qs : List Scaled) (heights lent : List ℕ) (n k : ℕ) (ws : List Weights) (o : Option Bounds) (b d : Bounds) → b ≡ unwrap_or o LEAST → d ≡ b → k ≡ n → lent ≡ heights → AreBounds qs o → AreOfBounds (bounds_of qs) heights n ws → AreOfBounds d lent k ws
weights-shared qs heights lent n k ws o b d e f g l a x =
    subst (λ (v : Bounds). AreOfBounds v lent k ws) (sym (f ∙ e))
    (subst (λ (h : List ℕ). AreOfBounds (unwrap_or o LEAST) h k ws) (sym l)
    (subst (λ (m : ℕ). AreOfBounds (unwrap_or o LEAST) heights m ws) (sym g) (at o a)))
  where
    flat : 2 ^ 62 ≤ (bounds_of qs).common → (h : ℕ) (w : Weights) → IsOfBounds (bounds_of qs) h w → IsOfBounds LEAST h w
    flat big h w y =
        let z = zero-height (bounds_of qs) h big (ap fits (sym y.weight) ∙ y.fits) in
        record {
          weight = y.weight ∙ ap (flow_weight (bounds_of qs)) z ∙ flat-weight (bounds_of qs) ∙ sym (flat-weight LEAST) ∙ ap (flow_weight LEAST) (sym z);
          fits = y.fits;
        }

    at : (o : Option Bounds) → AreBounds qs o → AreOfBounds (unwrap_or o LEAST) heights n ws
    at None big = record { count = x.count; each = map-each (λ i. IsOfBounds (bounds_of qs) (slice_index heights i)) (λ i. IsOfBounds LEAST (slice_index heights i)) ws (λ i w lt y. flat big (slice_index heights i) w y) x.each }
    at (Some v) h = subst (λ (u : Bounds). AreOfBounds u heights n ws) (sym h.0) x

-- ---- the flows

pub flows-are : (pkg : Package) (c : Counts) (b : Bounds) (qs : List Scaled) (r : Rates) (heights lent : List ℕ) (ws : List Weights) (fs : List Scaled) → AreGiven pkg c b qs r → r.counts ≡ c → r.bounds ≡ b → lent ≡ heights → AreHeights (places_for c) (polys qs) (slice_index heights) → AreOfBounds (bounds_of qs) heights c.states ws → AreOfBounds r.bounds lent r.counts.states ws → AreFlowsOf r (slice_index lent) r.counts.states fs → AreFlows pkg fs
flows-are pkg c b qs r heights lent ws fs x e f l are own shared flows = record {
  sides = qs;
  right = x.right;
  linear = x.linear;
  heights = slice_index heights;
  are_heights = subst (λ (p : Places). AreHeights p (polys qs) (slice_index heights)) x.model_is are;
  count = flows.count ∙ n ∙ ap (λ (p : Places). p.states) x.model_is;
  each = map-each (IsFlow r (slice_index lent)) (λ i. IsFlowOf pkg qs i (slice_index heights i)) fs (λ i s lt y. one i s (let m = flows.count in omega arith) y) flows.each;
}
  where
    n : r.counts.states ≡ c.states
    n = ap (λ (k : Counts). k.states) e

    model_of : places_for r.counts ≡ model pkg
    model_of = ap places_for e ∙ x.model_is

    same : (i : ℕ) → i < r.counts.states → flow_weight r.bounds (slice_index lent i) ≡ flow_weight (bounds_of qs) (slice_index heights i)
    same i lt = sym (weight-at r.bounds lent r.counts.states i ws shared lt).weight ∙ (weight-at (bounds_of qs) heights c.states i ws own (omega (arith, lt, n))).weight

    one : (i : ℕ) (s : Scaled) → i < r.counts.states → IsFlow r (slice_index lent) i s → IsFlowOf pkg qs i (slice_index heights i) s
    one i s lt y = record {
      weight = y.weight ∙ same i lt;
      weighed = y.weighed;
      canonical = record {
        poly = y.poly;
        coefficients =
            subst (λ (p : Places). HasCoefficients s.weight.den s.poly (flow_of p (rates_of pkg) i (slice_index heights i))) model_of
            (subst (λ (h : List ℕ). HasCoefficients s.weight.den s.poly (flow_of (places_for r.counts) (rates_of pkg) i (slice_index h i))) l
            (y.coefficients (rates_of pkg) (are-of pkg c b qs r x e f)));
      };
    }
