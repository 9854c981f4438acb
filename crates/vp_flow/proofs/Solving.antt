-- The two laws of flows over what the code stands on.
use Rattle.std.proofs.Common.{◌≡◌, ◌≢◌, ◌⊎◌, inl, inr, ℕ, suc, ◌*◌, ◌^◌, ◌≤◌, ◌<◌, ◌==◌, List, [], ◌∷◌, length, get_or, slice_index, All, refl, sym, ap, ◌∙◌, subst, arith, ℤ, pos, ◌+ℤ◌}
use Rattle.std.proofs.lemmas.Int.{ints}
use Rattle.vp_terms.specs.Rational.{Equals, whole}
use Rattle.vp_terms.specs.declared.expr.Places.{Places}
use Rattle.vp_terms.specs.declared.expr.Var.TheVariants.{State}
use Rattle.vp_poly.specs.declared.mono.Term.{Term}
use Rattle.vp_poly.specs.Poly.{Powers, only_at, coef}
use Rattle.vp_poly.specs.Places.{places_for}
use Rattle.vp_poly.specs.Coefficient.{Coefficients}
use Rattle.vp_poly.specs.Canonical.{variables}
use Rattle.vp_poly.specs.Times.{IsTimes}
use Rattle.vp_poly.proofs.TimesLaws.{IsTimes-same, IsTimes-sum, whole-sum}
use Rattle.std.proofs.Math.Nat.{pow-zero}
use Rattle.vp_flow.specs.Series.{state_degree, tau_place, at_start, by_tau, flow_of, substituted, with_states}
use Rattle.vp_flow.specs.Whole.{zlie, zstates}
use Rattle.vp_flow.specs.Parts.{AreSides, IsLinear, sides}
use Rattle.vp_flow.specs.Sides.{side}
use Rattle.vp_flow.specs.Order.{Fall}
use Rattle.vp_flow.specs.Flows.{AreOf, AreTimed}
use Rattle.vp_flow.specs.declared.rates.Rates.{Rates}
use Rattle.vp_flow.proofs.Replacing.{only-none}
use Rattle.vp_flow.proofs.Integrals.{sides-are_right, side-is, missing-or}
use Rattle.vp_flow.proofs.Falling.{zlie-beyond}
use Rattle.vp_flow.proofs.Linear.{decomposed, zstateless}
use Rattle.vp_flow.proofs.Bridge.{IsTimes-lie, IsTimes-states, IsTimes-cond}
use Rattle.vp_flow.proofs.Derivative.{AreRates, IsTimes-equal, flow-start, flow-derivative}

both : (x y : ℤ) → x ≡ pos 0 → y ≡ pos 0 → x +ℤ y ≡ pos 0
both x y e f = omega (arith, ints)

pub coef-timeless : (t : ℕ) (ts : List Term) (a : Powers) → All (λ u. slice_index u.mono.powers t ≡ 0) ts → get_or a t 0 ≢ 0 → coef ts a ≡ pos 0
coef-timeless t [] a h ne = refl
coef-timeless t (u ∷ ts) a h ne =
    both (only_at u.mono.powers a u.coef) (coef ts a)
    (only-none u.mono.powers a u.coef (λ q. ne (sym (ap (λ (l : List ℕ). get_or l t 0) q) ∙ h 0 u (omega arith))))
    (coef-timeless t ts a (λ i d lt. h (suc i) d (omega arith)) ne)

coef-linear : (p : Places) (ts : List Term) (a : Powers) → IsLinear p ts → 2 ≤ state_degree p a → coef ts a ≡ pos 0
coef-linear p [] a h two = refl
coef-linear p (u ∷ ts) a h two =
    both (only_at u.mono.powers a u.coef) (coef ts a)
    (only-none u.mono.powers a u.coef (λ q. let one = h 0 u (omega arith) in let s = ap (state_degree p) q in absurd (omega (arith, one, s))))
    (coef-linear p ts a (λ i d lt. h (suc i) d (omega arith)) two)

-- beyond the states the right side is zero
pub side-or : (r : Rates) (j : ℕ) → AreSides r → (side r.sides j ≡ []) ⊎ (j < r.counts.states)
side-or r j h = elim (missing-or r j) [ inl e ↦ inl e.1 | inr e ↦ inr (let c = h.count in let lt = e.0 in omega arith) ]

pub rates-are : (r : Rates) (rates : ℕ → Coefficients) (h : ℕ → ℕ) → AreSides r → AreTimed r → AreOf r rates → Fall (places_for r.counts) r.sides h → AreRates (places_for r.counts) r.bounds.common (sides r) rates h
rates-are r rates h a t of f = record {
  positive = t.common;
  multiples = λ j lt m. (of.each j lt).each m;
  timeless = record {
    right = sides-are_right r a;
    later = omega arith;
    places = t.places;
    no_tau = λ i b ne. elim (side-or r i a) [
      | inl e ↦ ap (λ (ts : List Term). coef ts b) e
      | inr lt ↦ coef-timeless (tau_place (places_for r.counts)) (side r.sides i) b (t.no_tau i lt) ne
    ];
  };
  linear = λ i b two. elim (side-or r i a) [
    | inl e ↦ ap (λ (ts : List Term). coef ts b) e
    | inr lt ↦ coef-linear (places_for r.counts) (side r.sides i) b (side-is r i a lt).linear two
  ];
  beyond = λ j k lt gt m. zlie-beyond r h a f k j lt gt m;
}

pub starts : (r : Rates) (rates : ℕ → Coefficients) (h : ℕ → ℕ) → AreSides r → AreTimed r → AreOf r rates → Fall (places_for r.counts) r.sides h → (i : ℕ) → i < r.counts.states → (m : Powers) → length m ≡ 32 → Equals (at_start (places_for r.counts) (flow_of (places_for r.counts) rates i (h i)) m) (variables (places_for r.counts) (State i) m)
starts r rates h a t of f i lt m len = flow-start (places_for r.counts) r.bounds.common (sides r) rates h (rates-are r rates h a t of f) i lt m len

pub solves : (r : Rates) (rates : ℕ → Coefficients) (h : ℕ → ℕ) → AreSides r → AreTimed r → AreOf r rates → Fall (places_for r.counts) r.sides h → (i : ℕ) → i < r.counts.states → (m : Powers) → length m ≡ 32 → Equals (by_tau (places_for r.counts) (flow_of (places_for r.counts) rates i (h i)) m) (substituted (places_for r.counts) (λ j. flow_of (places_for r.counts) rates j (h j)) (rates i) m)
solves r rates h a t of f i lt m len = flow-derivative (places_for r.counts) r.bounds.common (sides r) rates h (rates-are r rates h a t of f) i lt m len

-- a right side with each state substituted by itself is the right side
pub unchanged : (r : Rates) (rates : ℕ → Coefficients) → AreSides r → AreTimed r → AreOf r rates → (i : ℕ) → i < r.counts.states → (m : Powers) → length m ≡ 32 → Equals (substituted (places_for r.counts) (λ j. variables (places_for r.counts) (State j)) (rates i) m) (rates i m)
unchanged r rates a t of i lt m len =
    let p = places_for r.counts in
    let e = r.bounds.common in
    let one : e * e ^ 0 ≡ e = omega (arith, pow-zero r.bounds.common, ap (λ (w : ℕ). r.bounds.common * w) (pow-zero r.bounds.common)) in
    let states = subst (λ (d : ℕ). IsTimes d (whole (zstates (places_for r.counts) (λ j. zlie (places_for r.counts) (sides r) j 0) (sides r i) m)) (with_states (places_for r.counts) (λ j. variables (places_for r.counts) (State j)) (rates i) m)) one
    (IsTimes-states (places_for r.counts) r.bounds.common (r.bounds.common ^ 0) (sides r i) (λ j. zlie (places_for r.counts) (sides r) j 0) (rates i) (λ j. variables (places_for r.counts) (State j)) (of.each i lt).each
    (λ j j_lt n. IsTimes-lie (places_for r.counts) r.bounds.common (sides r) rates (λ l l_lt q. (of.each l l_lt).each q) 0 j n) m) in
    let rest = IsTimes-cond r.bounds.common (state_degree (places_for r.counts) m == 0) (sides r i m) (rates i m) ((of.each i lt).each m) in
    let all = IsTimes-same r.bounds.common _ _ _ (whole-sum (zstateless (places_for r.counts) (sides r i) m) (zstates (places_for r.counts) (λ j. zlie (places_for r.counts) (sides r) j 0) (sides r i) m)) (IsTimes-sum r.bounds.common _ _ _ _ rest states) in
    let whole_value = decomposed (places_for r.counts) (sides r) (sides r i) m a.few len (λ b two. coef-linear (places_for r.counts) (side r.sides i) b (side-is r i a lt).linear two) in
    IsTimes-equal r.bounds.common (whole (sides r i m)) (substituted (places_for r.counts) (λ j. variables (places_for r.counts) (State j)) (rates i) m) (rates i m) t.common
    (subst (λ (z : ℤ). IsTimes r.bounds.common (whole z) (substituted (places_for r.counts) (λ j. variables (places_for r.counts) (State j)) (rates i) m)) whole_value all)
    ((of.each i lt).each m)
