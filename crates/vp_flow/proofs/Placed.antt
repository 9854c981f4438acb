-- Which places the flows have.
use Rattle.std.proofs.Common.{◌≡◌, ◌≢◌, inl, inr, ℕ, zero, suc, ◌+◌, ◌-◌, ◌≤◌, ◌<◌, Bool, true, false, ◌==◌, nat_lt, List, [], ◌∷◌, length, replicate, set, get_or, slice_get, All, refl, sym, ap, ◌∙◌, subst, arith, ℤ, pos, ◌*ℤ◌, ◌*◌, ◌^◌, mul-pos}
use Rattle.std.specs.Prelude.{IfSome, IsTrue, slice_index}
use Rattle.std.proofs.Math.Seq.{get_or-set_other}
use Rattle.std.proofs.lemmas.Bool.{eqb-true, eqb-false}
use Rattle.std.proofs.lemmas.Bool.Decides.{nat_tests}
use Rattle.vp_words.specs.declared.record.Counts.{Counts}
use Rattle.vp_terms.specs.Rational.{Equals, whole}
use Rattle.vp_terms.specs.Places.{has_variable, place, place_count}
use Rattle.vp_terms.specs.declared.well_formed.Kinds.{Kinds}
use Rattle.vp_terms.specs.WellFormed.{in_domain, is_allowed}
use Rattle.vp_terms.specs.declared.expr.Places.{Places}
use Rattle.vp_terms.specs.declared.expr.Var.{Var}
use Rattle.vp_terms.specs.declared.expr.Var.TheVariants.{Param, State, Control, Tau}
use Rattle.vp_terms.specs.declared.package.Package.{Package}
use Rattle.vp_terms.proofs.RationalLaws.{chain, Equals-sym}
use Rattle.vp_poly.specs.declared.mono.Term.{Term}
use Rattle.vp_poly.specs.declared.scaled.Scaled.{Scaled}
use Rattle.vp_poly.specs.Poly.{Powers, IsPoly, IsWithin, coef}
use Rattle.vp_poly.specs.Places.{AreBelow, HaveOnly, IsBelow, places_for}
use Rattle.vp_poly.specs.Canonical.{IsEntry}
use Rattle.vp_poly.specs.Coefficient.{Coefficients}
use Rattle.vp_poly.specs.Times.{HasCoefficients}
use Rattle.vp_poly.proofs.SplitLaws.{split_sum-zero}
use Rattle.vp_flow.specs.Series.{factorial, factorial_positive, flow_of, state_degree, tau_place}
use Rattle.vp_flow.specs.Whole.{conv, state_place, zfactor, zlie}
use Rattle.vp_flow.specs.Parts.{AreSides, sides}
use Rattle.vp_flow.specs.Sides.{model, rates_of, side}
use Rattle.vp_flow.specs.Order.{Fall}
use Rattle.vp_flow.specs.Flows.{AreFlowsOf, AreOf, AreTimed, IsFlow}
use Rattle.vp_flow.specs.Outcome.{AreFlows, IsFlowOf}
use Rattle.vp_flow.specs.Placed.{AllowsFlows}
use Rattle.vp_flow.specs.declared.bounds.Bounds.{Bounds}
use Rattle.vp_flow.specs.declared.rates.Rates.{Rates}
use Rattle.vp_flow.proofs.Convolution.{split_sum-on, total-zero}
use Rattle.vp_flow.proofs.Derivative.{IsTimes-of_zero, IsTimes-zero, flow_at, pow_positive}
use Rattle.vp_flow.proofs.Lie.{cond_none, left_none, no_exponent, right_none, times_one}
use Rattle.vp_flow.proofs.Outcomes.{clash, compared}
use Rattle.vp_flow.proofs.Replacing.{only-none}
use Rattle.vp_flow.proofs.SharingLaws.{AreGiven, each-shared, polys-at}
use Rattle.vp_flow.proofs.Solving.{coef-timeless, rates-are, side-or}
use Rattle.vp_flow.proofs.Tau.{part_exponent}

-- ---- places that no right side has

zfactor-none : (p : Places) (t j : ℕ) (f : Powers → ℤ) → j < p.states → p.params + p.states ≤ t → ((a : Powers) → get_or a t 0 ≢ 0 → f a ≡ pos 0) → (a : Powers) → get_or a t 0 ≢ 0 → zfactor p j f a ≡ pos 0
zfactor-none p t j f lt later none a ne =
    let apart : t ≢ state_place p j = λ e. absurd (omega (arith, e)) in
    let same = get_or-set_other a (state_place p j) t 1 0 apart in
    cond_none (state_degree p a == 0) (f (set a (state_place p j) 1)) (none (set a (state_place p j) 1) (λ e. ne (sym same ∙ e)))

conv-none : (t : ℕ) (f g : Powers → ℤ) (m : Powers) → ((a : Powers) → get_or a t 0 ≢ 0 → f a ≡ pos 0) → ((a : Powers) → get_or a t 0 ≢ 0 → g a ≡ pos 0) → get_or m t 0 ≢ 0 → conv f g m ≡ pos 0
conv-none t f g m h k ne =
    split_sum-on m (λ a b. f a *ℤ g b) (λ a b. pos 0) (λ a b s. each a b (part_exponent m a b t s) (get_or a t 0 == 0) refl)
    ∙ split_sum-zero m (λ a b. pos 0) (λ a b. refl)
  where
    each : (a b : Powers) → get_or a t 0 + get_or b t 0 ≡ get_or m t 0 → (v : Bool) → (get_or a t 0 == 0) ≡ v → f a *ℤ g b ≡ pos 0
    each a b s true u = let z = eqb-true (get_or a t 0) 0 u in right_none (f a) (g b) (k b (λ e. ne (sym s ∙ (let w : get_or a t 0 + get_or b t 0 ≡ 0 = omega arith in w))))
    each a b s false u = left_none (f a) (g b) (h a (eqb-false (get_or a t 0) 0 u))

pub zlie-none : (p : Places) (r : ℕ → Powers → ℤ) (t k i : ℕ) → p.params + p.states ≤ t → ((j : ℕ) (a : Powers) → get_or a t 0 ≢ 0 → r j a ≡ pos 0) → i < p.states → (a : Powers) → get_or a t 0 ≢ 0 → zlie p r i k a ≡ pos 0
zlie-none p r t zero i later none lt a ne =
    let apart : t ≢ state_place p i = λ e. absurd (omega (arith, e)) in
    let x = get_or-set_other (replicate 32 0) (state_place p i) t 1 0 apart ∙ no_exponent 32 t in
    only-none (set (replicate 32 0) (state_place p i) 1) a (pos 1) (λ q. ne (sym (ap (λ (l : List ℕ). get_or l t 0) q) ∙ x))
zlie-none p r t (suc k) i later none lt a ne =
    total-zero p.states (λ j. conv (zfactor p j (zlie p r i k)) (r j) a)
    (λ j j_lt. conv-none t (zfactor p j (zlie p r i k)) (r j) a (zfactor-none p t j (zlie p r i k) j_lt later (zlie-none p r t k i later none lt)) (none j) ne)

-- ---- a flow has none of them

-- at a monomial that has such a place the flow is 0
flow-none : (r : Rates) (rates : ℕ → Coefficients) (h : ℕ → ℕ) (i t : ℕ) → AreSides r → AreTimed r → AreOf r rates → Fall (places_for r.counts) r.sides h → ((j : ℕ) → j < r.counts.states → AreBelow t (side r.sides j)) → i < r.counts.states → r.counts.params + r.counts.states ≤ t → t ≢ tau_place (places_for r.counts) → (m : Powers) → length m ≡ 32 → get_or m t 0 ≢ 0 → Equals (flow_of (places_for r.counts) rates i (h i) m) (whole (pos 0))
flow-none r rates h i t a timed of f low lt later apart m len ne =
    let c = get_or m (tau_place (places_for r.counts)) 0 in
    let x = rates-are r rates h a timed of f in
    let at = flow_at (places_for r.counts) r.bounds.common (sides r) rates h x i (get_or m (tau_place (places_for r.counts)) 0) lt m len refl in
    let same = get_or-set_other m (tau_place (places_for r.counts)) t 0 0 apart in
    let z = zlie-none (places_for r.counts) (sides r) t (get_or m (tau_place (places_for r.counts)) 0) i later none lt (set m (tau_place (places_for r.counts)) 0) (λ e. ne (sym same ∙ e)) in
    IsTimes-zero (r.bounds.common ^ c * factorial c) (zlie (places_for r.counts) (sides r) i c (set m (tau_place (places_for r.counts)) 0)) (flow_of (places_for r.counts) rates i (h i) m) (mul-pos (pow_positive r.bounds.common c timed.common) (factorial_positive c)) z at
  where
    none : (j : ℕ) (b : Powers) → get_or b t 0 ≢ 0 → sides r j b ≡ pos 0
    none j b ne = elim (side-or r j a) [
      | inl e ↦ ap (λ (ts : List Term). coef ts b) e
      | inr j_lt ↦ coef-timeless t (side r.sides j) b (λ n d n_lt. (low j j_lt n d n_lt).none t (omega arith)) ne
    ]

-- where a function is 0, so is each coefficient
coefficient-none : (d : ℕ) (ts : List Term) (f : Coefficients) (m : Powers) → HasCoefficients d ts f → Equals (f m) (whole (pos 0)) → coef ts m ≡ pos 0
coefficient-none d ts f m h z =
    let own = h.each m in
    let none = IsTimes-of_zero d (pos 0) (f m) refl z in
    let e = chain own.same (Equals-sym _ _ none.same) in
    sym (times_one (coef ts m)) ∙ e.crossed ∙ times_one (pos 0)

-- ---- which places are left

passes : (p : Places) (allowed : ℕ → Bool) (k : ℕ) (v : Var) → AllowsFlows p allowed → allowed k ≡ false → is_allowed in_domain p v ≡ true → place p v ≡ k → ⊥
passes p allowed k v h off on e = clash (allowed k) (subst (λ (n : ℕ). allowed n ≡ true) e (h v on)) off

foreign : (p : Places) (allowed : ℕ → Bool) (k : ℕ) → AllowsFlows p allowed → allowed k ≡ false → (p.params + p.states + p.controls ≤ k) × (k ≢ tau_place p)
foreign p allowed k h off = (behind, λ e. passes p allowed k Tau h off refl (sym e))
  where
    on : (x y : ℕ) → x < y → nat_lt x y ≡ true
    on x y lt = grind (arith, nat_tests)

    behind : p.params + p.states + p.controls ≤ k
    behind = elim (compared k p.params) [
      | inl l ↦ absurd (passes p allowed k (Param k) h off (on k p.params l) refl)
      | inr g ↦ elim (compared k (p.params + p.states)) [
        | inl l ↦ absurd (passes p allowed k (State (k - p.params)) h off (on (k - p.params) p.states (omega arith)) (omega arith))
        | inr s ↦ elim (compared k (p.params + p.states + p.controls)) [
          | inl l ↦ absurd (passes p allowed k (Control (k - (p.params + p.states))) h off (on (k - (p.params + p.states)) p.controls (omega arith)) (omega arith))
          | inr c ↦ c
        ]
      ]
    ]

-- where a coefficient 0 tells that a place has no exponent
abbrev pub Told : Type 0
Told = (allowed : ℕ → Bool) (ts : List Term) → IsPoly ts → ((m : Powers) (k : ℕ) → length m ≡ 32 → allowed k ≡ false → slice_index m k ≢ 0 → coef ts m ≡ pos 0) → HaveOnly allowed ts

flow-only : Told → (r : Rates) (rates : ℕ → Coefficients) (h : ℕ → ℕ) (allowed : ℕ → Bool) (i : ℕ) (s : Scaled) → AreSides r → AreTimed r → AreOf r rates → Fall (places_for r.counts) r.sides h → ((j : ℕ) → j < r.counts.states → AreBelow (r.counts.params + r.counts.states + r.counts.controls) (side r.sides j)) → AllowsFlows (places_for r.counts) allowed → i < r.counts.states → IsFlow r h i s → HaveOnly allowed s.poly
flow-only told r rates h allowed i s a timed of f low allows lt x = told allowed s.poly x.poly each
  where
    weaker : (ps : Powers) (k : ℕ) → r.counts.params + r.counts.states + r.counts.controls ≤ k → IsBelow (r.counts.params + r.counts.states + r.counts.controls) ps → IsBelow k ps
    weaker ps k le b = record { none = λ l l_le. b.none l (omega arith) }

    each : (m : Powers) (k : ℕ) → length m ≡ 32 → allowed k ≡ false → get_or m k 0 ≢ 0 → coef s.poly m ≡ pos 0
    each m k len off ne =
        let g = foreign (places_for r.counts) allowed k allows off in
        coefficient-none s.weight.den s.poly (flow_of (places_for r.counts) rates i (h i)) m (x.coefficients rates of)
        (flow-none r rates h i k a timed of f (λ j j_lt l e l_lt. weaker (get_or (side r.sides j) l e).mono.powers k g.0 (low j j_lt l e l_lt)) lt (let b = g.0 in omega arith) g.1 m len ne)

-- ---- the flows of a package

all-of : {X : Type 0} → (P : ℕ → X → Type 0) (Q : X → Type 0) (xs : List X) → ((i : ℕ) (x : X) → i < length xs → P i x → Q x) → ((i : ℕ) → IfSome (slice_get xs i) (P i)) → (i : ℕ) (d : X) → i < length xs → Q (get_or xs i d)
all-of {X} P Q [] f h i d lt = absurd (omega arith)
all-of {X} P Q (x ∷ xs) f h zero d lt = f 0 x (omega arith) (h 0)
all-of {X} P Q (x ∷ xs) f h (suc i) d lt = all-of (λ j. P (suc j)) Q xs (λ j y l p. f (suc j) y (omega arith) p) (λ j. h (suc j)) i d (omega arith)

low-shared : (pkg : Package) (c : Counts) (b : Bounds) (qs : List Scaled) (r : Rates) → AreGiven pkg c b qs r → r.counts ≡ c → (j : ℕ) → j < r.counts.states → AreBelow (r.counts.params + r.counts.states + r.counts.controls) (side r.sides j)
low-shared pkg c b qs r x e j lt =
    let n = x.states in
    let m : r.counts.states ≡ c.states = ap (λ (k : Counts). k.states) e in
    let j_lt : j < length qs = omega arith in
    subst (λ (k : Counts). AreBelow (k.params + k.states + k.controls) (side r.sides j)) (sym e)
    (each-shared (λ m. IsBelow (c.params + c.states + c.controls) m) c b qs r x.shared j j_lt
    (subst (λ (ts : List Term). AreBelow (c.params + c.states + c.controls) ts) (sym (polys-at qs j nothing j_lt)) (x.low j nothing j_lt)))
  where
    nothing : Scaled
    nothing = record { poly = []; weight = record { norm = 0; den = 1; degree = 0; terms = 0 } }

pub flows-only : Told → (pkg : Package) (c : Counts) (b : Bounds) (qs : List Scaled) (r : Rates) (h : ℕ → ℕ) (n : ℕ) (fs : List Scaled) (allowed : ℕ → Bool) → AreGiven pkg c b qs r → r.counts ≡ c → n ≡ r.counts.states → AreSides r → AreTimed r → AreOf r (rates_of pkg) → Fall (places_for r.counts) r.sides h → AllowsFlows (model pkg) allowed → AreFlowsOf r h n fs → All (λ s. HaveOnly allowed s.poly) fs
flows-only told pkg c b qs r h n fs allowed x e size a timed of f allows flows =
    all-of (IsFlow r h) (λ s. HaveOnly allowed s.poly) fs
    (λ i s lt y. flow-only told r (rates_of pkg) h allowed i s a timed of f (low-shared pkg c b qs r x e) (subst (λ (p : Places). AllowsFlows p allowed) (sym (ap places_for e ∙ x.model_is)) allows) (let m = flows.count in omega arith) y) flows.each

-- ---- entries

in-range : ((k : Kinds) (p : Places) (v : Var) → IsTrue (is_allowed k p v) → IsTrue (has_variable p v)) → ((p : Places) (v : Var) → IsTrue (has_variable p v) → place p v < place_count p) → (p : Places) (v : Var) → IsTrue (is_allowed in_domain p v) → IsTrue (nat_lt (place p v) (place_count p))
in-range there below p v h = on (place p v) (place_count p) (below p v (there in_domain p v h))
  where
    on : (x y : ℕ) → x < y → nat_lt x y ≡ true
    on x y lt = grind (arith, nat_tests)

pub entries : ((k : Kinds) (p : Places) (v : Var) → IsTrue (is_allowed k p v) → IsTrue (has_variable p v)) → ((p : Places) (v : Var) → IsTrue (has_variable p v) → place p v < place_count p) → ((v : ℕ) (ts : List Term) → HaveOnly (λ k. nat_lt k v) ts → AreBelow v ts) → (pkg : Package) (fs : List Scaled) → AreFlows pkg fs → ((allowed : ℕ → Bool) → AllowsFlows (model pkg) allowed → All (λ s. HaveOnly allowed s.poly) fs) → All (IsEntry (place_count (model pkg))) fs
entries there below passed pkg fs a only = λ i d lt. record {
  places = passed (place_count (model pkg)) (get_or fs i d).poly (only (λ k. nat_lt k (place_count (model pkg))) (in-range there below (model pkg)) i d lt);
  within = all-of (λ j s. IsFlowOf pkg a.sides j (a.heights j) s) (λ s. IsWithin s.poly s.weight.norm s.weight.degree s.weight.terms) fs (λ j s l y. y.weighed.within) a.each i d lt;
}
