-- Right sides over their common denominator.
use Rattle.std.proofs.Common.{◌≡◌, inl, inr, ℕ, zero, suc, ◌+◌, ◌/◌, ◌≤◌, ◌<◌, Bool, true, false, ◌&&◌, ◌==◌, List, [], ◌∷◌, ◌++◌, length, get_or, Option, None, Some, slice_get, slice_index, All, refl, sym, ap, ◌∙◌, subst, arith, ℤ, pos}
use Rattle.std.specs.List.{list_all}
use Rattle.std.specs.Prelude.{nat_le, IfSome}
use Rattle.std.proofs.lemmas.Bool.Decides.{nat_tests}
use Rattle.std.proofs.lemmas.List.{length-append}
use Rattle.std.proofs.lemmas.Bool.{eqb-true, eqb-false}
use Rattle.vp_words.specs.declared.record.Counts.{Counts}
use Rattle.vp_words.specs.Record.{IsValid}
use Rattle.vp_terms.specs.declared.expr.Expr.{Expr}
use Rattle.vp_terms.specs.declared.expr.Places.{Places}
use Rattle.vp_terms.specs.declared.package.Package.{Package}
use Rattle.vp_poly.specs.declared.mono.Term.{Term}
use Rattle.vp_poly.specs.declared.scaled.Scaled.{Scaled}
use Rattle.vp_poly.specs.Poly.{Powers, coef, scaled}
use Rattle.vp_poly.specs.Places.{AreBelow, places_for}
use Rattle.vp_poly.specs.Coefficient.{Coefficients}
use Rattle.vp_poly.specs.Times.{HasCoefficients}
use Rattle.vp_poly.proofs.SizeLaws.{coef-scaled}
use Rattle.vp_poly.proofs.TimesLaws.{coefficients-multiple}
use Rattle.vp_flow.specs.Series.{state_degree, tau_place}
use Rattle.vp_flow.specs.Sides.{AreRightSides, IsPolynomialOf, is_linear, model, polys, rate_of, rates_of, side}
use Rattle.vp_flow.specs.Order.{Fall}
use Rattle.vp_flow.specs.Parts.{AreSides, IsLinear, IsSide}
use Rattle.vp_flow.specs.Flows.{AreOf, AreTimed}
use Rattle.vp_flow.specs.Outcome.{AreLinear}
use Rattle.vp_flow.specs.Sharing.{AreShared, IsSharedOf, IsSuited}
use Rattle.vp_flow.specs.declared.bounds.Bounds.{Bounds}
use Rattle.vp_flow.specs.declared.rates.Rates.{Rates}
use Rattle.vp_flow.proofs.Derivative.{IsTimes-of_zero, IsTimes-zero}

-- ---- the polynomials of right sides

pub polys-at : (qs : List Scaled) (i : ℕ) (d : Scaled) → i < length qs → side (polys qs) i ≡ (get_or qs i d).poly
polys-at [] i d lt = absurd (omega arith)
polys-at (q ∷ qs) zero d lt = refl
polys-at (q ∷ qs) (suc i) d lt = polys-at qs i d (omega arith)

pub polys-beyond : (qs : List Scaled) (i : ℕ) → length qs ≤ i → side (polys qs) i ≡ []
polys-beyond [] i le = refl
polys-beyond (q ∷ qs) zero le = absurd (omega arith)
polys-beyond (q ∷ qs) (suc i) le = polys-beyond qs i (omega arith)

pub side-get : (ss : List (List Term)) (i : ℕ) (d : List Term) → i < length ss → side ss i ≡ get_or ss i d
side-get [] i d lt = absurd (omega arith)
side-get (s ∷ ss) zero d lt = refl
side-get (s ∷ ss) (suc i) d lt = side-get ss i d (omega arith)

-- ---- tests of terms, and multiples

pub all-linear : (p : Places) (ts : List Term) → is_linear p ts ≡ true → IsLinear p ts
all-linear p [] e = λ i d lt. absurd (omega arith)
all-linear p (t ∷ ts) e = at (nat_le (state_degree p t.mono.powers) 1) refl e (all-linear p ts)
  where
    low : nat_le (state_degree p t.mono.powers) 1 ≡ true → state_degree p t.mono.powers ≤ 1
    low s = grind (arith, nat_tests)

    each : nat_le (state_degree p t.mono.powers) 1 ≡ true → IsLinear p ts → (i : ℕ) (d : Term) → i < length (t ∷ ts) → state_degree p (get_or (t ∷ ts) i d).mono.powers ≤ 1
    each s more zero d lt = low s
    each s more (suc i) d lt = more i d (omega arith)

    at : (b : Bool) → nat_le (state_degree p t.mono.powers) 1 ≡ b → (b && list_all (λ t. nat_le (state_degree p t.mono.powers) 1) ts) ≡ true → (is_linear p ts ≡ true → IsLinear p ts) → IsLinear p (t ∷ ts)
    at true s q more = each s (more q)
    at false s q more = absurd (cc)

-- what holds of each monomial holds of those of a multiple
pub all-scaled : (P : Powers → Type 0) (k : ℤ) (ts : List Term) → All (λ t. P t.mono.powers) ts → All (λ t. P t.mono.powers) (scaled k ts)
all-scaled P k [] h = λ i d lt. absurd (omega arith)
all-scaled P k (t ∷ ts) h = λ i d lt. each (all-scaled P k ts (λ i d lt. h (suc i) d (omega arith))) i d lt
  where
    each : All (λ t. P t.mono.powers) (scaled k ts) → (i : ℕ) (d : Term) → i < length (scaled k (t ∷ ts)) → P (get_or (scaled k (t ∷ ts)) i d).mono.powers
    each more zero d lt = h 0 t (omega arith)
    each more (suc i) d lt = more i d (omega arith)

-- ---- what the right sides over the common denominator are

-- what is known of the right sides
pub record AreGiven (pkg : Package) (c : Counts) (b : Bounds) (qs : List Scaled) (r : Rates) : Type 0 where
  pub model_is : places_for c ≡ model pkg
  pub valid : IsValid c
  pub states : length qs ≡ c.states
  pub right : AreRightSides pkg qs
  pub linear : AreLinear pkg qs
  pub low : All (λ q. AreBelow (c.params + c.states + c.controls) q.poly) qs
  pub suited : All (IsSuited b) qs
  pub shared : AreShared c b qs r
  pub common : 1 ≤ b.common
  pub norm : 1 ≤ b.norm
  pub degree : 1 ≤ b.degree
  pub terms : 1 ≤ b.terms

linear-at : (pkg : Package) (c : Counts) (b : Bounds) (qs : List Scaled) (r : Rates) → AreGiven pkg c b qs r → (i : ℕ) (d : Scaled) → i < length qs → IsLinear (places_for c) (get_or qs i d).poly
linear-at pkg c b qs r x i d lt =
    let s = x.states in
    let n : i < length pkg.names.states = (let e : c.states ≡ length pkg.names.states = ap (λ (p : Places). p.states) x.model_is in omega arith) in
    let l = all-linear (model pkg) (side (polys qs) i) (x.linear.each i n) in
    subst (λ (p : Places). IsLinear p (get_or qs i d).poly) (sym x.model_is) (subst (λ (ts : List Term). IsLinear (model pkg) ts) (polys-at qs i d lt) l)

pub are-sides : (pkg : Package) (c : Counts) (b : Bounds) (qs : List Scaled) (r : Rates) → AreGiven pkg c b qs r → r.counts ≡ c → r.bounds ≡ b → AreSides r
are-sides pkg c b qs r x e f = record {
  few = subst (λ (k : Counts). k.params + k.states ≤ 32) (sym e) (let v = x.valid in let w = v.2 in omega arith);
  count = x.shared.count ∙ x.states ∙ sym (ap (λ (k : Counts). k.states) e);
  each = λ i d lt. subst (λ (k : Counts). IsSide (places_for k) r.bounds (get_or r.sides i d)) (sym e) (subst (λ (n : Bounds). IsSide (places_for c) n (get_or r.sides i d)) (sym f) (one i d lt));
  norm = subst (λ (n : Bounds). 1 ≤ n.norm) (sym f) x.norm;
  degree = subst (λ (n : Bounds). 1 ≤ n.degree) (sym f) x.degree;
  terms = subst (λ (n : Bounds). 1 ≤ n.terms) (sym f) x.terms;
}
  where
    none : Scaled
    none = record { poly = []; weight = record { norm = 0; den = 1; degree = 0; terms = 0 } }

    of : (i : ℕ) → i < length qs → IsSide (places_for c) b (side r.sides i)
    of i lt =
        let s = x.shared.each i none lt in
        record {
          poly = s.poly;
          linear = subst (λ (ts : List Term). IsLinear (places_for c) ts) (sym s.terms) (all-scaled (λ m. state_degree (places_for c) m ≤ 1) (pos (b.common / (get_or qs i none).weight.den)) (get_or qs i none).poly (linear-at pkg c b qs r x i none lt));
          norm_le = s.sizes.norm_le;
          degree_le = s.sizes.degree_le;
          length_le = s.sizes.length_le;
        }

    one : (i : ℕ) (d : List Term) → i < length r.sides → IsSide (places_for c) b (get_or r.sides i d)
    one i d lt = let n = x.shared.count in subst (λ (ts : List Term). IsSide (places_for c) b ts) (side-get r.sides i d lt) (of i (omega arith))

unfoldable pub nothing : Scaled
nothing = record { poly = []; weight = record { norm = 0; den = 1; degree = 0; terms = 0 } }

-- what holds of each monomial of a right side holds of those over the common denominator
pub each-shared : (P : Powers → Type 0) (c : Counts) (b : Bounds) (qs : List Scaled) (r : Rates) → AreShared c b qs r → (i : ℕ) → i < length qs → All (λ t. P t.mono.powers) (side (polys qs) i) → All (λ t. P t.mono.powers) (side r.sides i)
each-shared P c b qs r x i lt h =
    let s = x.each i nothing lt in
    subst (λ (ts : List Term). All (λ t. P t.mono.powers) ts) (sym s.terms)
    (all-scaled P (pos (b.common / (get_or qs i nothing).weight.den)) (get_or qs i nothing).poly (subst (λ (ts : List Term). All (λ t. P t.mono.powers) ts) (polys-at qs i nothing lt) h))

-- heights fall there too
pub fall-shared : (p : Places) (c : Counts) (b : Bounds) (qs : List Scaled) (r : Rates) (h : ℕ → ℕ) → length qs ≡ p.states → AreShared c b qs r → Fall p (polys qs) h → Fall p r.sides h
fall-shared p c b qs r h n x f = record {
  zero_side = λ i lt z.
      let s = x.each i nothing (omega arith) in
      s.terms ∙ ap (λ (ts : List Term). scaled (pos (b.common / (get_or qs i nothing).weight.den)) ts) (sym (polys-at qs i nothing (omega arith)) ∙ f.zero_side i lt z);
  used = λ i j lt j_lt. elim (f.used i j lt j_lt) [
    | inl free ↦ inl (each-shared (λ m. slice_index m (p.params + j) ≡ 0) c b qs r x i (omega arith) free)
    | inr less ↦ inr less
  ];
}

-- ---- they are the rates times the common denominator

zero-times : (k : ℕ) (ts us : List Term) → us ≡ scaled (pos k) ts → ts ≡ [] → us ≡ []
zero-times k ts us e z = e ∙ ap (scaled (pos k)) z

no-terms : (d e : ℕ) (ts us : List Term) (f : Coefficients) → 0 < d → ts ≡ [] → us ≡ [] → HasCoefficients d ts f → HasCoefficients e us f
no-terms d e ts us f pos_d z y h = record {
  each = λ m.
      let zero = IsTimes-zero d (coef ts m) (f m) pos_d (ap (λ (l : List Term). coef l m) z) (h.each m) in
      IsTimes-of_zero e (coef us m) (f m) (ap (λ (l : List Term). coef l m) y) zero;
}

times-shared : (b : Bounds) (q : Scaled) (ts : List Term) (f : Coefficients) → IsSuited b q → IsSharedOf b q ts → HasCoefficients q.weight.den q.poly f → HasCoefficients b.common ts f
times-shared b q ts f s x h = elim s.shared [
  | inl z ↦ no-terms q.weight.den b.common q.poly ts f s.positive z (zero-times (b.common / q.weight.den) q.poly ts x.terms z) h
  | inr share ↦ subst (λ (n : ℕ). HasCoefficients n ts f) share.exact
      (coefficients-multiple (b.common / q.weight.den) q.weight.den q.poly ts f h (λ m. ap (λ (l : List Term). coef l m) x.terms ∙ coef-scaled (pos (b.common / q.weight.den)) q.poly m))
]

pub rate-is : (pkg : Package) (qs : List Scaled) (i : ℕ) (d : Scaled) → AreRightSides pkg qs → i < length qs → HasCoefficients (get_or qs i d).weight.den (get_or qs i d).poly (rates_of pkg i)
rate-is pkg qs i d x lt = at (slice_get pkg.plant.rates i) refl (x.each i)
  where
    got : {X : Type 0} → (xs : List X) (i : ℕ) (d : X) → i < length xs → slice_get xs i ≡ Some (get_or xs i d)
    got [] i d lt = absurd (omega arith)
    got (x ∷ xs) zero d lt = refl
    got (x ∷ xs) (suc i) d lt = got xs i d (omega arith)

    beyond : {X : Type 0} → (xs : List X) (i : ℕ) → slice_get xs i ≡ None → length xs ≤ i
    beyond [] i e = omega arith
    beyond (x ∷ xs) zero e = absurd (cc)
    beyond (x ∷ xs) (suc i) e = let more = beyond xs i e in omega arith

    there : (e : Expr) → (o : Option Scaled) → o ≡ Some (get_or qs i d) → IfSome o (IsPolynomialOf (model pkg) e) → IsPolynomialOf (model pkg) e (get_or qs i d)
    there e o s h = subst (λ (o : Option Scaled). IfSome o (IsPolynomialOf (model pkg) e)) s h

    at : (o : Option Expr) → slice_get pkg.plant.rates i ≡ o → IfSome o (λ e. IfSome (slice_get qs i) (IsPolynomialOf (model pkg) e)) → HasCoefficients (get_or qs i d).weight.den (get_or qs i d).poly (rate_of (model pkg) (slice_get pkg.plant.rates i))
    at None s h = let b = beyond pkg.plant.rates i s in let c = x.count in absurd (omega arith)
    at (Some e) s h = subst (λ (o : Option Expr). HasCoefficients (get_or qs i d).weight.den (get_or qs i d).poly (rate_of (model pkg) o)) (sym s) (there e (slice_get qs i) (got qs i d lt) h).canonical.coefficients

pub are-of : (pkg : Package) (c : Counts) (b : Bounds) (qs : List Scaled) (r : Rates) → AreGiven pkg c b qs r → r.counts ≡ c → r.bounds ≡ b → AreOf r (rates_of pkg)
are-of pkg c b qs r x e f = record {
  each = λ j lt.
      let n = x.states in
      let m : r.counts.states ≡ c.states = ap (λ (k : Counts). k.states) e in
      let j_lt : j < length qs = omega arith in
      subst (λ (n : Bounds). HasCoefficients n.common (side r.sides j) (rates_of pkg j)) (sym f)
      (times-shared b (get_or qs j nothing) (side r.sides j) (rates_of pkg j) (x.suited j nothing j_lt) (x.shared.each j nothing j_lt) (rate-is pkg qs j nothing x.right j_lt));
}

pub are-timed : (pkg : Package) (c : Counts) (b : Bounds) (qs : List Scaled) (r : Rates) → AreGiven pkg c b qs r → r.counts ≡ c → r.bounds ≡ b → AreTimed r
are-timed pkg c b qs r x e f = record {
  common = subst (λ (n : Bounds). 1 ≤ n.common) (sym f) x.common;
  places = subst (λ (k : Counts). tau_place (places_for k) < 32) (sym e) (let v = x.valid in let w = v.2 in omega arith);
  no_tau = λ j lt.
      let n = x.states in
      let m : r.counts.states ≡ c.states = ap (λ (k : Counts). k.states) e in
      let j_lt : j < length qs = omega arith in
      subst (λ (k : Counts). All (λ t. slice_index t.mono.powers (tau_place (places_for k)) ≡ 0) (side r.sides j)) (sym e)
      (each-shared (λ m. slice_index m (tau_place (places_for c)) ≡ 0) c b qs r x.shared j j_lt
      (subst (λ (ts : List Term). All (λ t. slice_index t.mono.powers (tau_place (places_for c)) ≡ 0) ts) (sym (polys-at qs j nothing j_lt))
      (λ i d i_lt. (x.low j nothing j_lt i d i_lt).none (tau_place (places_for c)) (omega arith))));
}

-- ---- one right side after the other

defaults : (qs : List Scaled) (i : ℕ) (d e : Scaled) → i < length qs → get_or qs i d ≡ get_or qs i e
defaults [] i d e lt = absurd (omega arith)
defaults (x ∷ qs) zero d e lt = refl
defaults (x ∷ qs) (suc i) d e lt = defaults qs i d e (omega arith)

pub shared-more : (b : Bounds) (n : ℕ) (qs : List Scaled) (ss new : List (List Term)) (s : List Term) (q : Scaled) → new ≡ ss ++ s ∷ [] → length ss ≡ n → ((i : ℕ) (d : Scaled) → i < n → IsSharedOf b (get_or qs i d) (side ss i)) → n < length qs → q ≡ get_or qs n q → IsSharedOf b q s → (length new ≡ n + 1) × ((i : ℕ) (d : Scaled) → i < n + 1 → IsSharedOf b (get_or qs i d) (side new i))
shared-more b n qs ss new s q e size before inside is own = (
  ap (λ (l : List (List Term)). length l) e ∙ length-append ss (s ∷ []) ∙ ap (λ (k : ℕ). k + 1) size,
  λ i d lt. subst (λ (l : List (List Term)). IsSharedOf b (get_or qs i d) (side l i)) (sym e) (at i d lt (i == n) refl),
)
  where
    front : (ss : List (List Term)) (s : List Term) (i : ℕ) → i < length ss → side (ss ++ s ∷ []) i ≡ side ss i
    front [] s i lt = absurd (omega arith)
    front (x ∷ ss) s zero lt = refl
    front (x ∷ ss) s (suc i) lt = front ss s i (omega arith)

    last : (ss : List (List Term)) (s : List Term) → side (ss ++ s ∷ []) (length ss) ≡ s
    last [] s = refl
    last (x ∷ ss) s = last ss s

    at : (i : ℕ) (d : Scaled) → i < n + 1 → (v : Bool) → (i == n) ≡ v → IsSharedOf b (get_or qs i d) (side (ss ++ s ∷ []) i)
    at i d lt true t =
        let k : i ≡ n = eqb-true i n t in
        let item : get_or qs i d ≡ q = ap (λ (j : ℕ). get_or qs j d) k ∙ defaults qs n d q inside ∙ sym is in
        let here : side (ss ++ s ∷ []) i ≡ s = ap (side (ss ++ s ∷ [])) (k ∙ sym size) ∙ last ss s in
        subst (IsSharedOf b (get_or qs i d)) (sym here) (subst (λ (x : Scaled). IsSharedOf b x s) (sym item) own)
    at i d lt false t = let ne = eqb-false i n t in let less : i < n = omega arith in subst (IsSharedOf b (get_or qs i d)) (sym (front ss s i (omega arith))) (before i d less)

pub shared-all : (c : Counts) (b : Bounds) (n : ℕ) (qs : List Scaled) (ss made : List (List Term)) → length qs ≤ n → n ≤ length qs → made ≡ ss → length ss ≡ n → ((i : ℕ) (d : Scaled) → i < n → IsSharedOf b (get_or qs i d) (side ss i)) → AreShared c b qs (record { counts = c; sides = made; bounds = b })
shared-all c b n qs ss made le ge e size h = subst (λ (l : List (List Term)). AreShared c b qs (record { counts = c; sides = l; bounds = b })) (sym e) (record {
  counts = refl;
  bounds = refl;
  count = omega arith;
  each = λ i d lt. h i d (omega arith);
})
