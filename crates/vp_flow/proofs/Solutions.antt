-- The flows solve the plant's equations.
use Rattle.std.proofs.Common.{◌≡◌, ◌≢◌, ℕ, zero, suc, ◌+◌, ◌-◌, ◌*◌, ◌/◌, ◌≤◌, ◌<◌, Bool, true, false, cond, ◌==◌, ◌&&◌, leb, nat_lt, List, [], ◌∷◌, length, get_or, set, Option, None, Some, slice_get, slice_index, refl, sym, ap, ◌∙◌, subst, arith, ℤ, pos, ◌*ℤ◌}
use Rattle.std.specs.Prelude.{IfSome, IsTrue}
use Rattle.std.proofs.lemmas.Bool.{leb-true, leb-false}
use Rattle.std.proofs.lemmas.Bool.Decides.{nat_tests}
use Rattle.vp_terms.specs.Rational.{Rational, Equals, whole, sum, product}
use Rattle.vp_terms.specs.declared.expr.Places.{Places}
use Rattle.vp_terms.specs.declared.expr.Var.{Var}
use Rattle.vp_terms.specs.declared.expr.Var.TheVariants.{Param, State, Control, NextState, NextControl, Tau}
use Rattle.vp_terms.specs.declared.expr.Expr.{Expr}
use Rattle.vp_terms.specs.Places.{place, place_count, has_variable}
use Rattle.vp_terms.specs.Variables.{all_variables}
use Rattle.vp_terms.specs.WellFormed.{IsWellFormed}
use Rattle.vp_terms.specs.declared.package.Package.{Package}
use Rattle.vp_terms.proofs.RationalLaws.{chain, Equals-refl, Equals-sym, Equals-sum, Equals-product}
use Rattle.vp_poly.specs.declared.scaled.Scaled.{Scaled}
use Rattle.vp_poly.specs.Poly.{Powers, coef, only_at}
use Rattle.vp_poly.specs.Product.{over_splits, sum_to}
use Rattle.vp_poly.specs.Coefficient.{Coefficients, coefficients, times}
use Rattle.vp_poly.specs.Canonical.{unit, variables}
use Rattle.vp_poly.specs.Places.{places_for}
use Rattle.vp_flow.specs.Series.{at_start, by_tau, factor, flow_of, stateless, substituted, sum_below, tau_place, with_states}
use Rattle.vp_flow.specs.Sides.{model, rate_of, rates_of}
use Rattle.vp_flow.specs.Order.{Fall}
use Rattle.vp_flow.specs.Parts.{AreSides}
use Rattle.vp_flow.specs.Flows.{AreFlowsOf, AreOf, AreTimed, IsFlow}
use Rattle.vp_poly.specs.Times.{HasCoefficients, IsTimes}
use Rattle.vp_poly.specs.Weights.{Weights}
use Rattle.vp_flow.specs.Solution.{AreCoefficients, Solve, Start, with_flows}
use Rattle.vp_flow.specs.Bounds.{common_den}
use Rattle.vp_poly.proofs.TimesLaws.{IsTimes-only_at, IsTimes-fraction}
use Rattle.vp_flow.proofs.BoundLaws.{ArePositive, common-positive, exact-part}
use Rattle.vp_flow.proofs.Deriving.{IsKept, stands-linear, unique, whole-scaled}
use Rattle.vp_flow.proofs.Expressing.{stands-expression}
use Rattle.vp_flow.proofs.Freeing.{multiple}
use Rattle.vp_flow.specs.declared.rates.Rates.{Rates}
use Rattle.vp_flow.proofs.Convolution.{AreParts}
use Rattle.vp_flow.proofs.Derivative.{IsTimes-equal, part_length_right}
use Rattle.vp_flow.proofs.Growing.{den-positive}
use Rattle.vp_flow.proofs.RightLaws.{AreKnown, found, good-rate, rate-variables}
use Rattle.vp_flow.proofs.Solving.{solves, starts, unchanged}

-- ---- equal coefficients

sum_to-same : (n : ℕ) (u v : ℕ → Rational) → ((i : ℕ) → i ≤ n → Equals (u i) (v i)) → Equals (sum_to sum n u) (sum_to sum n v)
sum_to-same zero u v h = h 0 (omega arith)
sum_to-same (suc n) u v h = Equals-sum _ _ _ _ (sum_to-same n u v (λ i le. h i (omega arith))) (h (suc n) (omega arith))

splits-same : (m : Powers) (u v : Powers → Powers → Rational) → ((a b : Powers) → AreParts m a b → Equals (u a b) (v a b)) → Equals (over_splits sum m u) (over_splits sum m v)
splits-same [] u v h = h [] [] tt
splits-same (e ∷ es) u v h =
    sum_to-same e (λ i. over_splits sum es (λ a b. u (i ∷ a) ((e - i) ∷ b))) (λ i. over_splits sum es (λ a b. v (i ∷ a) ((e - i) ∷ b)))
    (λ i le. splits-same es (λ a b. u (i ∷ a) ((e - i) ∷ b)) (λ a b. v (i ∷ a) ((e - i) ∷ b)) (λ a b s. let q : i + (e - i) ≡ e = omega arith in h (i ∷ a) ((e - i) ∷ b) (q, s)))

sum_below-same : (n : ℕ) (u v : ℕ → Rational) → ((j : ℕ) → j < n → Equals (u j) (v j)) → Equals (sum_below n u) (sum_below n v)
sum_below-same zero u v h = Equals-refl (whole (pos 0))
sum_below-same (suc n) u v h = Equals-sum _ _ _ _ (sum_below-same n u v (λ j lt. h j (omega arith))) (h n (omega arith))

start-same : (p : Places) (f g : Coefficients) (m : Powers) → Equals (f m) (g m) → Equals (at_start p f m) (at_start p g m)
start-same p f g m h = at (slice_index m (tau_place p) == 0)
  where
    at : (v : Bool) → Equals (cond v (f m) (whole (pos 0))) (cond v (g m) (whole (pos 0)))
    at true = h
    at false = Equals-refl (whole (pos 0))

pub substituted-same : (p : Places) (f g : ℕ → Coefficients) (r : Coefficients) (m : Powers) → length m ≡ 32 → ((j : ℕ) → j < p.states → (a : Powers) → length a ≡ 32 → Equals (f j a) (g j a)) → Equals (substituted p f r m) (substituted p g r m)
substituted-same p f g r m e h =
    Equals-sum (stateless p r m) (stateless p r m) (with_states p f r m) (with_states p g r m) (Equals-refl (stateless p r m))
    (sum_below-same p.states (λ j. times (factor p j r) (f j) m) (λ j. times (factor p j r) (g j) m)
    (λ j lt. splits-same m (λ a b. product (factor p j r a) (f j b)) (λ a b. product (factor p j r a) (g j b))
    (λ a b s. Equals-product (factor p j r a) (factor p j r a) (f j b) (g j b) (Equals-refl (factor p j r a)) (h j lt b (part_length_right m a b s ∙ e)))))

-- ---- what multiples tell

-- what has the same multiples as the flow is the flow
same-flow : (r : Rates) (rates : ℕ → Coefficients) (h : ℕ → ℕ) (n : ℕ) (fs : List Scaled) (f : ℕ → Coefficients) → 1 ≤ r.bounds.common → AreOf r rates → AreFlowsOf r h n fs → AreCoefficients fs f → (i : ℕ) → i < n → (m : Powers) → Equals (f i m) (flow_of (places_for r.counts) rates i (h i) m)
same-flow r rates h n fs f one of x c i lt m =
    let inside : i < length fs = (let s = x.count in omega arith) in
    let own = subst (λ (o : Option Scaled). IfSome o (IsFlow r h i)) (found fs i nothing inside) (x.each i) in
    let mine = subst (λ (o : Option Scaled). IfSome o (λ s. HasCoefficients s.weight.den s.poly (f i))) (found fs i nothing inside) (c.each i) in
    IsTimes-equal (get_or fs i nothing).weight.den (whole (coef (get_or fs i nothing).poly m)) (f i m) (flow_of (places_for r.counts) rates i (h i) m)
    (subst (λ (w : Weights). 0 < w.den) (sym own.weight) (den-positive r.bounds (h i) one)) (mine.each m) ((own.coefficients rates of).each m)
  where
    nothing : Scaled
    nothing = record { poly = []; weight = record { norm = 0; den = 1; degree = 0; terms = 0 } }

pub starting : (pkg : Package) (r : Rates) (h : ℕ → ℕ) (n : ℕ) (fs : List Scaled) → places_for r.counts ≡ model pkg → n ≡ r.counts.states → AreSides r → AreTimed r → AreOf r (rates_of pkg) → Fall (places_for r.counts) r.sides h → AreFlowsOf r h n fs → Start pkg fs
starting pkg r h n fs s k sides timed of fall x f c i lt m e =
    let inside : i < n = (let q = x.count in omega arith) in
    subst (λ (p : Places). Equals (at_start p (f i) m) (variables p (State i) m)) s
    (chain (start-same (places_for r.counts) (f i) (flow_of (places_for r.counts) (rates_of pkg) i (h i)) m (same-flow r (rates_of pkg) h n fs f timed.common of x c i inside m))
    (starts r (rates_of pkg) h sides timed of fall i (omega arith) m e))

by_terms : (pkg : Package) (r : Rates) (h : ℕ → ℕ) (n : ℕ) (fs : List Scaled) → n ≡ r.counts.states → AreSides r → AreTimed r → AreOf r (rates_of pkg) → Fall (places_for r.counts) r.sides h → AreFlowsOf r h n fs → (f : ℕ → Coefficients) → AreCoefficients fs f → (i : ℕ) → i < n → (m : Powers) → length m ≡ 32 → Equals (by_tau (places_for r.counts) (f i) m) (substituted (places_for r.counts) f (rates_of pkg i) m)
by_terms pkg r h n fs k sides timed of fall x f c i inside m e =
    let left = Equals-product (whole (pos (suc (slice_index m (tau_place (places_for r.counts)))))) (whole (pos (suc (slice_index m (tau_place (places_for r.counts)))))) _ _ (Equals-refl (whole (pos (suc (slice_index m (tau_place (places_for r.counts)))))))
    (same-flow r (rates_of pkg) h n fs f timed.common of x c i inside (set m (tau_place (places_for r.counts)) (suc (slice_index m (tau_place (places_for r.counts)))))) in
    let right = substituted-same (places_for r.counts) (λ j. flow_of (places_for r.counts) (rates_of pkg) j (h j)) f (rates_of pkg i) m e (λ j j_lt a l. Equals-sym _ _ (same-flow r (rates_of pkg) h n fs f timed.common of x c j (omega arith) a)) in
    chain left (chain (solves r (rates_of pkg) h sides timed of fall i (omega arith) m e) right)

-- ---- the right side as an expression

nothing_at : Scaled
nothing_at = record { poly = []; weight = record { norm = 0; den = 1; degree = 0; terms = 0 } }

-- the flow of the state j over the common denominator of all
abbrev over_common : List Scaled → ℕ → Powers → ℤ
over_common fs j m = pos (common_den fs / (get_or fs j nothing_at).weight.den) *ℤ coef (get_or fs j nothing_at).poly m

-- what replaces each place, over that denominator
abbrev replacing : Places → List Scaled → ℕ → Powers → ℤ
replacing p fs t m = cond (leb p.params t && leb (suc t) (p.params + p.states)) (over_common fs (t - p.params) m) (multiple (common_den fs) t m)

positive-flows : (r : Rates) (h : ℕ → ℕ) (n : ℕ) (fs : List Scaled) → 1 ≤ r.bounds.common → AreFlowsOf r h n fs → ArePositive fs
positive-flows r h n fs one x = λ i d lt.
    let own = subst (λ (o : Option Scaled). IfSome o (IsFlow r h i)) (found fs i d lt) (x.each i) in
    subst (λ (w : Weights). 0 < w.den) (sym own.weight) (den-positive r.bounds (h i) one)

flow-multiple : (fs : List Scaled) (f : ℕ → Coefficients) → ArePositive fs → AreCoefficients fs f → (j : ℕ) → j < length fs → (m : Powers) → IsTimes (common_den fs) (whole (over_common fs j m)) (f j m)
flow-multiple fs f h c j lt m =
    let own = subst (λ (o : Option Scaled). IfSome o (λ s. HasCoefficients s.weight.den s.poly (f j))) (found fs j nothing_at lt) (c.each j) in
    let part = exact-part fs j nothing_at h lt in
    subst (λ (d : ℕ). IsTimes d (whole (over_common fs j m)) (f j m)) part.0
    (whole-scaled (common_den fs / (get_or fs j nothing_at).weight.den) (get_or fs j nothing_at).weight.den (coef (get_or fs j nothing_at).poly m) (f j m) (own.each m))

at-state : (p : Places) (fs : List Scaled) (j : ℕ) (m : Powers) → j < p.states → replacing p fs (p.params + j) m ≡ over_common fs j m
at-state p fs j m lt = at (leb p.params (p.params + j)) refl (leb (suc (p.params + j)) (p.params + p.states)) refl
  where
    at : (v : Bool) → leb p.params (p.params + j) ≡ v → (w : Bool) → leb (suc (p.params + j)) (p.params + p.states) ≡ w → cond (v && w) (over_common fs (p.params + j - p.params) m) (multiple (common_den fs) (p.params + j) m) ≡ over_common fs j m
    at true t true u = let q : p.params + j - p.params ≡ j = omega arith in ap (λ (i : ℕ). over_common fs i m) q
    at true t false u = let gt = leb-false (suc (p.params + j)) (p.params + p.states) u in absurd (omega arith)
    at false t w u = let gt = leb-false p.params (p.params + j) t in absurd (omega arith)

kept-places : (p : Places) (fs : List Scaled) → IsKept p (replacing p fs) (common_den fs)
kept-places p fs = record { kept = λ t lt h m e. at t h m (leb p.params t) refl (leb (suc t) (p.params + p.states)) refl }
  where
    at : (t : ℕ) → ((j : ℕ) → j < p.states → t ≢ p.params + j) → (m : Powers) → (v : Bool) → leb p.params t ≡ v → (w : Bool) → leb (suc t) (p.params + p.states) ≡ w → cond (v && w) (over_common fs (t - p.params) m) (multiple (common_den fs) t m) ≡ multiple (common_den fs) t m
    at t h m true u true x =
        let a = leb-true p.params t u in
        let b = leb-true (suc t) (p.params + p.states) x in
        absurd (h (t - p.params) (omega arith) (omega arith))
    at t h m true u false x = refl
    at t h m false u w x = refl

own-variable : (n : ℕ) (p : Places) (v : Var) (m : Powers) → IsTimes n (whole (multiple n (place p v) m)) (variables p v m)
own-variable n p v m =
    subst (λ (d : ℕ). IsTimes d (whole (multiple n (place p v) m)) (variables p v m)) (let q : n * 1 ≡ n = omega arith in q)
    (whole-scaled n 1 (only_at (unit (place p v)) m (pos 1)) (variables p v m) (IsTimes-only_at 1 (unit (place p v)) m (pos 1) (whole (pos 1)) (IsTimes-fraction 1 (whole (pos 1)) refl)))

lt_of : (x y : ℕ) → nat_lt x y ≡ true → x < y
lt_of x y e = grind (arith, nat_tests)

each-variable : (p : Places) (fs : List Scaled) (f : ℕ → Coefficients) → place_count p ≤ 32 → length fs ≡ p.states → ArePositive fs → AreCoefficients fs f → (v : Var) → IsTrue (has_variable p v) → (m : Powers) → length m ≡ 32 → IsTimes (common_den fs) (whole (replacing p fs (place p v) m)) (with_flows p f v m)
each-variable p fs f few size h c (State j) a m e =
    let lt = lt_of j p.states a in
    subst (λ (w : ℤ). IsTimes (common_den fs) (whole w) (f j m)) (sym (at-state p fs j m lt)) (flow-multiple fs f h c j (omega arith) m)
each-variable p fs f few size h c (Param i) a m e =
    let lt = lt_of i p.params a in
    subst (λ (w : ℤ). IsTimes (common_den fs) (whole w) (variables p (Param i) m)) (sym ((kept-places p fs).kept i (omega arith) (λ j j_lt q. absurd (omega arith)) m e)) (own-variable (common_den fs) p (Param i) m)
each-variable p fs f few size h c (Control i) a m e =
    let lt = lt_of i p.controls a in
    subst (λ (w : ℤ). IsTimes (common_den fs) (whole w) (variables p (Control i) m)) (sym ((kept-places p fs).kept (p.params + p.states + i) (omega arith) (λ j j_lt q. absurd (omega arith)) m e)) (own-variable (common_den fs) p (Control i) m)
each-variable p fs f few size h c (NextState i) a m e =
    let lt = lt_of i p.states a in
    subst (λ (w : ℤ). IsTimes (common_den fs) (whole w) (variables p (NextState i) m)) (sym ((kept-places p fs).kept (p.params + p.states + p.controls + i) (omega arith) (λ j j_lt q. absurd (omega arith)) m e)) (own-variable (common_den fs) p (NextState i) m)
each-variable p fs f few size h c (NextControl i) a m e =
    let lt = lt_of i p.controls a in
    subst (λ (w : ℤ). IsTimes (common_den fs) (whole w) (variables p (NextControl i) m)) (sym ((kept-places p fs).kept (p.params + 2 * p.states + p.controls + i) (omega arith) (λ j j_lt q. absurd (omega arith)) m e)) (own-variable (common_den fs) p (NextControl i) m)
each-variable p fs f few size h c Tau a m e =
    subst (λ (w : ℤ). IsTimes (common_den fs) (whole w) (variables p Tau m)) (sym ((kept-places p fs).kept (p.params + 2 * p.states + 2 * p.controls) (omega arith) (λ j j_lt q. absurd (omega arith)) m e)) (own-variable (common_den fs) p Tau m)

-- replacing term by term is replacing in the expression, where that is linear in the states
pub as-expression : ((p : Places) (v : Var) → IsTrue (has_variable p v) → place p v < place_count p) → (p : Places) (fs : List Scaled) (f : ℕ → Coefficients) (e : Expr) → place_count p ≤ 32 → length fs ≡ p.states → ArePositive fs → AreCoefficients fs f → IsTrue (all_variables (has_variable p) e) → ((m : Powers) → length m ≡ 32 → Equals (substituted p (λ j. variables p (State j)) (coefficients (variables p) e) m) (coefficients (variables p) e m)) → (m : Powers) → length m ≡ 32 → Equals (substituted p f (coefficients (variables p) e) m) (coefficients (with_flows p f) e m)
as-expression in_range p fs f e few size h c vars same m l =
    let np = common-positive fs h in
    let x = stands-expression (replacing p fs) (common_den fs) p (with_flows p f) np few (λ v a. (let q = in_range p v a in omega arith)) (each-variable p fs f few size h c) e vars in
    let y = stands-linear p (replacing p fs) (common_den fs) x.den x.box x.f (coefficients (variables p) e) f np (omega arith) (kept-places p fs)
    (λ j lt a s. subst (λ (w : ℤ). IsTimes (common_den fs) (whole w) (f j a)) (sym (at-state p fs j a lt)) (flow-multiple fs f h c j (omega arith) a)) x.size x.positive x.within x.own in
    unique (replacing p fs) (common_den fs) (substituted p (λ j. variables p (State j)) (coefficients (variables p) e)) (substituted p f (coefficients (variables p) e)) (coefficients (variables p) e) (coefficients (with_flows p f) e) np y x same m l

pub solving : AreKnown → ((p : Places) (v : Var) → IsTrue (has_variable p v) → place p v < place_count p) → (pkg : Package) (r : Rates) (h : ℕ → ℕ) (n : ℕ) (fs : List Scaled) → IsWellFormed pkg → places_for r.counts ≡ model pkg → n ≡ r.counts.states → AreSides r → AreTimed r → AreOf r (rates_of pkg) → Fall (places_for r.counts) r.sides h → AreFlowsOf r h n fs → Solve pkg fs
solving known spots pkg r h n fs good s k sides timed of fall x f c i lt m l = at (slice_get pkg.plant.rates i) refl
  where
    inside : i < n
    inside = let q = x.count in omega arith

    in_range : (rates : List Expr) (i : ℕ) (e : Expr) → slice_get rates i ≡ Some e → (i < length rates) × (e ≡ get_or rates i e)
    in_range [] i e q = absurd (cc)
    in_range (y ∷ rates) zero e q = (omega arith, cc)
    in_range (y ∷ rates) (suc i) e q = let more = in_range rates i e q in (let a = more.0 in omega arith, more.1)

    own : (e : Expr) → slice_get pkg.plant.rates i ≡ Some e → Equals (by_tau (places_for r.counts) (f i) m) (coefficients (with_flows (places_for r.counts) f) e m)
    own e q =
        let b = in_range pkg.plant.rates i e q in
        let good_e = good-rate pkg i e pkg.plant.rates good refl b.0 b.1 in
        let is : rates_of pkg i ≡ coefficients (variables (model pkg)) e = ap (rate_of (model pkg)) q in
        let rate : rates_of pkg i ≡ coefficients (variables (places_for r.counts)) e = is ∙ ap (λ (p : Places). coefficients (variables p) e) (sym s) in
        let terms = by_terms pkg r h n fs k sides timed of fall x f c i inside m l in
        let plain = λ (a : Powers) (t : length a ≡ 32). subst (λ (g : Coefficients). Equals (substituted (places_for r.counts) (λ j. variables (places_for r.counts) (State j)) g a) (g a)) rate (unchanged r (rates_of pkg) sides timed of i (omega arith) a t) in
        let few : place_count (places_for r.counts) ≤ 32 = subst (λ (p : Places). place_count p ≤ 32) (sym s) good.names.few in
        chain (subst (λ (g : Coefficients). Equals (by_tau (places_for r.counts) (f i) m) (substituted (places_for r.counts) f g m)) rate terms)
        (as-expression spots (places_for r.counts) fs f e few (x.count ∙ k) (positive-flows r h n fs timed.common x) c (rate-variables known pkg (places_for r.counts) e s good_e) plain m l)

    at : (o : Option Expr) → slice_get pkg.plant.rates i ≡ o → IfSome (slice_get pkg.plant.rates i) (λ e. Equals (by_tau (model pkg) (f i) m) (coefficients (with_flows (model pkg) f) e m))
    at None q = subst (λ (o : Option Expr). IfSome o (λ e. Equals (by_tau (model pkg) (f i) m) (coefficients (with_flows (model pkg) f) e m))) (sym q) tt
    at (Some e) q =
        subst (λ (o : Option Expr). IfSome o (λ e. Equals (by_tau (model pkg) (f i) m) (coefficients (with_flows (model pkg) f) e m))) (sym q)
        (subst (λ (p : Places). Equals (by_tau p (f i) m) (coefficients (with_flows p f) e m)) s (own e q))
