-- What the monitors of a package mean, and its exact flow.
use Rattle.std.proofs.Common.{◌≡◌, ℕ, zero, suc, ◌<◌, Bool, IsTrue, List, [], ◌∷◌, length, slice_get, refl, sym, ap, subst, arith, pos, mul-pos, All}
use Rattle.std.specs.Prelude.{◌↔◌, Option, Some, None, IfSome}
use Rattle.std.proofs.lemmas.Option.{get_or_from_slice_get}
use Rattle.vp_terms.specs.Control.{AgreeFrom, Values, assigned, changing}
use Rattle.vp_terms.specs.Meaning.{Assignment, value}
use Rattle.vp_terms.specs.Model.{FallsBack}
use Rattle.vp_terms.specs.Places.{has_variable, place_count}
use Rattle.vp_terms.specs.Plant.{Flow}
use Rattle.vp_terms.specs.Rational.{Rational, Equals, whole}
use Rattle.vp_terms.specs.Variables.{all_variables}
use Rattle.vp_terms.specs.WellFormed.{in_model, is_allowed, is_good_expr}
use Rattle.vp_terms.specs.declared.expr.Expr.{Expr}
use Rattle.vp_terms.specs.declared.expr.Places.{Places}
use Rattle.vp_terms.specs.declared.expr.Var.{Var}
use Rattle.vp_terms.specs.declared.package.Package.{Package}
use Rattle.vp_terms.specs.declared.well_formed.Kinds.{Kinds}
use Rattle.vp_terms.proofs.RationalLaws.{Equals-sym, chain}
use Rattle.vp_poly.specs.declared.mono.Term.{Term}
use Rattle.vp_poly.specs.declared.scaled.Scaled.{Scaled}
use Rattle.vp_poly.specs.Canonical.{IsEntry}
use Rattle.vp_poly.specs.Places.{AreBelow}
use Rattle.vp_poly.specs.Points.{IsAt}
use Rattle.vp_poly.specs.Coefficient.{Coefficients}
use Rattle.vp_poly.specs.Times.{HasCoefficients, IsTimes}
use Rattle.vp_poly.specs.Weights.{Weights}
use Rattle.vp_flow.specs.Solution.{AreCoefficients}
use Rattle.std.specs.List.{list_all}
use Rattle.std.proofs.lemmas.List.Elements.{All-cons, All-nil}
use Rattle.vp_poly.specs.Value.{Point, value_at}
use Rattle.vp_flow.specs.Bounds.{bounds_of}
use Rattle.vp_flow.specs.Outcome.{AreFlows, IsFlowOf}
use Rattle.vp_flow.specs.Series.{factorial_positive}
use Rattle.vp_flow.specs.Sides.{IsPolynomialOf, model}
use Rattle.vp_flow.specs.Valued.{HasValue, HaveValues}
use Rattle.vp_flow.proofs.BoundLaws.{ArePositive, common-positive}
use Rattle.vp_flow.proofs.Derivative.{pow_positive}
use Rattle.vp_terms.specs.Places.{place}
use Rattle.vp_monitor.specs.Fallback.{AreValuesOf}
use Rattle.vp_monitor.specs.Flowing.{IsExactFlow}
use Rattle.vp_monitor.specs.Plant.{flow_coefficients}
use Rattle.vp_monitor.proofs.Forming.{before_round}
use Rattle.vp_monitor.proofs.Inductive.{good_at}

-- ---- the values of the fallback

found_polynomial : (z : Point) (a : Assignment) (es : List Expr) (qs : List (List Term)) (k : ℕ) (e : Expr) → AreValuesOf z a es qs → slice_get es k ≡ Some e → (q : List Term) × (slice_get qs k ≡ Some q) × Equals (value_at q z) (value e a)
found_polynomial z a [] qs k e h g = absurd (cc)
found_polynomial z a (d ∷ es) [] k e h g = absurd h
found_polynomial z a (d ∷ es) (q ∷ qs) zero e h g = let s : d ≡ e = cc in (q, refl, subst (λ (r : Expr). Equals (value_at q z) (value r a)) s h.0)
found_polynomial z a (d ∷ es) (q ∷ qs) (suc k) e h g = found_polynomial z a es qs k e h.1 g

found_expression : (z : Point) (a : Assignment) (es : List Expr) (qs : List (List Term)) (k : ℕ) (q : List Term) → AreValuesOf z a es qs → slice_get qs k ≡ Some q → (e : Expr) × (slice_get es k ≡ Some e) × Equals (value_at q z) (value e a)
found_expression z a [] [] k q h g = absurd (cc)
found_expression z a [] (r ∷ qs) k q h g = absurd h
found_expression z a (e ∷ es) [] k q h g = absurd (cc)
found_expression z a (e ∷ es) (r ∷ qs) zero q h g = let s : r ≡ q = cc in (e, refl, subst (λ (t : List Term). Equals (value_at t z) (value e a)) s h.0)
found_expression z a (e ∷ es) (r ∷ qs) (suc k) q h g = found_expression z a es qs k q h.1 g

-- what is known of values
pub record Valued : Type 0 where
  pub values : (t : Var → Bool) (e : Expr) (a b : Assignment) → IsTrue (all_variables t e) → ((v : Var) → IsTrue (t v) → Equals (a v) (b v)) → Equals (value e a) (value e b)
  pub good : (k : Kinds) (p : Places) (e : Expr) → IsTrue (is_good_expr k p e) → IsTrue (all_variables (is_allowed k p) e)

pub fallback_is : Valued → (places : Places) (es : List Expr) (qs : List (List Term)) (n : ℕ) (z : Point) (p x u v y w : Values) (t : Rational) → IsTrue (list_all (is_good_expr in_model places) es) → length es ≡ n → AgreeFrom n u w → AreValuesOf z (changing p x u v t y) es qs →
    ((k : ℕ) (q : List Term) → slice_get qs k ≡ Some q → Equals (w k) (value_at q z)) ↔ FallsBack es p x u w
fallback_is law places es qs n z p x u v y w t good size agree h = (
  λ g. record {
    each = λ k e i. let q = found_polynomial z (changing p x u v t y) es qs k e h i in chain (g k q.0 q.1) (chain q.2 (same k e i));
    others = λ k l. agree k (let s = size in omega arith);
  },
  λ g k q i. let e = found_expression z (changing p x u v t y) es qs k q h i in chain (g.each k e.0 e.1) (chain (Equals-sym _ _ (same k e.0 e.1)) (Equals-sym _ _ e.2)),
)
  where
    same : (k : ℕ) (e : Expr) → slice_get es k ≡ Some e → Equals (value e (changing p x u v t y)) (value e (assigned p x u))
    same k e i = law.values (is_allowed in_model places) e (changing p x u v t y) (assigned p x u) (law.good in_model places e (good_at (is_good_expr in_model places) es k e good i)) (before_round places p x u v y t)

-- ---- an exact flow

-- what is known of points and values
pub record Pointed : Type 0 where
  pub some : (p : Places) (a : Assignment) → (x : Point) × IsAt p x a
  pub below : (v : ℕ) (ts : List Term) (x y : Point) → AreBelow v ts → ((k : ℕ) → k < v → Equals (x k) (y k)) → Equals (value_at ts x) (value_at ts y)
  pub equal : (d : ℕ) (v w q : Rational) → Equals v w → IsTimes d w q → IsTimes d v q
  pub used : (p : Places) (k : ℕ) → k < place_count p → (v : Var) × IsTrue (has_variable p v) × (place p v ≡ k)

all_positive : (p : Places) (es : List Expr) (qs : List Scaled) → length qs ≡ length es → ((i : ℕ) → IfSome (slice_get es i) (λ e. IfSome (slice_get qs i) (IsPolynomialOf p e))) → ArePositive qs
all_positive p es [] n h = All-nil (λ (q : Scaled). 0 < q.weight.den)
all_positive p [] (q ∷ qs) n h = absurd (omega arith)
all_positive p (e ∷ es) (q ∷ qs) n h = All-cons (λ (q : Scaled). 0 < q.weight.den) q qs (h 0).positive (all_positive p es qs (omega arith) (λ i. h (suc i)))

are_coefficients : (pkg : Package) (flows : List Scaled) (are : AreFlows pkg flows) → AreCoefficients flows (flow_coefficients pkg are.heights)
are_coefficients pkg flows are = record { each = λ i. some (slice_get flows i) i (are.each i) }
  where
    some : (o : Option Scaled) (i : ℕ) → IfSome o (IsFlowOf pkg are.sides i (are.heights i)) → IfSome o (λ s. HasCoefficients s.weight.den s.poly (flow_coefficients pkg are.heights i))
    some None i h = h
    some (Some s) i h = h.canonical.coefficients

value_of : (o : Option Scaled) (f : Coefficients) (z : Point) → IfSome o (λ s. (v : Rational) × IsTimes s.weight.den (value_at s.poly z) v × HasValue f z v) → Rational
value_of None f z h = whole (pos 0)
value_of (Some s) f z h = h.0

module _ (law : Pointed) (pkg : Package) (flows : List Scaled) (are : AreFlows pkg flows) (values : HaveValues flows) (entries : All (IsEntry (place_count (model pkg))) flows) where
  f : ℕ → Coefficients
  f = flow_coefficients pkg are.heights

  valued : (z : Point) (i : ℕ) → IfSome (slice_get flows i) (λ s. (v : Rational) × IsTimes s.weight.den (value_at s.poly z) v × HasValue (f i) z v)
  unfolding f
  valued z i = values (flow_coefficients pkg are.heights) (are_coefficients pkg flows are) z i

  pub the_flow : Flow
  the_flow i a = value_of (slice_get flows i) (f i) (law.some (model pkg) a).0 (valued (law.some (model pkg) a).0 i)

  positive_den : (i : ℕ) (s : Scaled) → IsFlowOf pkg are.sides i (are.heights i) s → 0 < s.weight.den
  positive_den i s h =
      let c = common-positive are.sides (all_positive (model pkg) pkg.plant.rates are.sides are.right.count are.right.each) in
      subst (λ (n : ℕ). 0 < n) (sym (ap (λ (w : Weights). w.den) h.weight)) (mul-pos (pow_positive (bounds_of are.sides).common (are.heights i) c) (factorial_positive (are.heights i)))

  near : (z y : Point) (a : Assignment) → IsAt (model pkg) z a → IsAt (model pkg) y a → (k : ℕ) → k < place_count (model pkg) → Equals (z k) (y k)
  near z y a g h k l =
      let w = law.used (model pkg) k l in
      subst (λ (j : ℕ). Equals (z j) (y j)) w.2 (chain (g.each w.0 w.1) (Equals-sym _ _ (h.each w.0 w.1)))

  valued_there : (i : ℕ) (z y : Point) (a : Assignment) → IsAt (model pkg) z a → IsAt (model pkg) y a → (o : Option Scaled) → slice_get flows i ≡ o → i < length flows → (h : IfSome o (λ s. (v : Rational) × IsTimes s.weight.den (value_at s.poly y) v × HasValue (f i) y v)) → IfSome o (IsFlowOf pkg are.sides i (are.heights i)) →
      HasValue (f i) z (value_of o (f i) y h)
  unfolding value_of f
  valued_there i z y a g k None e l h w = absurd (missing flows i l e)
    where
      missing : (xs : List Scaled) (j : ℕ) → j < length xs → slice_get xs j ≡ None → ⊥
      missing [] j m q = absurd (omega arith)
      missing (x ∷ xs) zero m q = absurd (cc)
      missing (x ∷ xs) (suc j) m q = missing xs j (omega arith) q
  valued_there i z y a g k (Some s) e l h w = record {
    scaled = s;
    weighed = w.weighed;
    positive = positive_den i s w;
    canonical = w.canonical;
    value = law.equal s.weight.den (value_at s.poly z) (value_at s.poly y) h.0 (law.below (place_count (model pkg)) s.poly z y (subst (λ (r : Scaled). AreBelow (place_count (model pkg)) r.poly) (get_or_from_slice_get flows i s s e) (entries i s l).places) (near z y a g k)) h.1;
  }

  pub is_exact : IsExactFlow pkg the_flow
  unfolding the_flow f
  is_exact = record {
    sides = are.sides;
    right = are.right;
    heights = are.heights;
    are_heights = are.are_heights;
    each = λ i l z a at.
        valued_there i z (law.some (model pkg) a).0 a at (law.some (model pkg) a).1 (slice_get flows i) refl (let n = are.count in omega (arith, n, l)) (valued (law.some (model pkg) a).0 i) (are.each i);
  }
