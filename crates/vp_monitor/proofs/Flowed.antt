-- Where the flows of a package stand at the points of a round, and the plant's step.
use Rattle.std.proofs.Common.{◌≡◌, ◌≢◌, ℕ, zero, suc, ◌+◌, ◌<◌, ◌≤◌, Bool, true, false, ◌&&◌, ◌||◌, ◌==◌, IsTrue, List, [], ◌∷◌, ◌++◌, length, slice_get, refl, sym, ap, ◌∙◌, subst, arith, pos, nat_lt, cond, All}
use Rattle.std.specs.Prelude.{◌↔◌, Option, Some, None, IfSome}
use Rattle.std.specs.List.{list_all}
use Rattle.std.proofs.lemmas.Bool.Decides.{nat_tests}
use Rattle.std.proofs.lemmas.List.Folds.{list_all-append}
use Rattle.std.proofs.lemmas.Option.{get_or_from_slice_get, slice_get_within}
use Rattle.vp_terms.specs.Rational.{Rational, Equals, difference, whole}
use Rattle.vp_terms.specs.Control.{Values, changing}
use Rattle.vp_terms.specs.Meaning.{Assignment, compares, holds, value}
use Rattle.vp_terms.specs.Places.{has_variable, place}
use Rattle.vp_terms.specs.Plant.{Flow, IsWithin, PlantStep, timed}
use Rattle.vp_terms.specs.Variables.{all_variables, all_variables_of}
use Rattle.vp_terms.specs.WellFormed.{IsGoodPlant, in_domain, in_slack, in_time, is_allowed, is_good_expr, is_good_formula, is_good_slack}
use Rattle.vp_terms.specs.declared.expr.Expr.{Expr}
use Rattle.vp_terms.specs.declared.expr.Places.{Places}
use Rattle.vp_terms.specs.declared.expr.Var.{Var}
use Rattle.vp_terms.specs.declared.expr.Var.TheVariants.{Param, State, Control, NextState, NextControl, Tau}
use Rattle.vp_terms.specs.declared.formula.Cmp.TheVariants as cmp
use Rattle.vp_terms.specs.declared.formula.Formula.{Formula}
use Rattle.vp_terms.specs.declared.package.Package.{Package}
use Rattle.vp_terms.specs.declared.package.Plant.{Plant}
use Rattle.vp_terms.specs.declared.package.Slack.{Slack}
use Rattle.vp_terms.specs.declared.well_formed.Kinds.{Kinds}
use Rattle.vp_terms.proofs.Orders.{same_comparison}
use Rattle.vp_terms.proofs.RationalLaws.{Equals-product, Equals-refl, Equals-sym, chain}
use Rattle.vp_terms.proofs.Standing.{below}
use Rattle.vp_poly.specs.declared.mono.Term.{Term}
use Rattle.vp_poly.specs.declared.scaled.Scaled.{Scaled}
use Rattle.vp_poly.specs.Coefficient.{Coefficients}
use Rattle.vp_poly.specs.Places.{HaveOnly}
use Rattle.vp_poly.specs.Points.{IsAt}
use Rattle.vp_poly.specs.Times.{HasCoefficients, IsTimes}
use Rattle.vp_poly.specs.Value.{Point, value_at}
use Rattle.vp_logic.specs.Tree.{Tree}
use Rattle.vp_logic.specs.Truth.{parts_hold, tree_holds}
use Rattle.vp_flow.specs.Outcome.{AreFlows, IsFlowOf}
use Rattle.vp_flow.specs.Placed.{AllowsFlows}
use Rattle.vp_flow.specs.Series.{flow_of, tau_place}
use Rattle.vp_flow.specs.Sides.{AreHeights, AreRightSides, model, polys, rates_of}
use Rattle.vp_flow.specs.Solution.{AreCoefficients}
use Rattle.vp_flow.specs.Valued.{HasValue, HaveValues}
use Rattle.vp_monitor.specs.Flowing.{IsExactFlow}
use Rattle.vp_monitor.specs.Plant.{arriving, flow_coefficients}
use Rattle.vp_monitor.specs.Standing.{AreWithinSlack}
use Rattle.vp_monitor.proofs.Inductive.{and_left, and_right}

-- what is known of flows and values
pub record Flows : Type 0 where
  pub sides : (pkg : Package) (xs ys : List Scaled) → AreRightSides pkg xs → AreRightSides pkg ys → xs ≡ ys
  pub heights : (p : Places) (ss : List (List Term)) (g h : ℕ → ℕ) → AreHeights p ss g → AreHeights p ss h → (i : ℕ) → i < p.states → g i ≡ h i
  pub one : (f : Coefficients) (x : Point) (v w : Rational) → HasValue f x v → HasValue f x w → Equals v w
  pub only : (allowed : ℕ → Bool) (ts : List Term) (x y : Point) → HaveOnly allowed ts → ((k : ℕ) → IsTrue (allowed k) → Equals (x k) (y k)) → Equals (value_at ts x) (value_at ts y)
  pub equal : (d : ℕ) (v w q : Rational) → Equals v w → IsTimes d w q → IsTimes d v q

-- ---- the places of parameters, states, controls and `tau`

flows_at : Places → ℕ → Bool
flows_at p k = nat_lt k (p.params + p.states + p.controls) || (k == tau_place p)

allows : (p : Places) → AllowsFlows p (flows_at p)
unfolding flows_at
allows p (Param i) h = let b = below i p.params h in low (p.params + p.states + p.controls) i (tau_place p) (omega arith)
  where
    low : (n k t : ℕ) → k < n → IsTrue (nat_lt k n || (k == t))
    low n k t l = grind (arith, nat_tests)
allows p (State i) h = let b = below i p.states h in low (p.params + p.states + p.controls) (p.params + i) (tau_place p) (omega arith)
  where
    low : (n k t : ℕ) → k < n → IsTrue (nat_lt k n || (k == t))
    low n k t l = grind (arith, nat_tests)
allows p (Control i) h = let b = below i p.controls h in low (p.params + p.states + p.controls) (p.params + p.states + i) (tau_place p) (omega arith)
  where
    low : (n k t : ℕ) → k < n → IsTrue (nat_lt k n || (k == t))
    low n k t l = grind (arith, nat_tests)
allows p (NextState i) h = absurd (cc)
allows p (NextControl i) h = absurd (cc)
allows p Tau h = itself (p.params + p.states + p.controls) (tau_place p)
  where
    itself : (n t : ℕ) → IsTrue (nat_lt t n || (t == t))
    itself n t = grind (arith, nat_tests)

-- the point with 0 at the other places
kept : Places → Point → Point
kept p z k = cond (flows_at p k) (z k) (whole (pos 0))

kept_yes : (p : Places) (z : Point) (k : ℕ) → IsTrue (flows_at p k) → Equals (z k) (kept p z k)
unfolding kept
kept_yes p z k h = chosen (flows_at p k) h
  where
    chosen : (b : Bool) → IsTrue b → Equals (z k) (cond b (z k) (whole (pos 0)))
    chosen true i = Equals-refl (z k)
    chosen false i = absurd (cc)

kept_no : (p : Places) (z : Point) (k : ℕ) → flows_at p k ≡ false → Equals (kept p z k) (whole (pos 0))
unfolding kept
kept_no p z k h = chosen (flows_at p k) h
  where
    chosen : (b : Bool) → b ≡ false → Equals (cond b (z k) (whole (pos 0))) (whole (pos 0))
    chosen true i = absurd (cc)
    chosen false i = Equals-refl (whole (pos 0))

other : (n k t : ℕ) → n ≤ k → k ≢ t → (nat_lt k n || (k == t)) ≡ false
other n k t h a = grind (arith, nat_tests)

kept_at : (p : Places) (z : Point) (q x u v y : Values) (t : Rational) → IsAt p z (changing q x u v t y) → IsAt p (kept p z) (timed q x u t)
unfolding flows_at
kept_at p z q x u v y t at = record { each = each }
  where
    each : (w : Var) → IsTrue (has_variable p w) → Equals (kept p z (place p w)) (timed q x u t w)
    each (Param i) h = chain (Equals-sym _ _ (kept_yes p z i (allows p (Param i) h))) (at.each (Param i) h)
    each (State i) h = chain (Equals-sym _ _ (kept_yes p z (place p (State i)) (allows p (State i) h))) (at.each (State i) h)
    each (Control i) h = chain (Equals-sym _ _ (kept_yes p z (place p (Control i)) (allows p (Control i) h))) (at.each (Control i) h)
    each (NextState i) h = let b = below i p.states h in kept_no p z (place p (NextState i)) (other (p.params + p.states + p.controls) (place p (NextState i)) (tau_place p) (omega arith) (λ e. absurd (omega arith)))
    each (NextControl i) h = let b = below i p.controls h in kept_no p z (place p (NextControl i)) (other (p.params + p.states + p.controls) (place p (NextControl i)) (tau_place p) (omega arith) (λ e. absurd (omega arith)))
    each Tau h = chain (Equals-sym _ _ (kept_yes p z (tau_place p) (allows p Tau h))) (at.each Tau h)

-- ---- the flow at a round

module _ (law : Flows) (pkg : Package) (flows : List Scaled) (are : AreFlows pkg flows) (values : HaveValues flows) (places : (allowed : ℕ → Bool) → AllowsFlows (model pkg) allowed → All (λ (s : Scaled). HaveOnly allowed s.poly) flows) where
  pub coefficients_are : AreCoefficients flows (flow_coefficients pkg are.heights)
  coefficients_are = record { each = λ i. some (slice_get flows i) i (are.each i) }
    where
      some : (o : Option Scaled) (i : ℕ) → IfSome o (IsFlowOf pkg are.sides i (are.heights i)) → IfSome o (λ s. HasCoefficients s.weight.den s.poly (flow_coefficients pkg are.heights i))
      some None i h = h
      some (Some s) i h = h.canonical.coefficients

  exact_at : (flow : Flow) → IsExactFlow pkg flow → (i : ℕ) → i < length pkg.names.states → (z : Point) (a : Assignment) → IsAt (model pkg) z a → HasValue (flow_coefficients pkg are.heights i) z (flow i a)
  exact_at flow exact i lt z a at =
      let e = law.sides pkg exact.sides are.sides exact.right are.right in
      let g = subst (λ (qs : List Scaled). AreHeights (model pkg) (polys qs) exact.heights) e exact.are_heights in
      subst (λ (n : ℕ). HasValue (flow_of (model pkg) (rates_of pkg) i n) z (flow i a)) (law.heights (model pkg) (polys are.sides) exact.heights are.heights g are.are_heights i lt) (exact.each i lt z a at)

  times : (d : ℕ) (v q r : Rational) → Equals q r → IsTimes d v q → IsTimes d v r
  times d v q r e t = record { same = chain t.same (Equals-product _ _ _ _ (Equals-refl (whole (pos d))) e) }

  -- at the point of a round each flow has the value that the exact flow has at the round's timed assignment
  pub flow_there : (flow : Flow) → IsExactFlow pkg flow → (z : Point) (p x u v y : Values) (t : Rational) → IsAt (model pkg) z (changing p x u v t y) → (i : ℕ) → i < length pkg.names.states →
      IfSome (slice_get flows i) (λ s. IsTimes s.weight.den (value_at s.poly z) (flow i (timed p x u t)))
  flow_there flow exact z p x u v y t at i lt = some (slice_get flows i) refl (values (flow_coefficients pkg are.heights) coefficients_are (kept (model pkg) z) i)
    where
      some : (o : Option Scaled) → slice_get flows i ≡ o → IfSome o (λ s. (w : Rational) × IsTimes s.weight.den (value_at s.poly (kept (model pkg) z)) w × HasValue (flow_coefficients pkg are.heights i) (kept (model pkg) z) w) →
          IfSome o (λ s. IsTimes s.weight.den (value_at s.poly z) (flow i (timed p x u t)))
      some None e h = h
      some (Some s) e h =
          let there = exact_at flow exact i lt (kept (model pkg) z) (timed p x u t) (kept_at (model pkg) z p x u v y t at) in
          let here = times s.weight.den (value_at s.poly (kept (model pkg) z)) h.0 (flow i (timed p x u t)) (law.one (flow_coefficients pkg are.heights i) (kept (model pkg) z) h.0 (flow i (timed p x u t)) h.2 there) h.1 in
          law.equal s.weight.den (value_at s.poly z) (value_at s.poly (kept (model pkg) z)) (flow i (timed p x u t))
          (law.only (flows_at (model pkg)) s.poly z (kept (model pkg) z) only_there (λ k a. kept_yes (model pkg) z k a)) here
        where
          only_there : HaveOnly (flows_at (model pkg)) s.poly
          only_there = subst (λ (r : Scaled). HaveOnly (flows_at (model pkg)) r.poly) (get_or_from_slice_get flows i s s e) (places (flows_at (model pkg)) (allows (model pkg)) i s (slice_get_within flows i s e))

-- ---- the step of the plant

record Same (k : Kinds) (p : Places) (a b : Assignment) : Type 0 where
  each : (v : Var) → IsTrue (is_allowed k p v) → Equals (a v) (b v)

timed_time : (p : Places) (q x u v y : Values) (t : Rational) (w : Var) → IsTrue (is_allowed in_time p w) → Equals (changing q x u v t y w) (timed q x u t w)
timed_time p q x u v y t (Param i) h = Equals-refl (q i)
timed_time p q x u v y t (State i) h = absurd (cc)
timed_time p q x u v y t (Control i) h = absurd (cc)
timed_time p q x u v y t (NextState i) h = absurd (cc)
timed_time p q x u v y t (NextControl i) h = absurd (cc)
timed_time p q x u v y t Tau h = absurd (cc)

timed_slack : (p : Places) (q x u v y : Values) (t : Rational) (w : Var) → IsTrue (is_allowed in_slack p w) → Equals (changing q x u v t y w) (timed q x u t w)
timed_slack p q x u v y t (Param i) h = Equals-refl (q i)
timed_slack p q x u v y t (State i) h = absurd (cc)
timed_slack p q x u v y t (Control i) h = Equals-refl (u i)
timed_slack p q x u v y t (NextState i) h = absurd (cc)
timed_slack p q x u v y t (NextControl i) h = absurd (cc)
timed_slack p q x u v y t Tau h = Equals-refl t

timed_domain : (p : Places) (q x u v y : Values) (t : Rational) (w : Var) → IsTrue (is_allowed in_domain p w) → Equals (value (arriving w) (changing q x u v t y)) (timed q y u t w)
timed_domain p q x u v y t (Param i) h = Equals-refl (q i)
timed_domain p q x u v y t (State i) h = Equals-refl (y i)
timed_domain p q x u v y t (Control i) h = Equals-refl (u i)
timed_domain p q x u v y t (NextState i) h = absurd (cc)
timed_domain p q x u v y t (NextControl i) h = absurd (cc)
timed_domain p q x u v y t Tau h = Equals-refl t

-- what is known of values and truth
pub record Means : Type 0 where
  pub values : (t : Var → Bool) (e : Expr) (a b : Assignment) → IsTrue (all_variables t e) → ((v : Var) → IsTrue (t v) → Equals (a v) (b v)) → Equals (value e a) (value e b)
  pub truth : (t : Var → Bool) (f : Formula) (a b : Assignment) → IsTrue (all_variables_of t f) → ((v : Var) → IsTrue (t v) → Equals (a v) (b v)) → holds f a ≡ holds f b
  pub good : (k : Kinds) (p : Places) (e : Expr) → IsTrue (is_good_expr k p e) → IsTrue (all_variables (is_allowed k p) e)
  pub good_formula : (k : Kinds) (p : Places) (f : Formula) → IsTrue (is_good_formula k p f) → IsTrue (all_variables_of (is_allowed k p) f)

module _ (law : Means) (places : Places) (flow : Flow) (plant : Plant) (good : IsGoodPlant places plant) (p x u v y : Values) (t : Rational) where
  a : Assignment
  a = changing p x u v t y

  b : Assignment
  b = timed p x u t

  flown : Values
  flown i = flow i (timed p x u t)

  time_value : (e : Expr) → IsTrue (is_good_expr in_time places e) → Equals (value e a) (value e b)
  unfolding a b
  time_value e g = law.values (is_allowed in_time places) e (changing p x u v t y) (timed p x u t) (law.good in_time places e g) (timed_time places p x u v y t)

  slack_value : (e : Expr) → IsTrue (is_good_expr in_slack places e) → Equals (value e a) (value e b)
  unfolding a b
  slack_value e g = law.values (is_allowed in_slack places) e (changing p x u v t y) (timed p x u t) (law.good in_slack places e g) (timed_slack places p x u v y t)

  within_there : (s : Slack) (d : Rational) → IsTrue (is_good_slack places s) → IsWithin s a d → IsWithin s b d
  within_there s d g h = record {
    low = same_comparison cmp.Le (value s.low b) (value s.low a) d d (Equals-sym _ _ (slack_value s.low (and_left _ (is_good_expr in_slack places s.high) g))) (Equals-refl d) ∙ h.low;
    high = same_comparison cmp.Le d d (value s.high b) (value s.high a) (Equals-refl d) (Equals-sym _ _ (slack_value s.high (and_right (is_good_expr in_slack places s.low) _ g))) ∙ h.high;
  }

  within_here : (s : Slack) (d : Rational) → IsTrue (is_good_slack places s) → IsWithin s b d → IsWithin s a d
  within_here s d g h = record {
    low = same_comparison cmp.Le (value s.low a) (value s.low b) d d (slack_value s.low (and_left _ (is_good_expr in_slack places s.high) g)) (Equals-refl d) ∙ h.low;
    high = same_comparison cmp.Le d d (value s.high a) (value s.high b) (Equals-refl d) (slack_value s.high (and_right (is_good_expr in_slack places s.low) _ g)) ∙ h.high;
  }

  all_there : (n : ℕ) (ss : List Slack) → IsTrue (list_all (is_good_slack places) ss) → AreWithinSlack a flown n ss → (i : ℕ) → IfSome (slice_get ss i) (λ s. IsWithin s b (difference (y (n + i)) (flow (n + i) b)))
  unfolding a b flown
  all_there n [] g h i = tt
  all_there n (s ∷ ss) g h zero = subst (λ (k : ℕ). IsWithin s (timed p x u t) (difference (y k) (flow k (timed p x u t)))) (let e : n ≡ n + 0 = omega arith in e) (within_there s _ (and_left (is_good_slack places s) (list_all (is_good_slack places) ss) g) h.0)
  all_there n (s ∷ ss) g h (suc i) =
      subst (λ (k : ℕ). IfSome (slice_get ss i) (λ r. IsWithin r (timed p x u t) (difference (y k) (flow k (timed p x u t))))) (let e : suc n + i ≡ n + suc i = omega arith in e)
      (all_there (suc n) ss (and_right (is_good_slack places s) (list_all (is_good_slack places) ss) g) h.1 i)

  all_here : (n : ℕ) (ss : List Slack) → IsTrue (list_all (is_good_slack places) ss) → ((i : ℕ) → IfSome (slice_get ss i) (λ s. IsWithin s b (difference (y (n + i)) (flow (n + i) b)))) → AreWithinSlack a flown n ss
  unfolding a b flown
  all_here n [] g h = tt
  all_here n (s ∷ ss) g h = (
    within_here s _ (and_left (is_good_slack places s) (list_all (is_good_slack places) ss) g) (subst (λ (k : ℕ). IsWithin s (timed p x u t) (difference (y k) (flow k (timed p x u t)))) (let e : n + 0 ≡ n = omega arith in e) (h 0)),
    all_here (suc n) ss (and_right (is_good_slack places s) (list_all (is_good_slack places) ss) g)
        (λ i. subst (λ (k : ℕ). IfSome (slice_get ss i) (λ r. IsWithin r (timed p x u t) (difference (y k) (flow k (timed p x u t))))) (let e : n + suc i ≡ suc n + i = omega arith in e) (h (suc i))),
  )

  domain_there : holds plant.domain (λ w. value (arriving w) a) ≡ holds plant.domain (timed p y u t)
  unfolding a
  domain_there = law.truth (is_allowed in_domain places) plant.domain (λ w. value (arriving w) (changing p x u v t y)) (timed p y u t) (law.good_formula in_domain places plant.domain good.domain) (timed_domain places p x u v y t)

  -- the three lists of conjuncts say what the plant's step is
  pub step_is : (time slack domain : List Tree) (z : Point) →
      (IsTrue (parts_hold time z) ↔ (IsTrue (compares cmp.Le (value plant.low (changing p x u v t y)) t) × IsTrue (compares cmp.Le t (value plant.high (changing p x u v t y))))) →
      (IsTrue (parts_hold slack z) ↔ AreWithinSlack (changing p x u v t y) (λ i. flow i (timed p x u t)) 0 plant.slack) →
      parts_hold domain z ≡ holds plant.domain (λ w. value (arriving w) (changing p x u v t y)) →
      IsTrue (parts_hold (time ++ slack ++ domain) z) ↔ PlantStep flow plant p x u t y
  unfolding a b flown
  step_is time slack domain z h k l = (
    λ w.
        let s = split ∙ w in
        let one = and_left (parts_hold time z) (parts_hold slack z && parts_hold domain z) s in
        let two = and_left (parts_hold slack z) (parts_hold domain z) (and_right (parts_hold time z) (parts_hold slack z && parts_hold domain z) s) in
        let three = and_right (parts_hold slack z) (parts_hold domain z) (and_right (parts_hold time z) (parts_hold slack z && parts_hold domain z) s) in
        record {
          low = same_comparison cmp.Le (value plant.low (timed p x u t)) (value plant.low (changing p x u v t y)) t t (Equals-sym _ _ (time_value plant.low good.low)) (Equals-refl t) ∙ (h.0 one).0;
          high = same_comparison cmp.Le t t (value plant.high (timed p x u t)) (value plant.high (changing p x u v t y)) (Equals-refl t) (Equals-sym _ _ (time_value plant.high good.high)) ∙ (h.0 one).1;
          states = λ i. subst (λ (n : ℕ). IfSome (slice_get plant.slack i) (λ s. IsWithin s (timed p x u t) (difference (y n) (flow n (timed p x u t))))) (let e : 0 + i ≡ i = omega arith in e) (all_there 0 plant.slack good.slack (k.0 two) i);
          domain = sym (l ∙ domain_there) ∙ three;
        },
    λ w.
        sym split
        ∙ join (parts_hold time z) (parts_hold slack z) (parts_hold domain z)
        (h.1 (
          same_comparison cmp.Le (value plant.low (changing p x u v t y)) (value plant.low (timed p x u t)) t t (time_value plant.low good.low) (Equals-refl t) ∙ w.low,
          same_comparison cmp.Le t t (value plant.high (changing p x u v t y)) (value plant.high (timed p x u t)) (Equals-refl t) (time_value plant.high good.high) ∙ w.high,
        ))
        (k.1 (all_here 0 plant.slack good.slack (λ i. subst (λ (n : ℕ). IfSome (slice_get plant.slack i) (λ s. IsWithin s (timed p x u t) (difference (y n) (flow n (timed p x u t))))) (let e : i ≡ 0 + i = omega arith in e) (w.states i))))
        (l ∙ domain_there ∙ w.domain),
  )
    where
      regroup : (i j k : Bool) → (i && (j && k)) ≡ (i && j && k)
      regroup true j k = refl
      regroup false j k = refl

      split : (parts_hold time z && (parts_hold slack z && parts_hold domain z)) ≡ parts_hold (time ++ slack ++ domain) z
      split =
          regroup (parts_hold time z) (parts_hold slack z) (parts_hold domain z)
          ∙ sym (list_all-append (λ r. tree_holds r z) (time ++ slack) domain ∙ ap (λ (c : Bool). c && parts_hold domain z) (list_all-append (λ r. tree_holds r z) time slack))

      join : (i j k : Bool) → IsTrue i → IsTrue j → IsTrue k → IsTrue (i && (j && k))
      join true true true f g m = refl
      join true true false f g m = absurd (cc)
      join true false k f g m = absurd (cc)
      join false j k f g m = absurd (cc)
