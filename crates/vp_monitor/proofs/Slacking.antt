-- The conjuncts of a slack.
use Rattle.std.proofs.Common.{◌≡◌, ℕ, ◌*◌, ◌<◌, Bool, true, false, ◌&&◌, IsTrue, List, [], ◌∷◌, refl, sym, ap, ap₂, ◌∙◌, subst, arith, ℤ, pos, ◌*ℤ◌, ◌-ℤ◌, nat_lt}
use Rattle.std.specs.Prelude.{◌↔◌, int_le}
use Rattle.std.specs.Ordering.{int_eq}
use Rattle.std.proofs.lemmas.Int.{ints}
use Rattle.vp_terms.specs.Rational.{Rational, Equals, difference, product, whole}
use Rattle.vp_terms.specs.Control.{Values}
use Rattle.vp_terms.specs.Meaning.{Assignment, compares, value}
use Rattle.vp_terms.specs.Places.{has_variable, place, place_count}
use Rattle.vp_terms.specs.Plant.{IsWithin}
use Rattle.vp_terms.specs.Variables.{all_variables, has_places_below, is_below}
use Rattle.vp_terms.specs.WellFormed.{in_slack, is_allowed, is_good_expr, is_good_slack}
use Rattle.vp_terms.specs.declared.expr.Expr.{Expr}
use Rattle.vp_terms.specs.declared.expr.Places.{Places}
use Rattle.vp_terms.specs.declared.expr.Var.{Var}
use Rattle.vp_terms.specs.declared.expr.Var.TheVariants.{Param, State, Control, NextState, NextControl, Tau}
use Rattle.vp_terms.specs.declared.formula.Cmp.TheVariants as cmp
use Rattle.vp_terms.specs.declared.package.Slack.{Slack}
use Rattle.vp_terms.specs.declared.well_formed.Kinds.{Kinds}
use Rattle.vp_terms.proofs.Orders.{le_both, same_comparison}
use Rattle.vp_terms.proofs.RationalLaws.{Equals-refl, Equals-sym, cancel, chain}
use Rattle.vp_poly.specs.declared.mono.Term.{Term}
use Rattle.vp_poly.specs.declared.scaled.Scaled.{Scaled}
use Rattle.vp_poly.specs.Canonical.{IsCanonical, own_weight, own_weights, variables, weights_of}
use Rattle.vp_poly.specs.Coefficient.{Coefficients, coefficients}
use Rattle.vp_poly.specs.Poly.{IsPoly, coef}
use Rattle.vp_poly.specs.Times.{IsTimes}
use Rattle.vp_poly.specs.Value.{Point, value_at}
use Rattle.vp_poly.specs.Weights.{Weights, weight, weight_at, weight_between, weight_in, weight_one, weight_sum}
use Rattle.vp_poly.proofs.MergeLaws.{int_eq_same}
use Rattle.vp_logic.specs.declared.norm.Rel.{Rel}
use Rattle.vp_logic.specs.declared.norm.Rel.TheVariants as rel
use Rattle.vp_logic.specs.Normal.{IsAtom}
use Rattle.vp_logic.specs.Tree.{Tree, atom}
use Rattle.vp_logic.specs.Truth.{parts_hold, rel_holds, tree_holds}
use Rattle.vp_logic.proofs.Comparing.{eq_is, ge_is}
use Rattle.vp_flow.specs.Solution.{with_flows}
use Rattle.vp_monitor.specs.Plant.{IsAtomOf, IsTight, above_low, above_low_weight, below_high, below_high_weight, drift, drift_weight}
use Rattle.vp_monitor.specs.Slack.{IsDrift}
use Rattle.vp_monitor.specs.Standing.{Flowing, flowed, is_state}
use Rattle.vp_monitor.specs.Meaning.{is_in_plant}
use Rattle.vp_monitor.proofs.Inductive.{and_left, and_right}
use Rattle.vp_monitor.proofs.States.{own_coefficients, own_values, yes}

-- ---- differences that are zero

none_times : (n : ℕ) → pos 0 *ℤ pos n ≡ pos 0
none_times n = omega (arith, ints)

times_one : (z : ℤ) → z *ℤ pos 1 ≡ z
times_one z = omega (arith, ints)

turned : (a b : ℤ) → a *ℤ b ≡ b *ℤ a
turned a b = omega (arith, ints)

apart : (a b : ℤ) → a -ℤ b ≡ pos 0 → a ≡ b
apart a b h = omega (arith, ints)

no_rest : (a b : ℤ) → a ≡ b → a -ℤ b ≡ pos 0
no_rest a b h = omega (arith, ints)

-- a positive multiple of a difference is zero exactly where the two are equal
pub same_from_zero : (d : ℕ) (q r v : Rational) → 0 < d → Equals v (whole (pos 0)) → IsTimes d v (difference q r) → Equals q r
same_from_zero d q r v h z t = record {
  crossed = apart (q.num *ℤ pos r.den) (r.num *ℤ pos q.den) (cancel _ (pos 0) d h (turned _ (pos d) ∙ left ∙ sym (none_times d)));
}
  where
    e : Equals (whole (pos 0)) (product (whole (pos d)) (difference q r))
    e = chain (Equals-sym v (whole (pos 0)) z) t.same

    left : pos d *ℤ (q.num *ℤ pos r.den -ℤ r.num *ℤ pos q.den) ≡ pos 0
    left = sym (times_one _) ∙ sym e.crossed ∙ none_times (1 * (q.den * r.den))

pub zero_from_same : (d : ℕ) (q r : Rational) → Equals q r → IsTimes d (whole (pos 0)) (difference q r)
zero_from_same d q r h = record {
  same = record {
    crossed = none_times (1 * (q.den * r.den)) ∙ sym (times_one _ ∙ ap (λ (z : ℤ). pos d *ℤ z) (no_rest _ _ h.crossed) ∙ turned (pos d) (pos 0) ∙ none_times d);
  };
}

no_terms : IsPoly []
no_terms = record { ordered = tt; small = omega arith; few = omega arith }

-- the polynomial of a difference is zero exactly where the coefficients are the same
pub tight_from_none : (d : ℕ) (p : Places) (s : Slack) (ts : List Term) → 0 < d → ts ≡ [] → IsCanonical d ts (λ m. difference (coefficients (variables p) s.high m) (coefficients (variables p) s.low m)) → IsTight p s
tight_from_none d p s ts h e c = record {
  same = λ m. same_from_zero d (coefficients (variables p) s.high m) (coefficients (variables p) s.low m) (whole (coef ts m)) h (subst (λ (us : List Term). Equals (whole (coef us m)) (whole (pos 0))) (sym e) (Equals-refl (whole (pos 0)))) (c.coefficients.each m);
}

pub none_from_tight : ((d : ℕ) (f : Coefficients) (xs ys : List Term) → IsCanonical d xs f → IsCanonical d ys f → xs ≡ ys) →
    (d : ℕ) (p : Places) (s : Slack) (ts : List Term) → IsTight p s → IsCanonical d ts (λ m. difference (coefficients (variables p) s.high m) (coefficients (variables p) s.low m)) → ts ≡ []
none_from_tight unique d p s ts t c =
    unique d (λ m. difference (coefficients (variables p) s.high m) (coefficients (variables p) s.low m)) ts [] c
    (record { poly = no_terms; coefficients = record { each = λ m. zero_from_same d (coefficients (variables p) s.high m) (coefficients (variables p) s.low m) (t.same m) } })

-- ---- over states that flow

-- what is known of what expressions depend on
pub record Depends : Type 0 where
  pub coefficients_on : (t : Var → Bool) (f g : Var → Coefficients) (e : Expr) → ((v : Var) → IsTrue (t v) → f v ≡ g v) → IsTrue (all_variables t e) → coefficients f e ≡ coefficients g e
  pub weights_on : (t : Var → Bool) (v w : Var → Weights) (e : Expr) → ((x : Var) → IsTrue (t x) → v x ≡ w x) → IsTrue (all_variables t e) → weight v e ≡ weight w e
  pub values_on : (t : Var → Bool) (e : Expr) (a b : Assignment) → IsTrue (all_variables t e) → ((v : Var) → IsTrue (t v) → Equals (a v) (b v)) → Equals (value e a) (value e b)
  pub good : (k : Kinds) (p : Places) (e : Expr) → IsTrue (is_good_expr k p e) → IsTrue (all_variables (is_allowed k p) e)
  pub allowed : (k : Kinds) (p : Places) (v : Var) → IsTrue (is_allowed k p v) → IsTrue (has_variable p v)
  pub weaker : (t u : Var → Bool) (e : Expr) → ((v : Var) → IsTrue (t v) → IsTrue (u v)) → IsTrue (all_variables t e) → IsTrue (all_variables u e)

no_state : (p : Places) (v : Var) → IsTrue (is_allowed in_slack p v) → is_state v ≡ false
no_state p (Param i) h = refl
no_state p (State i) h = absurd (cc)
no_state p (Control i) h = refl
no_state p (NextState i) h = absurd (cc)
no_state p (NextControl i) h = absurd (cc)
no_state p Tau h = refl

module _ (law : Depends) (p : Places) (env : List Scaled) (f : ℕ → Coefficients) (w : ℕ → Weights) (own : (v : Var) → IsTrue (has_variable p v) → weight_at p (own_weights (place_count p)) v ≡ weight_one) (h : Flowing p env f w) (e : Expr) (good : IsTrue (is_good_expr in_slack p e)) where
  -- a bound has its own weight and coefficients
  pub bound_weight : weight_in p (weights_of env) e ≡ own_weight p e
  bound_weight =
      law.weights_on (is_allowed in_slack p) (weight_at p (weights_of env)) (weight_at p (own_weights (place_count p))) e
      (λ v a. h.others v (law.allowed in_slack p v a) (no_state p v a) ∙ sym (own v (law.allowed in_slack p v a))) (law.good in_slack p e good)

  pub bound_coefficients : coefficients (with_flows p f) e ≡ coefficients (variables p) e
  bound_coefficients = law.coefficients_on (is_allowed in_slack p) (with_flows p f) (variables p) e (λ v a. own_coefficients p f v (no_state p v a)) (law.good in_slack p e good)

module _ (p : Places) (env : List Scaled) (f : ℕ → Coefficients) (w : ℕ → Weights) (h : Flowing p env f w) (i : ℕ) (below : i < p.states) (x : Expr) (is : IsDrift i x) where
  drifting_weight : weight_in p (weights_of env) x ≡ drift_weight (w i)
  drifting_weight = is.weight_is (weight_at p (weights_of env)) ∙ ap₂ (λ (a b : Weights). weight_sum a b) (h.others (NextState i) (yes i p.states below) refl) (h.states i below)

  drifting_coefficients : coefficients (with_flows p f) x ≡ drift p i (f i)
  drifting_coefficients = is.coefficients_are (with_flows p f)

module _ (law : Depends) (p : Places) (env : List Scaled) (f : ℕ → Coefficients) (w : ℕ → Weights) (own : (v : Var) → IsTrue (has_variable p v) → weight_at p (own_weights (place_count p)) v ≡ weight_one) (h : Flowing p env f w) (i : ℕ) (below : i < p.states) (x : Expr) (is : IsDrift i x) (s : Slack) where
  pub low_weight : IsTrue (is_good_expr in_slack p s.low) → weight_between p (weights_of env) x s.low ≡ above_low_weight p (w i) s
  low_weight g = ap₂ (λ (a b : Weights). weight_sum a b) (drifting_weight p env f w h i below x is) (bound_weight law p env f w own h s.low g)

  pub high_weight : IsTrue (is_good_expr in_slack p s.high) → weight_between p (weights_of env) s.high x ≡ below_high_weight p (w i) s
  high_weight g = ap₂ (λ (a b : Weights). weight_sum a b) (bound_weight law p env f w own h s.high g) (drifting_weight p env f w h i below x is)

  pub low_atom : IsTrue (is_good_expr in_slack p s.low) → (r : Rel) (t : Tree) → IsAtom p (weights_of env) (with_flows p f) r x s.low t → IsAtomOf (above_low_weight p (w i) s) (above_low p i (f i) s) r t
  low_atom g r t a = record {
    poly = a.0.poly;
    is = a.1 ∙ ap (λ (q : Rel). atom q a.0.poly) a.2.rel_is;
    canonical =
        subst (λ (k : Weights). IsCanonical k.den a.0.poly (above_low p i (f i) s)) (low_weight g)
        (subst (λ (c : Coefficients). IsCanonical (weight_between p (weights_of env) x s.low).den a.0.poly (λ m. difference (drift p i (f i) m) (c m))) (bound_coefficients law p env f w own h s.low g)
        (subst (λ (c : Coefficients). IsCanonical (weight_between p (weights_of env) x s.low).den a.0.poly (λ m. difference (c m) (coefficients (with_flows p f) s.low m))) (drifting_coefficients p env f w h i below x is) a.2.canonical));
  }

  pub high_atom : IsTrue (is_good_expr in_slack p s.high) → (r : Rel) (t : Tree) → IsAtom p (weights_of env) (with_flows p f) r s.high x t → IsAtomOf (below_high_weight p (w i) s) (below_high p i (f i) s) r t
  high_atom g r t a = record {
    poly = a.0.poly;
    is = a.1 ∙ ap (λ (q : Rel). atom q a.0.poly) a.2.rel_is;
    canonical =
        subst (λ (k : Weights). IsCanonical k.den a.0.poly (below_high p i (f i) s)) (high_weight g)
        (subst (λ (c : Coefficients). IsCanonical (weight_between p (weights_of env) s.high x).den a.0.poly (λ m. difference (c m) (drift p i (f i) m))) (bound_coefficients law p env f w own h s.high g)
        (subst (λ (c : Coefficients). IsCanonical (weight_between p (weights_of env) s.high x).den a.0.poly (λ m. difference (coefficients (with_flows p f) s.high m) (c m))) (drifting_coefficients p env f w h i below x is) a.2.canonical));
  }

-- ---- meaning

equal_compared : (q r : Rational) → compares cmp.Eq q r ≡ true → Equals q r
equal_compared q r h = record { crossed = int_eq_same (q.num *ℤ pos r.den) (r.num *ℤ pos q.den) h }

at_most_itself : (q r : Rational) → Equals q r → IsTrue (compares cmp.Le q r)
at_most_itself q r e = same_comparison cmp.Le q r r r e (Equals-refl r) ∙ itself (r.num *ℤ pos r.den)
  where
    itself : (z : ℤ) → int_le z z ≡ true
    itself z = grind (arith, ints)

equal_itself : (q r : Rational) → Equals q r → IsTrue (compares cmp.Eq q r)
equal_itself q r e = same_comparison cmp.Eq q r r r e (Equals-refl r) ∙ itself (r.num *ℤ pos r.den)
  where
    itself : (z : ℤ) → int_eq z z ≡ true
    itself z = grind (arith, ints)

one_part : (t : Tree) (z : Point) → parts_hold (t ∷ []) z ≡ tree_holds t z
one_part t z = and_true (tree_holds t z)
  where
    and_true : (b : Bool) → (b && true) ≡ b
    and_true true = refl
    and_true false = refl

pub both_yes : (a b : Bool) → IsTrue (a && (b && true)) → IsTrue a × IsTrue b
both_yes true true h = (refl, refl)
both_yes true false h = absurd (cc)
both_yes false b h = absurd (cc)

pub yes_both : (a b : Bool) → IsTrue a → IsTrue b → IsTrue (a && (b && true))
yes_both true true h k = refl
yes_both true false h k = absurd (cc)
yes_both false b h k = absurd (cc)

module _ (law : Depends) (p : Places) (a : Assignment) (x : Values) (i : ℕ) (e : Expr) (is : IsDrift i e) where
  d : Rational
  d = difference (a (NextState i)) (x i)

  bound_value : (b : Expr) → IsTrue (is_good_expr in_slack p b) → Equals (value b (flowed x a)) (value b a)
  bound_value b g = law.values_on (is_allowed in_slack p) b (flowed x a) a (law.good in_slack p b g) (λ v h. own_values x a v (no_state p v h))

  drift_value : value e (flowed x a) ≡ d
  unfolding d
  drift_value = is.value_is (flowed x a)

  -- the low atom holds where the low bound is at most the drift, and the high one where that is at most the high bound
  low_holds : (s : Slack) → IsTrue (is_good_expr in_slack p s.low) → (t : Tree) (z : Point) → tree_holds t z ≡ rel_holds rel.Ge (difference (value e (flowed x a)) (value s.low (flowed x a))) → tree_holds t z ≡ compares cmp.Le (value s.low a) d
  low_holds s g t z h =
      h ∙ ge_is (value e (flowed x a)) (value s.low (flowed x a)) ∙ ap (λ (q : Rational). compares cmp.Le (value s.low (flowed x a)) q) drift_value
      ∙ same_comparison cmp.Le (value s.low (flowed x a)) (value s.low a) d d (bound_value s.low g) (Equals-refl d)

  high_holds : (s : Slack) → IsTrue (is_good_expr in_slack p s.high) → (t : Tree) (z : Point) → tree_holds t z ≡ rel_holds rel.Ge (difference (value s.high (flowed x a)) (value e (flowed x a))) → tree_holds t z ≡ compares cmp.Le d (value s.high a)
  high_holds s g t z h =
      h ∙ ge_is (value s.high (flowed x a)) (value e (flowed x a)) ∙ ap (λ (q : Rational). compares cmp.Le q (value s.high (flowed x a))) drift_value
      ∙ same_comparison cmp.Le d d (value s.high (flowed x a)) (value s.high a) (Equals-refl d) (bound_value s.high g)

  equal_holds : (s : Slack) → IsTrue (is_good_expr in_slack p s.low) → (t : Tree) (z : Point) → tree_holds t z ≡ rel_holds rel.Eq (difference (value e (flowed x a)) (value s.low (flowed x a))) → tree_holds t z ≡ compares cmp.Eq d (value s.low a)
  equal_holds s g t z h =
      h ∙ eq_is (value e (flowed x a)) (value s.low (flowed x a)) ∙ ap (λ (q : Rational). compares cmp.Eq q (value s.low (flowed x a))) drift_value
      ∙ same_comparison cmp.Eq d d (value s.low (flowed x a)) (value s.low a) (Equals-refl d) (bound_value s.low g)

  -- two inequalities
  pub two_within : (s : Slack) → IsTrue (is_good_expr in_slack p s.low) → IsTrue (is_good_expr in_slack p s.high) → (t u : Tree) (z : Point) →
      tree_holds t z ≡ rel_holds rel.Ge (difference (value e (flowed x a)) (value s.low (flowed x a))) →
      tree_holds u z ≡ rel_holds rel.Ge (difference (value s.high (flowed x a)) (value e (flowed x a))) →
      IsTrue (parts_hold (t ∷ u ∷ []) z) ↔ IsWithin s a (difference (a (NextState i)) (x i))
  unfolding d
  two_within s g k t u z h l =
      let m = low_holds s g t z h in
      let n = high_holds s k u z l in (
        λ y. let b = both_yes (tree_holds t z) (tree_holds u z) y in record { low = sym m ∙ b.0; high = sym n ∙ b.1 },
        λ y. yes_both (tree_holds t z) (tree_holds u z) (m ∙ y.low) (n ∙ y.high),
      )

  -- one equation, where the bounds have the same value
  pub one_within : (s : Slack) → IsTrue (is_good_expr in_slack p s.low) → Equals (value s.high a) (value s.low a) → (t : Tree) (z : Point) →
      tree_holds t z ≡ rel_holds rel.Eq (difference (value e (flowed x a)) (value s.low (flowed x a))) →
      IsTrue (parts_hold (t ∷ []) z) ↔ IsWithin s a (difference (a (NextState i)) (x i))
  unfolding d
  one_within s g same t z h =
      let m = one_part t z ∙ equal_holds s g t z h in (
        λ y. let q = equal_compared d (value s.low a) (sym m ∙ y) in
            record { low = at_most_itself (value s.low a) d (Equals-sym d (value s.low a) q); high = at_most_itself d (value s.high a) (chain q (Equals-sym (value s.high a) (value s.low a) same)) },
        λ y. m ∙ equal_itself d (value s.low a) (le_both d (value s.low a) (same_comparison cmp.Le d d (value s.low a) (value s.high a) (Equals-refl d) (Equals-sym (value s.high a) (value s.low a) same) ∙ y.high) y.low),
      )

-- ---- variables

and_yes : (b c : Bool) → IsTrue b → IsTrue c → IsTrue (b && c)
and_yes true c h k = k
and_yes false c h k = absurd (cc)

-- the drift has variables of the model, and of the plant
pub drift_variables : (p : Places) (i : ℕ) (e : Expr) → IsDrift i e → i < p.states → IsTrue (all_variables (has_variable p) e)
drift_variables p i e is l = is.variables_are (has_variable p) ∙ and_yes (nat_lt i p.states) (nat_lt i p.states) (yes i p.states l) (yes i p.states l)

pub drift_used : (p : Places) (i : ℕ) (e : Expr) → IsDrift i e → i < p.states → IsTrue (all_variables (is_in_plant p) e)
drift_used p i e is l = is.variables_are (is_in_plant p) ∙ and_yes (nat_lt i p.states) (nat_lt i p.states) (yes i p.states l) (yes i p.states l)

pub drift_below : (p : Places) (i : ℕ) (e : Expr) → IsDrift i e → i < p.states → IsTrue (has_places_below p (place_count p) e)
drift_below p i e is l = is.variables_are (is_below p (place_count p)) ∙ and_yes _ _ (yes (place p (NextState i)) (place_count p) (omega arith)) (yes (place p (State i)) (place_count p) (omega arith))

in_slack_in_plant : (p : Places) (v : Var) → IsTrue (is_allowed in_slack p v) → IsTrue (is_in_plant p v)
in_slack_in_plant p (Param i) h = h
in_slack_in_plant p (State i) h = absurd (cc)
in_slack_in_plant p (Control i) h = h
in_slack_in_plant p (NextState i) h = absurd (cc)
in_slack_in_plant p (NextControl i) h = absurd (cc)
in_slack_in_plant p Tau h = refl

pub bound_used : Depends → (p : Places) (e : Expr) → IsTrue (is_good_expr in_slack p e) → IsTrue (all_variables (is_in_plant p) e)
bound_used law p e g = law.weaker (is_allowed in_slack p) (is_in_plant p) e (in_slack_in_plant p) (law.good in_slack p e g)

pub bound_variables : Depends → (p : Places) (e : Expr) → IsTrue (is_good_expr in_slack p e) → IsTrue (all_variables (has_variable p) e)
bound_variables law p e g = law.weaker (is_allowed in_slack p) (has_variable p) e (law.allowed in_slack p) (law.good in_slack p e g)

pub low_good : (p : Places) (s : Slack) → IsTrue (is_good_slack p s) → IsTrue (is_good_expr in_slack p s.low)
low_good p s h = and_left (is_good_expr in_slack p s.low) (is_good_expr in_slack p s.high) h

pub high_good : (p : Places) (s : Slack) → IsTrue (is_good_slack p s) → IsTrue (is_good_expr in_slack p s.high)
high_good p s h = and_right (is_good_expr in_slack p s.low) (is_good_expr in_slack p s.high) h

-- the value of a difference of bounds whose polynomial is zero
pub same_values : (d : ℕ) (ts : List Term) (z : Point) (q r : Rational) → 0 < d → ts ≡ [] → IsTimes d (value_at ts z) (difference q r) → Equals q r
same_values d ts z q r h e t = same_from_zero d q r (value_at ts z) h (subst (λ (us : List Term). Equals (value_at us z) (whole (pos 0))) (sym e) (Equals-refl (whole (pos 0)))) t
