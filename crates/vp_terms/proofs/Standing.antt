-- Fractions that stand for values: expressions and formulas have there what they have at the values.
use Rattle.std.proofs.Common.{◌≡◌, ◌≢◌, ℕ, ◌+◌, ◌<◌, ◌≤◌, ◌⊎◌, inl, inr, ◌↔◌, true, false, nat_lt, IsTrue, List, length, get_or, take, drop, length-take, length-drop, ℤ, Option, sym, subst, ap, ◌∙◌, arith, pos}
use Rattle.std.specs.Prelude.{⊤, slice_set}
use Rattle.std.specs.Option.{option_map_or}
use Rattle.std.proofs.lemmas.Option.{slice_get-get_or, slice_get_past}
use Rattle.std.proofs.lemmas.List.{get_or-set_same, get_or-set_other, get_or-take, get_or-drop, set-set, set-get_or}
use Rattle.std.proofs.Math.ListN.{length-set}
use Rattle.vp_terms.specs.Rational.{Rational, whole, Equals}
use Rattle.std.specs.Ordering.{int_eq}
use Rattle.std.proofs.lemmas.Int.{ints}
use Rattle.vp_terms.specs.Meaning.{rational, value, holds, compares}
use Rattle.vp_terms.specs.declared.formula.Cmp.TheVariants.{Eq}
use Rattle.vp_terms.specs.Control.{Values, assigned, Same, Sets}
use Rattle.vp_terms.specs.WellFormed.{is_allowed, in_model, is_good_expr, is_good_formula}
use Rattle.vp_terms.specs.Evaluation.{value_in, at, PartsAreSmall, FormulaIsSmall, IsThere, IsSmallIn, AreSmallIn}
use Rattle.vp_terms.specs.Running.{StandFor}
use Rattle.vp_terms.specs.declared.ratio.Ratio.{Ratio}
use Rattle.vp_terms.specs.declared.expr.Places.{Places}
use Rattle.vp_terms.specs.declared.expr.Var.{Var}
use Rattle.vp_terms.specs.declared.expr.Expr.{Expr}
use Rattle.vp_terms.specs.declared.formula.Formula.{Formula}
use Rattle.vp_terms.specs.declared.expr.Var.TheVariants.{Param, State, Control, NextState, NextControl, Tau}
use Rattle.vp_terms.proofs.RationalLaws.{Equals-sym, Equals-trans}
use Rattle.vp_terms.proofs.Agreeing.{Each, Agree, AgreeKnown, each_of, each_of_formula, good_variables, good_variables_of, value_over, holds_over, parts_over, formula_over}

pub below : (a b : ℕ) → IsTrue (nat_lt a b) → a < b
below a b h = grind arith

pub below_or_not : (k n : ℕ) → (k < n) ⊎ (n ≤ k)
below_or_not k n = grind arith

pub same_or_not : (k c : ℕ) → (k ≡ c) ⊎ (k ≢ c)
same_or_not k c = grind arith

-- the value of a fraction that is there
pub value_there : (vs : List Ratio) (k : ℕ) (d : Ratio) → k < length vs → value_in vs k ≡ rational (get_or vs k d)
value_there vs k d h = ap (λ (o : Option Ratio). option_map_or rational o (whole (pos 0))) (slice_get-get_or vs k d h)

pub value_missing : (vs : List Ratio) (k : ℕ) → length vs ≤ k → value_in vs k ≡ whole (pos 0)
value_missing vs k h = ap (λ (o : Option Ratio). option_map_or rational o (whole (pos 0))) (slice_get_past vs k h)

pub written_here : (vs : List Ratio) (i : ℕ) (r : Ratio) → i < length vs → value_in (slice_set vs i r) i ≡ rational r
written_here vs i r h =
    let l : length (slice_set vs i r) ≡ length vs = length-set vs i r in
    let k : i < length (slice_set vs i r) = rw l h in
    value_there (slice_set vs i r) i r k ∙ ap rational (get_or-set_same vs i r r h)

pub written_elsewhere : (vs : List Ratio) (i k : ℕ) (r : Ratio) → k ≢ i → value_in (slice_set vs i r) k ≡ value_in vs k
written_elsewhere vs i k r n = cases (below_or_not k (length vs))
  where
    l : length (slice_set vs i r) ≡ length vs
    l = length-set vs i r

    cases : (k < length vs) ⊎ (length vs ≤ k) → value_in (slice_set vs i r) k ≡ value_in vs k
    cases (inl h) = value_there (slice_set vs i r) k r (rw l h) ∙ ap rational (get_or-set_other vs i k r r n) ∙ sym (value_there vs k r h)
    cases (inr h) = value_missing (slice_set vs i r) k (rw l h) ∙ sym (value_missing vs k h)

-- what was written over is put back
pub put_back : (vs : List Ratio) (i : ℕ) (r b : Ratio) → b ≡ get_or vs i b → slice_set (slice_set vs i r) i b ≡ vs
put_back vs i r b e = set-set vs i r b ∙ ap (λ (z : Ratio). slice_set vs i z) e ∙ set-get_or vs i b

module _ (places : Places) (vs after : List Ratio) (p x u v : Values) (s : StandFor places vs after p x u v) (n : length vs ≡ places.params + places.states + places.controls) where
  -- a variable of the model has the value that its fraction stands for, and the fraction is there
  there : (i : Var) → IsTrue (is_allowed in_model places i) → Equals (at places vs i) (assigned p x u i) × IsThere places vs i
  there (Param i) h = let b = below i places.params h in (Equals-sym _ _ (s.params i b), omega arith)
  there (State i) h = let b = below i places.states h in (Equals-sym _ _ (s.states i b), omega arith)
  there (Control i) h = let b = below i places.controls h in (Equals-sym _ _ (s.controls i b), omega arith)
  there (NextState i) h = absurd (cc)
  there (NextControl i) h = absurd (cc)
  there Tau h = absurd (cc)

  pub agree_at : (e : Expr) → IsTrue (is_good_expr in_model places e) → Each (Agree (at places vs) (assigned p x u)) e
  agree_at e g = each_of (is_allowed in_model places) (Agree (at places vs) (assigned p x u)) e (λ i h. (there i h).0) (good_variables in_model places e g)

  pub value_stands : (e : Expr) → IsTrue (is_good_expr in_model places e) → Equals (value e (at places vs)) (value e (assigned p x u))
  value_stands e g = value_over e (at places vs) (assigned p x u) (agree_at e g)

  pub holds_stands : (f : Formula) → IsTrue (is_good_formula in_model places f) → holds f (at places vs) ≡ holds f (assigned p x u)
  holds_stands f g =
      holds_over
      f
      (at places vs)
      (assigned p x u)
      (each_of_formula (is_allowed in_model places) (Agree (at places vs) (assigned p x u)) f (λ i h. (there i h).0) (good_variables_of in_model places f g))

  pub parts_stand : (e : Expr) → IsTrue (is_good_expr in_model places e) → IsSmallIn places vs e ↔ PartsAreSmall (λ i. ⊤) (assigned p x u) e
  parts_stand e g = (
    parts_over
        (IsThere places vs)
        (λ i. ⊤)
        (at places vs)
        (assigned p x u)
        e
        (each_of (is_allowed in_model places) (AgreeKnown (IsThere places vs) (λ i. ⊤) (at places vs) (assigned p x u)) e (λ i h. ((there i h).0, λ k. tt)) (good_variables in_model places e g)),
    parts_over
        (λ i. ⊤)
        (IsThere places vs)
        (assigned p x u)
        (at places vs)
        e
        (each_of (is_allowed in_model places) (AgreeKnown (λ i. ⊤) (IsThere places vs) (assigned p x u) (at places vs)) e (λ i h. (Equals-sym _ _ (there i h).0, λ k. (there i h).1)) (good_variables in_model places e g)),
  )

  pub formula_stands : (f : Formula) → IsTrue (is_good_formula in_model places f) → AreSmallIn places vs f ↔ FormulaIsSmall (λ i. ⊤) (assigned p x u) f
  formula_stands f g = (
    formula_over
        (IsThere places vs)
        (λ i. ⊤)
        (at places vs)
        (assigned p x u)
        f
        (each_of_formula (is_allowed in_model places) (AgreeKnown (IsThere places vs) (λ i. ⊤) (at places vs) (assigned p x u)) f (λ i h. ((there i h).0, λ k. tt)) (good_variables_of in_model places f g)),
    formula_over
        (λ i. ⊤)
        (IsThere places vs)
        (assigned p x u)
        (at places vs)
        f
        (each_of_formula (is_allowed in_model places) (AgreeKnown (λ i. ⊤) (IsThere places vs) (assigned p x u) (at places vs)) f (λ i h. (Equals-sym _ _ (there i h).0, λ k. (there i h).1)) (good_variables_of in_model places f g)),
  )

  -- a control is written
  pub stands_after : (c : ℕ) (r : Ratio) (w : Values) → c < places.controls → Sets c (rational r) u w → StandFor places (slice_set vs (places.params + places.states + c) r) after p x w v
  stands_after c r w h b =
      record {
        params = λ k i. let e = written_elsewhere vs (places.params + places.states + c) k r (λ m. absurd (omega arith)) in rw e (s.params k i);
        states = λ k i. let e = written_elsewhere vs (places.params + places.states + c) (places.params + k) r (λ m. absurd (omega arith)) in rw e (s.states k i);
        controls = λ k i. control k i (same_or_not k c);
        afterwards = s.afterwards;
        others = λ k i. Equals-trans (w k) (u k) (v k) (Equals-sym (u k) (w k) (b.others.others k (λ m. absurd (omega arith)))) (s.others k i);
      }
    where
      control : (k : ℕ) → k < places.controls → (k ≡ c) ⊎ (k ≢ c) → Equals (w k) (value_in (slice_set vs (places.params + places.states + c) r) (places.params + places.states + k))
      control k i (inl e) =
          let P : ℕ → Type 0 = λ m. Equals (w m) (value_in (slice_set vs (places.params + places.states + c) r) (places.params + places.states + m)) in
          let f = written_here vs (places.params + places.states + c) r (omega arith) in
          subst P (sym e) (rw f b.set)
      control k i (inr m) =
          let e = written_elsewhere vs (places.params + places.states + c) (places.params + places.states + k) r (λ q. m (omega arith)) in
          rw e (Equals-trans (w k) (u k) _ (Equals-sym (u k) (w k) (b.others.others k m)) (s.controls k i))

  -- the controls are those afterwards exactly where their fractions have the same values
  pub same_controls : ((k : ℕ) → k < places.controls → Equals (value_in vs (places.params + places.states + k)) (value_in after k)) → Same u v
  same_controls h = record { each = λ k. each k (below_or_not k places.controls) }
    where
      each : (k : ℕ) → (k < places.controls) ⊎ (places.controls ≤ k) → Equals (u k) (v k)
      each k (inl b) = Equals-trans (u k) _ (v k) (s.controls k b) (Equals-trans _ (value_in after k) (v k) (h k b) (Equals-sym _ _ (s.afterwards k b)))
      each k (inr b) = s.others k b

  pub controls_same : Same u v → (k : ℕ) → k < places.controls → Equals (value_in vs (places.params + places.states + k)) (value_in after k)
  controls_same e k b = Equals-trans _ (u k) _ (Equals-sym _ _ (s.controls k b)) (Equals-trans (u k) (v k) _ (e.each k) (s.afterwards k b))

  -- the value that a control has afterwards
  pub stands_afterwards : length after ≡ places.controls → (c : ℕ) (r : Ratio) → c < places.controls → r ≡ get_or after c r → Equals (rational r) (v c)
  stands_afterwards m c r h e =
      let k : c < length after = omega arith in
      let f = value_there after c r k ∙ ap rational (sym e) in
      Equals-sym (v c) (rational r) (rw (← f) (s.afterwards c h))

-- one more control, and the first one that differs
module _ (vs after : List Ratio) (first i : ℕ) (a b : Ratio) (there : first + i < length vs) (beside : i < length after) where
  same_value : a ≡ get_or vs (first + i) a → value_in vs (first + i) ≡ rational a
  same_value e = value_there vs (first + i) a there ∙ ap rational (sym e)

  same_beside : b ≡ get_or after i b → value_in after i ≡ rational b
  same_beside e = value_there after i b beside ∙ ap rational (sym e)

  pub one_differs : a ≡ get_or vs (first + i) a → b ≡ get_or after i b → (¬ Equals (rational a) (rational b)) → ¬ Equals (value_in vs (first + i)) (value_in after i)
  one_differs e f n h = let l = same_value e in let r = same_beside f in n (rw (← l, ← r) h)

  pub one_more : a ≡ get_or vs (first + i) a → b ≡ get_or after i b → Equals (rational a) (rational b) → ((k : ℕ) → k < i → Equals (value_in vs (first + k)) (value_in after k)) → (k : ℕ) → k < i + 1 → Equals (value_in vs (first + k)) (value_in after k)
  one_more e f h below k m = cases (below_or_not k i)
    where
      cases : (k < i) ⊎ (i ≤ k) → Equals (value_in vs (first + k)) (value_in after k)
      cases (inl l) = below k l
      cases (inr g) =
          let P : ℕ → Type 0 = λ j. Equals (value_in vs (first + j)) (value_in after j) in
          let here : i ≡ k = omega arith in
          let l = same_value e in
          let r = same_beside f in
          subst P here (rw (l, r) h)

-- an element behind the first ones
pub part_index : (vs : List Ratio) (n first i : ℕ) (a : Ratio) → i < length (take n (drop first vs)) → a ≡ get_or (take n (drop first vs)) i a → a ≡ get_or vs (first + i) a
part_index vs n first i a h e =
    let k : i < n = omega (arith, length-take n (drop first vs)) in
    e ∙ get_or-take n (drop first vs) i a k ∙ get_or-drop first vs i a

pub part_inside : (vs : List Ratio) (n first i : ℕ) → i < length (take n (drop first vs)) → first + i < length vs
part_inside vs n first i h = omega (arith, length-take n (drop first vs), length-drop first vs)

int_equal : (a b : ℤ) → int_eq a b ≡ true → a ≡ b
int_equal a b h = grind (arith, ints)

int_differs : (a b : ℤ) → int_eq a b ≡ false → ¬ (a ≡ b)
int_differs a b h e = grind (arith, ints)

pub are_equal : (q r : Rational) → compares Eq q r ≡ true → Equals q r
are_equal q r h = record { crossed = int_equal _ _ h }

pub are_not_equal : (q r : Rational) → compares Eq q r ≡ false → ¬ Equals q r
are_not_equal q r h e = int_differs _ _ h e.crossed
