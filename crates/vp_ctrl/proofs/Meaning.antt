-- The conditions of a way hold exactly where its statements lead from the values before to those after.
use Rattle.std.proofs.Common.{◌≡◌, ◌≢◌, ℕ, ◌+◌, ◌<◌, ◌≤◌, ◌⊎◌, inl, inr, Bool, true, false, ◌==◌, if◌then◌else◌, IsTrue, List, [], ◌∷◌, ◌++◌, Option, None, Some, zero, suc, ℤ, refl, sym, ap, ◌∙◌, arith}
use Rattle.std.specs.List.{list_all, flat_map, range_with_len}
use Rattle.std.specs.Ordering.{int_eq}
use Rattle.std.proofs.lemmas.List.Folds.{list_all-append}
use Rattle.std.proofs.lemmas.Int.{ints}
use Rattle.vp_terms.specs.Rational.{Rational, Equals}
use Rattle.vp_terms.specs.Meaning.{value, holds, compares}
use Rattle.vp_terms.specs.Control.{AgreeFrom, Values, assigned, changing, SameBut}
use Rattle.vp_terms.specs.WellFormed.{is_allowed, in_model, is_good_expr, is_good_formula}
use Rattle.vp_terms.specs.declared.expr.Places.{Places}
use Rattle.vp_terms.specs.declared.expr.Var.{Var}
use Rattle.vp_terms.specs.declared.expr.Var.TheVariants.{Param, State, Control, NextState, NextControl, Tau}
use Rattle.vp_terms.specs.declared.expr.Expr.{Expr}
use Rattle.vp_terms.specs.declared.expr.Expr.TheVariants.{Var as Variable}
use Rattle.vp_terms.specs.declared.formula.Cmp.TheVariants as cmp
use Rattle.vp_terms.specs.declared.formula.Formula.{Formula}
use Rattle.vp_terms.proofs.RationalLaws.{chain, Equals-refl, Equals-sym}
use Rattle.vp_poly.specs.Replaced.{replaced, formula_replaced}
use Rattle.vp_ctrl.specs.Ways.{Move, Gives, GivesAny, Passes, Fails, Way}
use Rattle.vp_ctrl.specs.Hidden.{gives_any, is_given, changed_again, or_next, again, hidden_on}
use Rattle.vp_ctrl.specs.Following.{StandIns, at_first, instead, stands, after, after_all, tests, given_last, is_given_last, equation, conditions, condition_holds, conditions_hold}
use Rattle.vp_ctrl.specs.Walked.{IsGoodWay}
use Rattle.vp_ctrl.proofs.Known.{Meant}
use Rattle.vp_ctrl.proofs.Running.{Runs}
use Rattle.vp_ctrl.proofs.Truths.{below, below_or_not, both, both_true, denied, is_other, is_same, not_true, other_test, same_or_not, same_test}

-- ---- equal values

int_equal : (a b : ℤ) → int_eq a b ≡ true → a ≡ b
int_equal a b h = grind (arith, ints)

int_differs : (a b : ℤ) → int_eq a b ≡ false → ¬ (a ≡ b)
int_differs a b h e = grind (arith, ints)

are_equal : (q r : Rational) → compares cmp.Eq q r ≡ true → Equals q r
are_equal q r h = record { crossed = int_equal _ _ h }

equal_compares : (q r : Rational) → Equals q r → compares cmp.Eq q r ≡ true
equal_compares q r e = cases (compares cmp.Eq q r) refl
  where
    cases : (b : Bool) → compares cmp.Eq q r ≡ b → compares cmp.Eq q r ≡ true
    cases true z = z
    cases false z = absurd (int_differs _ _ z e.crossed)

-- ---- lists of truths

pub all_both : {A : Type 0} (t : A → Bool) (xs ys : List A) → IsTrue (list_all t xs) → IsTrue (list_all t ys) → IsTrue (list_all t (xs ++ ys))
all_both t xs ys h k = list_all-append t xs ys ∙ both_true _ _ h k

pub all_apart : {A : Type 0} (t : A → Bool) (xs ys : List A) → IsTrue (list_all t (xs ++ ys)) → IsTrue (list_all t xs) × IsTrue (list_all t ys)
all_apart t xs ys h = both _ _ (sym (list_all-append t xs ys) ∙ h)

pub each_listed : {A : Type 0} (t : A → Bool) (g : ℕ → List A) (n a : ℕ) → IsTrue (list_all t (flat_map g (range_with_len a n))) → (k : ℕ) → a ≤ k → k < a + n → IsTrue (list_all t (g k))
each_listed t g zero a h k le lt = absurd (omega arith)
each_listed t g (suc n) a h k le lt = cases (λ z l. each_listed t g n (a + 1) z k l (omega arith)) (same_or_not k a)
  where
    s : IsTrue (list_all t (g a)) × IsTrue (list_all t (flat_map g (range_with_len (a + 1) n)))
    s = all_apart t (g a) (flat_map g (range_with_len (a + 1) n)) h

    cases : (IsTrue (list_all t (flat_map g (range_with_len (a + 1) n))) → a + 1 ≤ k → IsTrue (list_all t (g k))) → (k ≡ a) ⊎ (k ≢ a) → IsTrue (list_all t (g k))
    cases f (inl e) = rw e s.0
    cases f (inr e) = f s.1 (omega arith)

pub all_listed : {A : Type 0} (t : A → Bool) (g : ℕ → List A) (n a : ℕ) → ((k : ℕ) → a ≤ k → k < a + n → IsTrue (list_all t (g k))) → IsTrue (list_all t (flat_map g (range_with_len a n)))
all_listed t g zero a h = refl
all_listed t g (suc n) a h =
    all_both t (g a) (flat_map g (range_with_len (a + 1) n)) (h a (omega arith) (omega arith)) (all_listed t g n (a + 1) (λ k le lt. h k (omega arith) (omega arith)))

-- ---- a control that is given and never hidden keeps its value

given_more : (k : ℕ) (b : Way) (m : Move) → is_given k b ≡ true → is_given k (b ++ m ∷ []) ≡ true
given_more k [] m h = absurd (cc)
given_more k (n ∷ b) m h = cases (given_more k b m) (gives_any k n) refl
  where
    cases : (is_given k b ≡ true → is_given k (b ++ m ∷ []) ≡ true) → (t : Bool) → gives_any k n ≡ t → is_given k ((n ∷ b) ++ m ∷ []) ≡ true
    cases f true e = rw e refl
    cases f false e = rw e (f (rw e at h))

pub given_now : (k : ℕ) (b : Way) → is_given k (b ++ GivesAny k ∷ []) ≡ true
given_now k [] = rw (same_test k) refl
given_now k (n ∷ b) = cases (given_now k b) (gives_any k n) refl
  where
    cases : is_given k (b ++ GivesAny k ∷ []) ≡ true → (t : Bool) → gives_any k n ≡ t → is_given k ((n ∷ b) ++ GivesAny k ∷ []) ≡ true
    cases f true e = rw e refl
    cases f false e = rw e f

-- nothing comes first
pub none_first : (o q : Option ℕ) → or_next o q ≡ None → (o ≡ None) × (q ≡ None)
none_first None q h = (refl, h)
none_first (Some c) q h = absurd (cc)

not_again : (b : Way) (c : ℕ) → changed_again b (Some c) ≡ None → is_given c b ≡ false
not_again b c h = cases (is_given c b) refl
  where
    cases : (t : Bool) → is_given c b ≡ t → is_given c b ≡ false
    cases true e = absurd (let f = rw e at h in cc)
    cases false e = e

-- another control changes
another : (b : Way) (c d : ℕ) → is_given c b ≡ true → is_given d b ≡ false → c ≢ d
another b c d h g e = absurd (let f = ap (λ (k : ℕ). is_given k b) e in cc)

pub keeps_value : (w b : Way) (c : ℕ) (p x u v : Values) → is_given c b ≡ true → again b w ≡ None → Runs w p x u v → Equals (u c) (v c)
keeps_value [] b c p x u v g n h = h.each c
keeps_value (Gives d e ∷ w) b c p x u v g n h =
    let s = none_first _ _ n in
    chain (h.1.others.others c (another b c d g (not_again b d s.0))) (keeps_value w (b ++ Gives d e ∷ []) c p x h.0 v (given_more c b (Gives d e) g) s.1 h.2)
keeps_value (GivesAny d ∷ w) b c p x u v g n h =
    let s = none_first _ _ n in
    chain (h.1.others c (another b c d g (not_again b d s.0))) (keeps_value w (b ++ GivesAny d ∷ []) c p x h.0 v (given_more c b (GivesAny d) g) s.1 h.2)
keeps_value (Passes f ∷ w) b c p x u v g n h = keeps_value w (b ++ Passes f ∷ []) c p x u v (given_more c b (Passes f) g) (none_first None _ n).1 h.1
keeps_value (Fails f ∷ w) b c p x u v g n h = keeps_value w (b ++ Fails f ∷ []) c p x u v (given_more c b (Fails f) g) (none_first None _ n).1 h.1

-- ---- what controls stand for at a point

module _ (meant : Meant) (places : Places) (p x u v later : Values) (time : Rational) (agree : AgreeFrom places.controls u v) where
  -- what each control stands for has the value that the control has now
  pub record Agrees (s : StandIns) (w : Values) : Type 0 where
    pub known : (k : ℕ) → k < places.controls → Equals (value (s k) (changing p x u v time later)) (w k)
    pub others : (k : ℕ) → places.controls ≤ k → Equals (w k) (v k)

  module _ (s : StandIns) (w : Values) (h : Agrees s w) where
    agree_at : (i : Var) → IsTrue (is_allowed in_model places i) → Equals (value (stands s i) (changing p x u v time later)) (assigned p x w i)
    agree_at (Param i) b = Equals-refl (p i)
    agree_at (State i) b = Equals-refl (x i)
    agree_at (Control i) b = h.known i (below i places.controls b)
    agree_at (NextState i) b = absurd (cc)
    agree_at (NextControl i) b = absurd (cc)
    agree_at Tau b = absurd (cc)

    pub same_value : (e : Expr) → IsTrue (is_good_expr in_model places e) → Equals (value (replaced (stands s) e) (changing p x u v time later)) (value e (assigned p x w))
    same_value e g =
        rw (meant.composes.values (changing p x u v time later) (stands s) e)
        (meant.depends.values (is_allowed in_model places) e (λ i. value (stands s i) (changing p x u v time later)) (assigned p x w) (meant.allowed.expressions in_model places e g) agree_at)

    pub same_truth : (f : Formula) → IsTrue (is_good_formula in_model places f) → holds (formula_replaced (stands s) f) (changing p x u v time later) ≡ holds f (assigned p x w)
    same_truth f g =
        meant.composes.truth (changing p x u v time later) (stands s) f
        ∙ meant.depends.truth (is_allowed in_model places) f (λ i. value (stands s i) (changing p x u v time later)) (assigned p x w) (meant.allowed.formulas in_model places f g) agree_at

    -- after a change of c
    pub agrees_after : (c : ℕ) (e : Expr) (t : Values) → c < places.controls → SameBut c w t → Equals (value e (changing p x u v time later)) (t c) → Agrees (instead s c e) t
    agrees_after c e t lt b q = record {
      known = λ k le. cases k le (c == k) refl;
      others = λ k le. chain (Equals-sym _ _ (b.others k (λ r. absurd (omega arith)))) (h.others k le);
    }
      where
        cases : (k : ℕ) → k < places.controls → (t1 : Bool) → (c == k) ≡ t1 → Equals (value (instead s c e k) (changing p x u v time later)) (t k)
        cases k le true r = let z = is_same c k r in rw (r, ← z) q
        cases k le false r = rw r (chain (h.known k le) (b.others k (is_other c k r)))

  -- the values with another one for c
  with_value : ℕ → Rational → Values → Values
  with_value c q w k = if c == k then q else w k

  with_others : (c : ℕ) (q : Rational) (w : Values) → SameBut c w (with_value c q w)
  unfolding with_value
  with_others c q w = record { others = λ k n. rw (other_test c k n) (Equals-refl (w k)) }

  with_set : (c : ℕ) (q : Rational) (w : Values) → with_value c q w c ≡ q
  unfolding with_value
  with_set c q w = rw (same_test c) refl

  -- ---- where the conditions hold, the way leads there

  -- the flags say which controls `:= *` gave last: they stand for their next values
  pub record Flags (s : StandIns) (g : ℕ → Bool) : Type 0 where
    pub given : (k : ℕ) → k < places.controls → g k ≡ true → Equals (value (s k) (changing p x u v time later)) (v k)

  -- the equations at the end
  abbrev pub Ends : StandIns → (ℕ → Bool) → Way → Type 0
  Ends s g w = (k : ℕ) → k < places.controls → is_given_last k (g k) w ≡ false → Equals (v k) (value (after_all s w k) (changing p x u v time later))

  flags_set : (s : StandIns) (g : ℕ → Bool) (c : ℕ) (e e' : Expr) → Flags s g → Flags (instead s c e) (λ k. given_last k (g k) (Gives c e'))
  flags_set s g c e e' f = record { given = λ k le y. cases k le (c == k) refl y }
    where
      cases : (k : ℕ) → k < places.controls → (t : Bool) → (c == k) ≡ t → given_last k (g k) (Gives c e') ≡ true → Equals (value (instead s c e k) (changing p x u v time later)) (v k)
      cases k le true r y = absurd (let z = rw r at y in cc)
      cases k le false r y = rw r (f.given k le (rw r at y))

  flags_given : (s : StandIns) (g : ℕ → Bool) (c : ℕ) → Flags s g → Flags (instead s c (Variable (NextControl c))) (λ k. given_last k (g k) (GivesAny c))
  flags_given s g c f = record { given = λ k le y. cases k le (c == k) refl y }
    where
      cases : (k : ℕ) → k < places.controls → (t : Bool) → (c == k) ≡ t → given_last k (g k) (GivesAny c) ≡ true → Equals (value (instead s c (Variable (NextControl c)) k) (changing p x u v time later)) (v k)
      cases k le true r y = let z = is_same c k r in rw (r, z) (Equals-refl (v k))
      cases k le false r y = rw r (f.given k le (rw r at y))

  pub led : (w : Way) (s : StandIns) (g : ℕ → Bool) (t : Values) → IsGoodWay places w → Agrees s t → Flags s g → IsTrue (conditions_hold (tests s w) (changing p x u v time later)) → Ends s g w → Runs w p x t v
  led [] s g t ok h f y e = record { each = λ k. cases k (below_or_not k places.controls) }
    where
      known : (k : ℕ) → k < places.controls → (b : Bool) → g k ≡ b → Equals (t k) (v k)
      known k lt true r = chain (Equals-sym _ _ (h.known k lt)) (f.given k lt r)
      known k lt false r = chain (Equals-sym _ _ (h.known k lt)) (Equals-sym _ _ (e k lt r))

      cases : (k : ℕ) → (k < places.controls) ⊎ (places.controls ≤ k) → Equals (t k) (v k)
      cases k (inl lt) = known k lt (g k) refl
      cases k (inr le) = h.others k le
  led (Gives c r ∷ w) s g t ok h f y e =
      let q = value r (assigned p x t) in
      let t1 = with_value c q t in
      let same : Equals (t1 c) q = rw (with_set c q t) (Equals-refl q) in
      let others = with_others c q t in
      let agrees = agrees_after s t h c (replaced (stands s) r) t1 ok.0.0 others (chain (same_value s t h r ok.0.1) (Equals-sym _ _ same)) in (
        t1,
        record { others = others; set = same },
        led w (after s (Gives c r)) (λ k. given_last k (g k) (Gives c r)) t1 ok.1 agrees (flags_set s g c (replaced (stands s) r) r f) y e,
      )
  led (GivesAny c ∷ w) s g t ok h f y e =
      let t1 = with_value c (v c) t in
      let same : Equals (t1 c) (v c) = rw (with_set c (v c) t) (Equals-refl (v c)) in
      let others = with_others c (v c) t in
      let agrees = agrees_after s t h c (Variable (NextControl c)) t1 ok.0 others (chain (Equals-refl (v c)) (Equals-sym _ _ same)) in (
        t1,
        others,
        led w (after s (GivesAny c)) (λ k. given_last k (g k) (GivesAny c)) t1 ok.1 agrees (flags_given s g c f) y e,
      )
  led (Passes q ∷ w) s g t ok h f y e =
      let z = both _ _ y in
      (sym (same_truth s t h q ok.0) ∙ z.0, led w s g t ok.1 h f z.1 e)
  led (Fails q ∷ w) s g t ok h f y e =
      let z = both _ _ y in
      ((λ k. denied _ z.0 (same_truth s t h q ok.0 ∙ k)), led w s g t ok.1 h f z.1 e)

  -- ---- where a way leads there, its conditions hold

  pub tested : (w b : Way) (s : StandIns) (t : Values) → IsGoodWay places w → again b w ≡ None → Agrees s t → Runs w p x t v → IsTrue (conditions_hold (tests s w) (changing p x u v time later)) × Agrees (after_all s w) v
  tested [] b s t ok n h r = (
    refl,
    record { known = λ k lt. chain (h.known k lt) (r.each k); others = λ k le. Equals-refl (v k) },
  )
  tested (Gives c e ∷ w) b s t ok n h r =
      let q = chain (same_value s t h e ok.0.1) (Equals-sym _ _ r.1.set) in
      tested w (b ++ Gives c e ∷ []) (after s (Gives c e)) r.0 ok.1 (none_first _ _ n).1 (agrees_after s t h c (replaced (stands s) e) r.0 ok.0.0 r.1.others q) r.2
  tested (GivesAny c ∷ w) b s t ok n h r =
      let m = (none_first _ _ n).1 in
      let keep = keeps_value w (b ++ GivesAny c ∷ []) c p x r.0 v (given_now c b) m r.2 in
      tested w (b ++ GivesAny c ∷ []) (after s (GivesAny c)) r.0 ok.1 m (agrees_after s t h c (Variable (NextControl c)) r.0 ok.0 r.1 (chain (Equals-refl (v c)) (Equals-sym _ _ keep))) r.2
  tested (Passes f ∷ w) b s t ok n h r =
      let z = tested w (b ++ Passes f ∷ []) s t ok.1 (none_first None _ n).1 h r.1 in
      (both_true _ _ (same_truth s t h f ok.0 ∙ r.0) z.0, z.1)
  tested (Fails f ∷ w) b s t ok n h r =
      let z = tested w (b ++ Fails f ∷ []) s t ok.1 (none_first None _ n).1 h r.1 in
      (both_true _ _ (not_true _ (λ k. r.0 (sym (same_truth s t h f ok.0) ∙ k))) z.0, z.1)

  -- ---- the whole way

  first_agrees : Agrees at_first u
  first_agrees = record { known = λ k lt. Equals-refl (u k); others = agree }

  no_flags : Flags at_first (λ k. false)
  no_flags = record { given = λ k lt y. absurd (cc) }

  -- an equation says that the values are equal
  equation_says : (s : StandIns) (w : Way) (k : ℕ) → is_given_last k false w ≡ false → IsTrue (conditions_hold (equation s w k) (changing p x u v time later)) → Equals (changing p x u v time later (NextControl k)) (value (s k) (changing p x u v time later))
  equation_says s w k r h =
      let z = rw r at h in
      are_equal _ _ (both _ _ z).0

  equation_holds : (s : StandIns) (w : Way) (k : ℕ) → k < places.controls → Equals (value (s k) (changing p x u v time later)) (v k) → IsTrue (conditions_hold (equation s w k) (changing p x u v time later))
  equation_holds s w k lt e = cases (is_given_last k false w) refl
    where
      cases : (b : Bool) → is_given_last k false w ≡ b → IsTrue (conditions_hold (equation s w k) (changing p x u v time later))
      cases true r = rw r refl
      cases false r = rw r (both_true _ true (equal_compares _ _ (chain (Equals-refl (v k)) (Equals-sym _ _ e))) refl)

  pub way_leads : (w : Way) → IsGoodWay places w → IsTrue (conditions_hold (conditions places.controls w) (changing p x u v time later)) → Runs w p x u v
  way_leads w ok h =
      let g = equation (after_all at_first w) w in
      let z = all_apart (condition_holds (changing p x u v time later)) (tests at_first w) (flat_map g (range_with_len 0 places.controls)) h in
      led w at_first (λ k. false) u ok first_agrees no_flags z.0 (λ k lt r.
      chain (Equals-sym _ _ (Equals-refl (v k))) (equation_says (after_all at_first w) w k r (each_listed (condition_holds (changing p x u v time later)) g places.controls 0 z.1 k (omega arith) (omega arith))))

  pub leads_way : (w : Way) → IsGoodWay places w → hidden_on w ≡ None → Runs w p x u v → IsTrue (conditions_hold (conditions places.controls w) (changing p x u v time later))
  leads_way w ok n r =
      let g = equation (after_all at_first w) w in
      let z = tested w [] at_first u ok n first_agrees r in
      all_both (condition_holds (changing p x u v time later)) (tests at_first w) (flat_map g (range_with_len 0 places.controls)) z.0
      (all_listed (condition_holds (changing p x u v time later)) g places.controls 0 (λ k le lt. let below_it : k < places.controls = omega arith in equation_holds (after_all at_first w) w k below_it (z.1.known k below_it)))
