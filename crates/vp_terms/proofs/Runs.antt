-- The ways through a program, with what is left to run behind it.
use Rattle.std.proofs.Common.{◌≡◌, ◌≢◌, ℕ, ◌⊎◌, inl, inr, ⊎_elim, ◌↔◌, Bool, true, false, ◌||◌, ◌==◌, IsTrue, Option, None, Some, Box, Global, refl, sym, subst, ◌∙◌, if◌then◌else◌, arith}
use Rattle.std.proofs.lemmas.Bool.Decides.{nat_tests}
use Rattle.std.specs.Prelude.{⊤, IsSome, IfSome}
use Rattle.std.specs.Borrow.{Bor}
use Rattle.vp_terms.specs.Rational.{Rational, Equals}
use Rattle.vp_terms.specs.Meaning.{value, holds}
use Rattle.vp_terms.specs.Control.{Values, assigned, Same, Sets, Ctrl}
use Rattle.vp_terms.specs.Running.{may_give, may_change, KeepsGiven, RunIsSmall}
use Rattle.vp_terms.specs.Continuing.{RestLeads, Leads, rest_may_change, RestKeeps, Keeps, RestIsSmall}
use Rattle.vp_terms.specs.Evaluation.{PartsAreSmall, FormulaIsSmall}
use Rattle.vp_terms.specs.declared.expr.Expr.{Expr}
use Rattle.vp_terms.specs.declared.formula.Formula.{Formula}
use Rattle.vp_terms.specs.declared.prog.Prog.{Prog}
use Rattle.vp_terms.specs.declared.prog.Prog.TheVariants.{Skip, Assign, Any, Test}
use Rattle.vp_terms.specs.declared.prog.Prog.TheViews as view
use Rattle.vp_terms.specs.declared.running.Rest.{Rest}
use Rattle.vp_terms.specs.declared.running.Rest.TheVariants.{End, Then'}
use Rattle.vp_terms.specs.declared.running.Rest.TheViews as behind
use Rattle.vp_terms.proofs.RationalLaws.{Equals-refl, Equals-sym, Equals-trans}
use Rattle.vp_terms.proofs.Agreeing.{or_left, or_right}
use Rattle.vp_terms.proofs.Standing.{same_or_not}
use Rattle.vp_terms.proofs.Programs.{Same-refl, Same-sym, Same-trans, Ctrl_over, Run_over, kept}

-- an answer that is exact for one fact is so for another
pub if_yes : (o : Option Bool) (P Q : Type 0) → (P → Q) → IfSome o (λ b. IsTrue b → P) → IfSome o (λ b. IsTrue b → Q)
if_yes None P Q f h = tt
if_yes (Some b) P Q f h = λ t. f (h t)

pub if_held : (o : Option Bool) (P Q : Type 0) → (Q → P) → IfSome o (λ b. P → IsTrue b) → IfSome o (λ b. Q → IsTrue b)
if_held None P Q f h = tt
if_held (Some b) P Q f h = λ t. h (f t)

-- a control has the value q
pub updated : ℕ → Rational → Values → Values
updated c q u k = if k == c then q else u k

at_same : (c k : ℕ) (q r : Rational) → k ≡ c → (if k == c then q else r) ≡ q
at_same c k q r e = grind (arith, nat_tests)

at_other : (c k : ℕ) (q r : Rational) → k ≢ c → (if k == c then q else r) ≡ r
at_other c k q r n = grind (arith, nat_tests)

pub updated_sets : (c : ℕ) (q : Rational) (u : Values) → Sets c q u (updated c q u)
unfolding updated
updated_sets c q u =
    record {
      others = record { others = λ k n. rw (at_other c k q (u k) n) (Equals-refl (u k)) };
      set = rw (at_same c c q (u c) refl) (Equals-refl q);
    }

pub sets_once : (c : ℕ) (q : Rational) (u v w : Values) → Sets c q u v → Sets c q u w → Same v w
sets_once c q u v w a b = record { each = λ k. each k (same_or_not k c) }
  where
    each : (k : ℕ) → (k ≡ c) ⊎ (k ≢ c) → Equals (v k) (w k)
    each k (inl e) = let P : ℕ → Type 0 = λ m. Equals (v m) (w m) in subst P (sym e) (Equals-trans (v c) q (w c) a.set (Equals-sym (w c) q b.set))
    each k (inr n) = Equals-trans (v k) (u k) (w k) (Equals-sym (u k) (v k) (a.others.others k n)) (b.others.others k n)

pub rest_over : (rest : Rest) (p x u u' v : Values) → Same u u' → RestLeads rest p x u v → RestLeads rest p x u' v
rest_over End p x u u' v s h = Same-trans u' u v (Same-sym u u' s) h
rest_over (Then' b l r) p x u u' v s h = (h.0, Ctrl_over b.now p x u u' h.0 h.0 s (Same-refl h.0) h.1, h.2)

pub rest_kept : (rest : Rest) (c : ℕ) (p x u v : Values) → RestLeads rest p x u v → (¬ IsTrue (rest_may_change rest c)) → Equals (u c) (v c)
rest_kept End c p x u v h n = h.each c
rest_kept (Then' b l r) c p x u v h n =
    Equals-trans _ _ _ (kept b.now c p x u h.0 h.1 (λ m. n (or_left _ _ m))) (rest_kept r c p x h.0 v h.2 (λ m. n (or_right _ _ m)))

pub rest_small_over : (rest : Rest) (p x v u u' : Values) → Same u u' → RestIsSmall rest p x v u → RestIsSmall rest p x v u'
rest_small_over End p x v u u' s h = tt
rest_small_over (Then' b l r) p x v u u' s h = Run_over b.now p x v (RestIsSmall r p x v) (RestIsSmall r p x v) u u' (λ w w' t g. rest_small_over r p x v w w' t g) s h

module _ (rest : Rest) (p x u v : Values) where
  -- `Skip`
  pub skip_leads : RestLeads rest p x u v → Leads Skip rest p x u v
  skip_leads l = (u, Same-refl u, l)

  pub skip_led : Leads Skip rest p x u v → RestLeads rest p x u v
  skip_led l = rest_over rest p x l.0 u v (Same-sym u l.0 l.1) l.2

  -- an assignment
  pub assign_leads : (c : ℕ) (e : Expr) (w : Values) → Sets c (value e (assigned p x u)) u w → RestLeads rest p x w v → Leads (Assign c e) rest p x u v
  assign_leads c e w s l = (w, s, l)

  pub assign_led : (c : ℕ) (e : Expr) (w : Values) → Sets c (value e (assigned p x u)) u w → Leads (Assign c e) rest p x u v → RestLeads rest p x w v
  assign_led c e w s l = rest_over rest p x l.0 w v (sets_once c (value e (assigned p x u)) u l.0 w l.1 s) l.2

  pub assign_small : (c : ℕ) (e : Expr) (w : Values) (o : Option Bool) → Sets c (value e (assigned p x u)) u w → PartsAreSmall (λ i. ⊤) (assigned p x u) e → (IsSome o ↔ RestIsSmall rest p x v w) → IsSome o ↔ RunIsSmall (Assign c e) p x v (RestIsSmall rest p x v) u
  assign_small c e w o s k f = (
    λ i. (k, λ m t. rest_small_over rest p x v w m (sets_once c (value e (assigned p x u)) u w m s t) (f.0 i)),
    λ g. f.1 (g.1 w s),
  )

  -- `:= *`
  pub any_leads : (c : ℕ) (w : Values) → Sets c (v c) u w → RestLeads rest p x w v → Leads (Any c) rest p x u v
  any_leads c w s l = (w, s.others, l)

  pub any_led : (c : ℕ) (w : Values) → Sets c (v c) u w → Keeps (Any c) rest → Leads (Any c) rest p x u v → RestLeads rest p x w v
  any_led c w s k l =
      let given : IsTrue (c == c) = grind (arith, nat_tests) in
      let m : Sets c (v c) u l.0 = record { others = l.1; set = rest_kept rest c p x l.0 v l.2 (k.apart c given) } in
      rest_over rest p x l.0 w v (sets_once c (v c) u l.0 w m s) l.2

  pub any_small : (c : ℕ) (w : Values) (o : Option Bool) → Sets c (v c) u w → (IsSome o ↔ RestIsSmall rest p x v w) → IsSome o ↔ RunIsSmall (Any c) p x v (RestIsSmall rest p x v) u
  any_small c w o s f = (λ i m t. rest_small_over rest p x v w m (sets_once c (v c) u w m s t) (f.0 i), λ g. f.1 (g w s))

  -- a test
  pub test_leads : (f : Formula) → IsTrue (holds f (assigned p x u)) → RestLeads rest p x u v → Leads (Test f) rest p x u v
  test_leads f h l = (u, (Same-refl u, h), l)

  pub test_led : (f : Formula) → Leads (Test f) rest p x u v → RestLeads rest p x u v
  test_led f l = rest_over rest p x l.0 u v (Same-sym u l.0 l.1.0) l.2

  pub test_holds : (f : Formula) → Leads (Test f) rest p x u v → IsTrue (holds f (assigned p x u))
  test_holds f l = l.1.1

  pub test_small : (f : Formula) (o : Option Bool) → IsTrue (holds f (assigned p x u)) → FormulaIsSmall (λ i. ⊤) (assigned p x u) f → (IsSome o ↔ RestIsSmall rest p x v u) → IsSome o ↔ RunIsSmall (Test f) p x v (RestIsSmall rest p x v) u
  test_small f o h k g = (λ i. (k, λ y. g.0 i), λ s. g.1 (s.1 h))

  pub test_fails_small : (f : Formula) → (¬ IsTrue (holds f (assigned p x u))) → FormulaIsSmall (λ i. ⊤) (assigned p x u) f → IsSome (Some false) ↔ RunIsSmall (Test f) p x v (RestIsSmall rest p x v) u
  test_fails_small f n k = (λ i. (k, λ y. absurd (n y)), λ s. refl)

  -- a choice
  pub choice_left : (a b : Box Prog Global) → Leads a.value rest p x u v → Leads (view.Choice a b) rest p x u v
  choice_left a b h = (h.0, inl h.1, h.2)

  pub choice_right : (a b : Box Prog Global) → Leads b.value rest p x u v → Leads (view.Choice a b) rest p x u v
  choice_right a b h = (h.0, inr h.1, h.2)

  pub choice_led : (a b : Box Prog Global) → Leads (view.Choice a b) rest p x u v → Leads a.value rest p x u v ⊎ Leads b.value rest p x u v
  choice_led a b h = ⊎_elim (λ g. inl (h.0, g, h.2)) (λ g. inr (h.0, g, h.2)) h.1

  pub left_keeps : (a b : Box Prog Global) → Keeps (view.Choice a b) rest → Keeps a.value rest
  left_keeps a b k = record { first = k.first.0; behind = k.behind; apart = λ c g. k.apart c (or_left _ _ g) }

  pub right_keeps : (a b : Box Prog Global) → Keeps (view.Choice a b) rest → Keeps b.value rest
  right_keeps a b k = record { first = k.first.1; behind = k.behind; apart = λ c g. k.apart c (or_right _ _ g) }

  -- `if`
  pub then_leads : (f : Formula) (a b : Box Prog Global) → IsTrue (holds f (assigned p x u)) → Leads a.value rest p x u v → Leads (view.If f a b) rest p x u v
  then_leads f a b h k = (k.0, inl (h, k.1), k.2)

  pub else_leads : (f : Formula) (a b : Box Prog Global) → (¬ IsTrue (holds f (assigned p x u))) → Leads b.value rest p x u v → Leads (view.If f a b) rest p x u v
  else_leads f a b h k = (k.0, inr (h, k.1), k.2)

  pub then_led : (f : Formula) (a b : Box Prog Global) → IsTrue (holds f (assigned p x u)) → Leads (view.If f a b) rest p x u v → Leads a.value rest p x u v
  then_led f a b h k = (k.0, ⊎_elim (λ g. g.1) (λ g. absurd (g.0 h)) k.1, k.2)

  pub else_led : (f : Formula) (a b : Box Prog Global) → (¬ IsTrue (holds f (assigned p x u))) → Leads (view.If f a b) rest p x u v → Leads b.value rest p x u v
  else_led f a b n k = (k.0, ⊎_elim (λ g. absurd (n g.0)) (λ g. g.1) k.1, k.2)

  pub then_keeps : (f : Formula) (a b : Box Prog Global) → Keeps (view.If f a b) rest → Keeps a.value rest
  then_keeps f a b k = record { first = k.first.0; behind = k.behind; apart = λ c g. k.apart c (or_left _ _ g) }

  pub else_keeps : (f : Formula) (a b : Box Prog Global) → Keeps (view.If f a b) rest → Keeps b.value rest
  else_keeps f a b k = record { first = k.first.1; behind = k.behind; apart = λ c g. k.apart c (or_right _ _ g) }

  pub then_small : (f : Formula) (a b : Box Prog Global) (o : Option Bool) → IsTrue (holds f (assigned p x u)) → FormulaIsSmall (λ i. ⊤) (assigned p x u) f → (IsSome o ↔ RunIsSmall a.value p x v (RestIsSmall rest p x v) u) → IsSome o ↔ RunIsSmall (view.If f a b) p x v (RestIsSmall rest p x v) u
  then_small f a b o h k g = (λ i. (k, (λ y. g.0 i), λ n. absurd (n h)), λ s. g.1 (s.1 h))

  pub else_small : (f : Formula) (a b : Box Prog Global) (o : Option Bool) → (¬ IsTrue (holds f (assigned p x u))) → FormulaIsSmall (λ i. ⊤) (assigned p x u) f → (IsSome o ↔ RunIsSmall b.value p x v (RestIsSmall rest p x v) u) → IsSome o ↔ RunIsSmall (view.If f a b) p x v (RestIsSmall rest p x v) u
  else_small f a b o n k g = (λ i. (k, (λ y. absurd (n y)), λ m. g.0 i), λ s. g.1 (s.2 n))

neither : (a b : Bool) → (¬ IsTrue a) → (¬ IsTrue b) → ¬ IsTrue (a || b)
neither true b n m = n
neither false b n m = m

-- a sequence
module _ (rest : Bor Rest) (p x u v : Values) (a b : Box Prog Global) (c : Bor Prog) (same : c.now ≡ b.value) where
  pub seq_leads : Leads a.value (behind.Then c rest) p x u v → Leads (view.Seq a b) rest.now p x u v
  seq_leads h = let P : Prog → Type 0 = λ g. Ctrl g p x h.0 h.2.0 in (h.2.0, (h.0, h.1, subst P same h.2.1), h.2.2)

  pub seq_led : Leads (view.Seq a b) rest.now p x u v → Leads a.value (behind.Then c rest) p x u v
  seq_led h = let P : Prog → Type 0 = λ g. Ctrl g p x h.1.0 h.0 in (h.1.0, h.1.1, (h.0, subst P (sym same) h.1.2, h.2))

  pub seq_keeps : Keeps (view.Seq a b) rest.now → Keeps a.value (behind.Then c rest)
  seq_keeps k =
      let P : Prog → Type 0 = λ g. KeepsGiven g × RestKeeps rest.now × ((i : ℕ) → IsTrue (may_give g i) → ¬ IsTrue (rest_may_change rest.now i)) in
      let Q : Prog → Type 0 = λ g. (i : ℕ) → IsTrue (may_give a.value i) → ¬ IsTrue (may_change g i || rest_may_change rest.now i) in
      record {
        first = k.first.0;
        behind = subst P (sym same) (k.first.1, k.behind, λ i g. k.apart i (or_right _ _ g));
        apart = subst Q (sym same) (λ i g. neither _ _ (k.first.2 i g) (k.apart i (or_left _ _ g)));
      }

  pub seq_small : (o : Option Bool) → (IsSome o ↔ RunIsSmall a.value p x v (RestIsSmall (behind.Then c rest) p x v) u) → IsSome o ↔ RunIsSmall (view.Seq a b) p x v (RestIsSmall rest.now p x v) u
  seq_small o h = let P : Prog → Type 0 = λ g. IsSome o ↔ RunIsSmall a.value p x v (RunIsSmall g p x v (RestIsSmall rest.now p x v)) u in subst P same h

pub sets_value : (c : ℕ) (q r : Rational) (u w : Values) → Equals q r → Sets c q u w → Sets c r u w
sets_value c q r u w e s = record { others = s.others; set = Equals-trans (w c) q r s.set e }

-- nothing is answered where what is met isn't small
pub none_small : (o : Option Bool) (P Q : Type 0) → o ≡ None → (¬ P) → (Q → P) → IsSome o ↔ Q
none_small o P Q e n f = ((λ i. absurd (cc)), λ q. absurd (n (f q)))

pub true_of : (b c d : Bool) → b ≡ c → c ≡ d → b ≡ true → IsTrue d
true_of b c d e f t = sym f ∙ sym e ∙ t

pub false_of : (b c d : Bool) → b ≡ c → c ≡ d → b ≡ false → ¬ IsTrue d
false_of b c d e f t h = absurd (cc)
