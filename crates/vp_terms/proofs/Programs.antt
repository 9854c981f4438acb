-- What a program relates depends on the values alone, and a program keeps the controls that it doesn't change.
use Rattle.std.proofs.Common.{◌≡◌, ℕ, inl, inr, ⊎_elim, ◌==◌, IsTrue, sym, ◌∙◌}
use Rattle.std.proofs.lemmas.Bool.Decides.{nat_tests}
use Rattle.std.proofs.Common.{arith}
use Rattle.std.specs.Prelude.{⊤}
use Rattle.vp_terms.specs.Rational.{Rational, Equals}
use Rattle.vp_terms.specs.Meaning.{value, holds}
use Rattle.vp_terms.specs.Control.{Values, assigned, Same, SameBut, Sets, Ctrl}
use Rattle.vp_terms.specs.Running.{may_change, RunIsSmall}
use Rattle.vp_terms.specs.declared.expr.Var.{Var}
use Rattle.vp_terms.specs.declared.expr.Expr.{Expr}
use Rattle.vp_terms.specs.declared.expr.Var.TheVariants.{Param, State, Control, NextState, NextControl, Tau}
use Rattle.vp_terms.specs.declared.formula.Formula.{Formula}
use Rattle.vp_terms.specs.declared.prog.Prog.{Prog}
use Rattle.vp_terms.specs.declared.prog.Prog.TheVariants.{Skip, Assign, Any, Test, Choice', Seq', If'}
use Rattle.vp_terms.proofs.RationalLaws.{Equals-refl, Equals-sym, Equals-trans}
use Rattle.vp_terms.proofs.Agreeing.{Agree, AgreeKnown, each_all, each_all_of, value_over, holds_over, parts_over, formula_over, or_left, or_right}

pub Same-refl : (u : Values) → Same u u
Same-refl u = record { each = λ k. Equals-refl (u k) }

pub Same-sym : (u v : Values) → Same u v → Same v u
Same-sym u v s = record { each = λ k. Equals-sym (u k) (v k) (s.each k) }

pub Same-trans : (u v w : Values) → Same u v → Same v w → Same u w
Same-trans u v w s t = record { each = λ k. Equals-trans (u k) (v k) (w k) (s.each k) (t.each k) }

pub assigned_over : (p x u u' : Values) → Same u u' → (v : Var) → Equals (assigned p x u v) (assigned p x u' v)
assigned_over p x u u' s (Param i) = Equals-refl (p i)
assigned_over p x u u' s (State i) = Equals-refl (x i)
assigned_over p x u u' s (Control i) = s.each i
assigned_over p x u u' s (NextState i) = Equals-refl (assigned p x u (NextState i))
assigned_over p x u u' s (NextControl i) = Equals-refl (assigned p x u (NextControl i))
assigned_over p x u u' s Tau = Equals-refl (assigned p x u Tau)

pub value_at_same : (e : Expr) (p x u u' : Values) → Same u u' → Equals (value e (assigned p x u)) (value e (assigned p x u'))
value_at_same e p x u u' s = value_over e _ _ (each_all (Agree (assigned p x u) (assigned p x u')) e (assigned_over p x u u' s))

pub holds_at_same : (f : Formula) (p x u u' : Values) → Same u u' → holds f (assigned p x u) ≡ holds f (assigned p x u')
holds_at_same f p x u u' s = holds_over f _ _ (each_all_of (Agree (assigned p x u) (assigned p x u')) f (assigned_over p x u u' s))

pub true_over : (f : Formula) (p x u u' : Values) → Same u u' → IsTrue (holds f (assigned p x u)) → IsTrue (holds f (assigned p x u'))
true_over f p x u u' s h = sym (holds_at_same f p x u u' s) ∙ h

pub SameBut_over : (c : ℕ) (u u' v v' : Values) → Same u u' → Same v v' → SameBut c u v → SameBut c u' v'
SameBut_over c u u' v v' s t b =
    record { others = λ k n. Equals-trans (u' k) (u k) (v' k) (Equals-sym (u k) (u' k) (s.each k)) (Equals-trans (u k) (v k) (v' k) (b.others k n) (t.each k)) }

pub Sets_over : (c : ℕ) (q q' : Rational) (u u' v v' : Values) → Equals q q' → Same u u' → Same v v' → Sets c q u v → Sets c q' u' v'
Sets_over c q q' u u' v v' e s t b =
    record {
      others = SameBut_over c u u' v v' s t b.others;
      set = Equals-trans (v' c) (v c) q' (Equals-sym (v c) (v' c) (t.each c)) (Equals-trans (v c) q q' b.set e);
    }

pub Ctrl_over : (prog : Prog) (p x u u' v v' : Values) → Same u u' → Same v v' → Ctrl prog p x u v → Ctrl prog p x u' v'
Ctrl_over Skip p x u u' v v' s t h = Same-trans u' u v' (Same-sym u u' s) (Same-trans u v v' h t)
Ctrl_over (Assign c e) p x u u' v v' s t h = Sets_over c _ _ u u' v v' (value_at_same e p x u u' s) s t h
Ctrl_over (Any c) p x u u' v v' s t h = SameBut_over c u u' v v' s t h
Ctrl_over (Test f) p x u u' v v' s t h = (Same-trans u' u v' (Same-sym u u' s) (Same-trans u v v' h.0 t), true_over f p x u u' s h.1)
Ctrl_over (Choice' l a r b) p x u u' v v' s t h = ⊎_elim (λ g. inl (Ctrl_over a p x u u' v v' s t g)) (λ g. inr (Ctrl_over b p x u u' v v' s t g)) h
Ctrl_over (Seq' l a r b) p x u u' v v' s t h = (h.0, Ctrl_over a p x u u' h.0 h.0 s (Same-refl h.0) h.1, Ctrl_over b p x h.0 h.0 v v' (Same-refl h.0) t h.2)
Ctrl_over (If' f l a r b) p x u u' v v' s t h =
    ⊎_elim
    (λ g. inl (true_over f p x u u' s g.0, Ctrl_over a p x u u' v v' s t g.1))
    (λ g. inr ((λ y. g.0 (true_over f p x u' u (Same-sym u u' s) y)), Ctrl_over b p x u u' v v' s t g.1))
    h

-- a test of a number against itself
same_number : (c k : ℕ) → k ≡ c → IsTrue (c == k)
same_number c k e = grind (arith, nat_tests)

pub kept : (prog : Prog) (c : ℕ) (p x u v : Values) → Ctrl prog p x u v → (¬ IsTrue (may_change prog c)) → Equals (u c) (v c)
kept Skip c p x u v h n = h.each c
kept (Assign d e) c p x u v h n = h.others.others c (λ i. n (same_number d c i))
kept (Any d) c p x u v h n = h.others c (λ i. n (same_number d c i))
kept (Test f) c p x u v h n = h.0.each c
kept (Choice' l a r b) c p x u v h n = ⊎_elim (λ g. kept a c p x u v g (λ m. n (or_left _ _ m))) (λ g. kept b c p x u v g (λ m. n (or_right _ _ m))) h
kept (Seq' l a r b) c p x u v h n = Equals-trans _ _ _ (kept a c p x u h.0 h.1 (λ m. n (or_left _ _ m))) (kept b c p x h.0 v h.2 (λ m. n (or_right _ _ m)))
kept (If' f l a r b) c p x u v h n = ⊎_elim (λ g. kept a c p x u v g.1 (λ m. n (or_left _ _ m))) (λ g. kept b c p x u v g.1 (λ m. n (or_right _ _ m))) h

-- whether the runs meet small values depends on the values alone
pub Run_over : (prog : Prog) (p x v : Values) (ends ends' : Values → Type 0) (u u' : Values) → ((w w' : Values) → Same w w' → ends w → ends' w') → Same u u' → RunIsSmall prog p x v ends u → RunIsSmall prog p x v ends' u'
Run_over Skip p x v ends ends' u u' f s h = f u u' s h
Run_over (Assign c e) p x v ends ends' u u' f s h = (
  parts_over _ _ _ _ e (each_all (AgreeKnown (λ i. ⊤) (λ i. ⊤) (assigned p x u) (assigned p x u')) e (λ i. (assigned_over p x u u' s i, λ k. k))) h.0,
  λ w b. f w w (Same-refl w) (h.1 w (Sets_over c _ _ u' u w w (value_at_same e p x u' u (Same-sym u u' s)) (Same-sym u u' s) (Same-refl w) b)),
)
Run_over (Any c) p x v ends ends' u u' f s h =
    λ w b. f w w (Same-refl w) (h w (Sets_over c _ _ u' u w w (Equals-refl (v c)) (Same-sym u u' s) (Same-refl w) b))
Run_over (Test t) p x v ends ends' u u' f s h = (
  formula_over _ _ _ _ t (each_all_of (AgreeKnown (λ i. ⊤) (λ i. ⊤) (assigned p x u) (assigned p x u')) t (λ i. (assigned_over p x u u' s i, λ k. k))) h.0,
  λ y. f u u' s (h.1 (true_over t p x u' u (Same-sym u u' s) y)),
)
Run_over (Choice' l a r b) p x v ends ends' u u' f s h = (Run_over a p x v ends ends' u u' f s h.0, Run_over b p x v ends ends' u u' f s h.1)
Run_over (Seq' l a r b) p x v ends ends' u u' f s h =
    Run_over a p x v _ _ u u' (λ w w' t g. Run_over b p x v ends ends' w w' f t g) s h
Run_over (If' t l a r b) p x v ends ends' u u' f s h = (
  formula_over _ _ _ _ t (each_all_of (AgreeKnown (λ i. ⊤) (λ i. ⊤) (assigned p x u) (assigned p x u')) t (λ i. (assigned_over p x u u' s i, λ k. k))) h.0,
  λ y. Run_over a p x v ends ends' u u' f s (h.1 (true_over t p x u' u (Same-sym u u' s) y)),
  λ n. Run_over b p x v ends ends' u u' f s (h.2 (λ y. n (true_over t p x u u' s y))),
)
