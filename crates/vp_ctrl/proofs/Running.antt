-- The runs of a program are those of its ways.
use Rattle.std.proofs.Common.{ℕ, ◌⊎◌, inl, inr, ⊎_elim, true, IsTrue, List, [], ◌∷◌, ◌++◌, map, refl, sym, ◌∙◌}
use Rattle.vp_terms.specs.Meaning.{value, holds}
use Rattle.vp_terms.specs.Control.{Values, assigned, Same, SameBut, Sets, Ctrl}
use Rattle.vp_terms.specs.Rational.{Rational, Equals}
use Rattle.vp_terms.specs.Variables.{all_variables, all_variables_of}
use Rattle.vp_terms.specs.declared.expr.Var.{Var}
use Rattle.vp_terms.specs.declared.expr.Var.TheVariants.{Param, State, Control, NextState, NextControl, Tau}
use Rattle.vp_terms.specs.declared.expr.Expr.{Expr}
use Rattle.vp_terms.specs.declared.expr.Expr.TheVariants.{Num, Var as Variable, Add', Sub', Mul', Pow'}
use Rattle.vp_terms.specs.declared.formula.Formula.{Formula}
use Rattle.vp_terms.specs.declared.formula.Formula.TheVariants.{True, Cmp as Compare, And', Or', Not'}
use Rattle.vp_terms.specs.declared.prog.Prog.{Prog}
use Rattle.vp_terms.specs.declared.prog.Prog.TheVariants.{Skip, Assign, Any, Test, Choice', Seq', If'}
use Rattle.vp_terms.proofs.RationalLaws.{chain, Equals-refl, Equals-sym}
use Rattle.vp_ctrl.specs.Ways.{Gives, GivesAny, Passes, Fails, Way, joined, ways}
use Rattle.vp_ctrl.proofs.Known.{MeaningDepends}
use Rattle.vp_ctrl.proofs.Truths.{both_true}

-- the statements of a way, one after the other, lead from u to v
abbrev pub Runs : Way → Values → Values → Values → Values → Type 0
Runs [] p x u v = Same u v
Runs (Gives c e ∷ w) p x u v = (t : Values) × Sets c (value e (assigned p x u)) u t × Runs w p x t v
Runs (GivesAny c ∷ w) p x u v = (t : Values) × SameBut c u t × Runs w p x t v
Runs (Passes f ∷ w) p x u v = IsTrue (holds f (assigned p x u)) × Runs w p x u v
Runs (Fails f ∷ w) p x u v = (¬ IsTrue (holds f (assigned p x u))) × Runs w p x u v

-- and so those of some way
abbrev pub SomeRuns : List Way → Values → Values → Values → Values → Type 0
SomeRuns [] p x u v = ⊥
SomeRuns (w ∷ ws) p x u v = Runs w p x u v ⊎ SomeRuns ws p x u v

-- ---- the same values

Same-refl : (u : Values) → Same u u
Same-refl u = record { each = λ k. Equals-refl (u k) }

Same-sym : (u v : Values) → Same u v → Same v u
Same-sym u v s = record { each = λ k. Equals-sym (u k) (v k) (s.each k) }

Same-trans : (u v w : Values) → Same u v → Same v w → Same u w
Same-trans u v w s t = record { each = λ k. chain (s.each k) (t.each k) }

SameBut_over : (c : ℕ) (u u' v v' : Values) → Same u u' → Same v v' → SameBut c u v → SameBut c u' v'
SameBut_over c u u' v v' s t b = record { others = λ k n. chain (Equals-sym (u k) (u' k) (s.each k)) (chain (b.others k n) (t.each k)) }

Sets_over : (c : ℕ) (q q' : Rational) (u u' v v' : Values) → Equals q q' → Same u u' → Same v v' → Sets c q u v → Sets c q' u' v'
Sets_over c q q' u u' v v' e s t b = record {
  others = SameBut_over c u u' v v' s t b.others;
  set = chain (Equals-sym (v c) (v' c) (t.each c)) (chain b.set e);
}

-- all variables pass the test that all do
all_pass : (e : Expr) → IsTrue (all_variables (λ v. true) e)
all_pass (Num r) = refl
all_pass (Variable v) = refl
all_pass (Add' l e k f) = both_true _ _ (all_pass e) (all_pass f)
all_pass (Sub' l e k f) = both_true _ _ (all_pass e) (all_pass f)
all_pass (Mul' l e k f) = both_true _ _ (all_pass e) (all_pass f)
all_pass (Pow' l e n) = all_pass e

all_pass_of : (f : Formula) → IsTrue (all_variables_of (λ v. true) f)
all_pass_of True = refl
all_pass_of (Compare c e f) = both_true _ _ (all_pass e) (all_pass f)
all_pass_of (And' l f k g) = both_true _ _ (all_pass_of f) (all_pass_of g)
all_pass_of (Or' l f k g) = both_true _ _ (all_pass_of f) (all_pass_of g)
all_pass_of (Not' l f) = all_pass_of f

assigned_over : (p x u u' : Values) → Same u u' → (v : Var) → Equals (assigned p x u v) (assigned p x u' v)
assigned_over p x u u' s (Param i) = Equals-refl (p i)
assigned_over p x u u' s (State i) = Equals-refl (x i)
assigned_over p x u u' s (Control i) = s.each i
assigned_over p x u u' s (NextState i) = Equals-refl (assigned p x u (NextState i))
assigned_over p x u u' s (NextControl i) = Equals-refl (assigned p x u (NextControl i))
assigned_over p x u u' s Tau = Equals-refl (assigned p x u Tau)

module _ (depends : MeaningDepends) (p x : Values) where
  value_at_same : (e : Expr) (u u' : Values) → Same u u' → Equals (value e (assigned p x u)) (value e (assigned p x u'))
  value_at_same e u u' s = depends.values (λ v. true) e (assigned p x u) (assigned p x u') (all_pass e) (λ v h. assigned_over p x u u' s v)

  true_over : (f : Formula) (u u' : Values) → Same u u' → IsTrue (holds f (assigned p x u)) → IsTrue (holds f (assigned p x u'))
  true_over f u u' s h = sym (depends.truth (λ v. true) f (assigned p x u) (assigned p x u') (all_pass_of f) (λ v k. assigned_over p x u u' s v)) ∙ h

  pub Runs_over : (w : Way) (u u' v v' : Values) → Same u u' → Same v v' → Runs w p x u v → Runs w p x u' v'
  Runs_over [] u u' v v' s t h = Same-trans u' u v' (Same-sym u u' s) (Same-trans u v v' h t)
  Runs_over (Gives c e ∷ w) u u' v v' s t h = (
    h.0,
    Sets_over c _ _ u u' h.0 h.0 (value_at_same e u u' s) s (Same-refl h.0) h.1,
    Runs_over w h.0 h.0 v v' (Same-refl h.0) t h.2,
  )
  Runs_over (GivesAny c ∷ w) u u' v v' s t h = (h.0, SameBut_over c u u' h.0 h.0 s (Same-refl h.0) h.1, Runs_over w h.0 h.0 v v' (Same-refl h.0) t h.2)
  Runs_over (Passes f ∷ w) u u' v v' s t h = (true_over f u u' s h.0, Runs_over w u u' v v' s t h.1)
  Runs_over (Fails f ∷ w) u u' v v' s t h = ((λ y. h.0 (true_over f u' u (Same-sym u u' s) y)), Runs_over w u u' v v' s t h.1)

  -- one way behind another
  run_both : (w b : Way) (u t v : Values) → Runs w p x u t → Runs b p x t v → Runs (w ++ b) p x u v
  run_both [] b u t v h k = Runs_over b t u v v (Same-sym u t h) (Same-refl v) k
  run_both (Gives c e ∷ w) b u t v h k = (h.0, h.1, run_both w b h.0 t v h.2 k)
  run_both (GivesAny c ∷ w) b u t v h k = (h.0, h.1, run_both w b h.0 t v h.2 k)
  run_both (Passes f ∷ w) b u t v h k = (h.0, run_both w b u t v h.1 k)
  run_both (Fails f ∷ w) b u t v h k = (h.0, run_both w b u t v h.1 k)

  run_apart : (w b : Way) (u v : Values) → Runs (w ++ b) p x u v → (t : Values) × Runs w p x u t × Runs b p x t v
  run_apart [] b u v h = (u, Same-refl u, h)
  run_apart (Gives c e ∷ w) b u v h = let r = run_apart w b h.0 v h.2 in (r.0, (h.0, h.1, r.1), r.2)
  run_apart (GivesAny c ∷ w) b u v h = let r = run_apart w b h.0 v h.2 in (r.0, (h.0, h.1, r.1), r.2)
  run_apart (Passes f ∷ w) b u v h = let r = run_apart w b u v h.1 in (r.0, (h.0, r.1), r.2)
  run_apart (Fails f ∷ w) b u v h = let r = run_apart w b u v h.1 in (r.0, (h.0, r.1), r.2)

  -- some way of two lists
  some_left : (ws vs : List Way) (u v : Values) → SomeRuns ws p x u v → SomeRuns (ws ++ vs) p x u v
  some_left [] vs u v h = absurd h
  some_left (w ∷ ws) vs u v h = ⊎_elim (λ g. inl g) (λ g. inr (some_left ws vs u v g)) h

  some_right : (ws vs : List Way) (u v : Values) → SomeRuns vs p x u v → SomeRuns (ws ++ vs) p x u v
  some_right [] vs u v h = h
  some_right (w ∷ ws) vs u v h = inr (some_right ws vs u v h)

  some_of : (ws vs : List Way) (u v : Values) → SomeRuns (ws ++ vs) p x u v → SomeRuns ws p x u v ⊎ SomeRuns vs p x u v
  some_of [] vs u v h = inr h
  some_of (w ∷ ws) vs u v h = ⊎_elim (λ g. inl (inl g)) (λ g. ⊎_elim (λ k. inl (inr k)) (λ k. inr k) (some_of ws vs u v g)) h

  -- some pair of ways
  with_one : (w : Way) (vs : List Way) (u t v : Values) → Runs w p x u t → SomeRuns vs p x t v → SomeRuns (map (λ b. w ++ b) vs) p x u v
  with_one w [] u t v h k = absurd k
  with_one w (b ∷ vs) u t v h k = ⊎_elim (λ g. inl (run_both w b u t v h g)) (λ g. inr (with_one w vs u t v h g)) k

  one_apart : (w : Way) (vs : List Way) (u v : Values) → SomeRuns (map (λ b. w ++ b) vs) p x u v → (t : Values) × Runs w p x u t × SomeRuns vs p x t v
  one_apart w [] u v h = absurd h
  one_apart w (b ∷ vs) u v h =
      ⊎_elim (λ g. let r = run_apart w b u v g in (r.0, r.1, inl r.2)) (λ g. let r = one_apart w vs u v g in (r.0, r.1, inr r.2)) h

  some_both : (ws vs : List Way) (u t v : Values) → SomeRuns ws p x u t → SomeRuns vs p x t v → SomeRuns (joined ws vs) p x u v
  some_both [] vs u t v h k = absurd h
  some_both (w ∷ ws) vs u t v h k =
      ⊎_elim
      (λ g. some_left (map (λ b. w ++ b) vs) (joined ws vs) u v (with_one w vs u t v g k))
      (λ g. some_right (map (λ b. w ++ b) vs) (joined ws vs) u v (some_both ws vs u t v g k))
      h

  some_apart : (ws vs : List Way) (u v : Values) → SomeRuns (joined ws vs) p x u v → (t : Values) × SomeRuns ws p x u t × SomeRuns vs p x t v
  some_apart [] vs u v h = absurd h
  some_apart (w ∷ ws) vs u v h =
      ⊎_elim
      (λ g. let r = one_apart w vs u v g in (r.0, inl r.1, r.2))
      (λ g. let r = some_apart ws vs u v g in (r.0, inr r.1, r.2))
      (some_of (map (λ b. w ++ b) vs) (joined ws vs) u v h)

  -- a test before each of them
  some_passes : (f : Formula) (ws : List Way) (u v : Values) → IsTrue (holds f (assigned p x u)) → SomeRuns ws p x u v → SomeRuns (map (λ w. Passes f ∷ w) ws) p x u v
  some_passes f [] u v h k = absurd k
  some_passes f (w ∷ ws) u v h k = ⊎_elim (λ g. inl (h, g)) (λ g. inr (some_passes f ws u v h g)) k

  some_passed : (f : Formula) (ws : List Way) (u v : Values) → SomeRuns (map (λ w. Passes f ∷ w) ws) p x u v → IsTrue (holds f (assigned p x u)) × SomeRuns ws p x u v
  some_passed f [] u v h = absurd h
  some_passed f (w ∷ ws) u v h = ⊎_elim (λ g. (g.0, inl g.1)) (λ g. let r = some_passed f ws u v g in (r.0, inr r.1)) h

  some_fails : (f : Formula) (ws : List Way) (u v : Values) → (¬ IsTrue (holds f (assigned p x u))) → SomeRuns ws p x u v → SomeRuns (map (λ w. Fails f ∷ w) ws) p x u v
  some_fails f [] u v h k = absurd k
  some_fails f (w ∷ ws) u v h k = ⊎_elim (λ g. inl (h, g)) (λ g. inr (some_fails f ws u v h g)) k

  some_failed : (f : Formula) (ws : List Way) (u v : Values) → SomeRuns (map (λ w. Fails f ∷ w) ws) p x u v → (¬ IsTrue (holds f (assigned p x u))) × SomeRuns ws p x u v
  some_failed f [] u v h = absurd h
  some_failed f (w ∷ ws) u v h = ⊎_elim (λ g. (g.0, inl g.1)) (λ g. let r = some_failed f ws u v g in (r.0, inr r.1)) h

  -- a program leads from u to v exactly where some way does
  pub ctrl_runs : (prog : Prog) (u v : Values) → Ctrl prog p x u v → SomeRuns (ways prog) p x u v
  ctrl_runs Skip u v h = inl h
  ctrl_runs (Assign c e) u v h = inl (v, h, Same-refl v)
  ctrl_runs (Any c) u v h = inl (v, h, Same-refl v)
  ctrl_runs (Test f) u v h = inl (h.1, h.0)
  ctrl_runs (Choice' l a r b) u v h =
      ⊎_elim (λ g. some_left (ways a) (ways b) u v (ctrl_runs a u v g)) (λ g. some_right (ways a) (ways b) u v (ctrl_runs b u v g)) h
  ctrl_runs (Seq' l a r b) u v h = some_both (ways a) (ways b) u h.0 v (ctrl_runs a u h.0 h.1) (ctrl_runs b h.0 v h.2)
  ctrl_runs (If' f l a r b) u v h =
      let yes = map (λ w. Passes f ∷ w) (ways a) in
      let no = map (λ w. Fails f ∷ w) (ways b) in
      ⊎_elim
      (λ g. some_left yes no u v (some_passes f (ways a) u v g.0 (ctrl_runs a u v g.1)))
      (λ g. some_right yes no u v (some_fails f (ways b) u v g.0 (ctrl_runs b u v g.1)))
      h

  pub runs_ctrl : (prog : Prog) (u v : Values) → SomeRuns (ways prog) p x u v → Ctrl prog p x u v
  runs_ctrl Skip u v h = ⊎_elim (λ g. g) (λ g. absurd g) h
  runs_ctrl (Assign c e) u v h =
      ⊎_elim (λ g. Sets_over c _ _ u u g.0 v (Equals-refl (value e (assigned p x u))) (Same-refl u) g.2 g.1) (λ g. absurd g) h
  runs_ctrl (Any c) u v h = ⊎_elim (λ g. SameBut_over c u u g.0 v (Same-refl u) g.2 g.1) (λ g. absurd g) h
  runs_ctrl (Test f) u v h = ⊎_elim (λ g. (g.1, g.0)) (λ g. absurd g) h
  runs_ctrl (Choice' l a r b) u v h = ⊎_elim (λ g. inl (runs_ctrl a u v g)) (λ g. inr (runs_ctrl b u v g)) (some_of (ways a) (ways b) u v h)
  runs_ctrl (Seq' l a r b) u v h = let s = some_apart (ways a) (ways b) u v h in (s.0, runs_ctrl a u s.0 s.1, runs_ctrl b s.0 v s.2)
  runs_ctrl (If' f l a r b) u v h =
      let yes = map (λ w. Passes f ∷ w) (ways a) in
      let no = map (λ w. Fails f ∷ w) (ways b) in
      ⊎_elim
      (λ g. let s = some_passed f (ways a) u v g in inl (s.0, runs_ctrl a u v s.1))
      (λ g. let s = some_failed f (ways b) u v g in inr (s.0, runs_ctrl b u v s.1))
      (some_of yes no u v h)
