-- What expressions, formulas and programs mean depends on the variables that they have.
use Rattle.std.proofs.Common.{◌≡◌, Bool, inl, inr, ⊎_elim, IsTrue, sym, ◌∙◌}
use Rattle.vp_terms.specs.Rational.{Equals}
use Rattle.vp_terms.specs.Meaning.{Assignment, value, holds}
use Rattle.vp_terms.specs.Control.{Values, AgreeBelow, assigned, Ctrl}
use Rattle.vp_terms.specs.Variables.{all_variables, all_variables_of}
use Rattle.vp_terms.specs.WellFormed.{in_model, is_allowed, is_good_expr, is_good_formula, is_good_prog}
use Rattle.vp_terms.specs.declared.expr.Places.{Places}
use Rattle.vp_terms.specs.declared.expr.Var.{Var}
use Rattle.vp_terms.specs.declared.expr.Var.TheVariants.{Param, State, Control, NextState, NextControl, Tau}
use Rattle.vp_terms.specs.declared.expr.Expr.{Expr}
use Rattle.vp_terms.specs.declared.formula.Formula.{Formula}
use Rattle.vp_terms.specs.declared.prog.Prog.{Prog}
use Rattle.vp_terms.specs.declared.prog.Prog.TheVariants.{Skip, Assign, Any, Test, Choice', Seq', If'}
use Rattle.vp_terms.proofs.RationalLaws.{Equals-refl, Equals-trans}
use Rattle.vp_terms.proofs.Agreeing.{Agree, both, each_of, each_of_formula, good_variables, good_variables_of, value_over, holds_over}
use Rattle.vp_terms.proofs.Standing.{below}

-- values are equal where the assignments agree on the variables that pass a test that all pass
pub value_by_variables : (t : Var → Bool) (e : Expr) (a b : Assignment) → IsTrue (all_variables t e) → ((v : Var) → IsTrue (t v) → Equals (a v) (b v)) → Equals (value e a) (value e b)
value_by_variables t e a b g h = value_over e a b (each_of t (Agree a b) e h g)

pub truth_by_variables : (t : Var → Bool) (f : Formula) (a b : Assignment) → IsTrue (all_variables_of t f) → ((v : Var) → IsTrue (t v) → Equals (a v) (b v)) → holds f a ≡ holds f b
truth_by_variables t f a b g h = holds_over f a b (each_of_formula t (Agree a b) f h g)

assigned_alike : (places : Places) (p p' x x' u : Values) → AgreeBelow places.params p p' → AgreeBelow places.states x x'
    → (v : Var) → IsTrue (is_allowed in_model places v) → Equals (assigned p x u v) (assigned p' x' u v)
assigned_alike places p p' x x' u ps xs (Param i) g = ps i (below i places.params g)
assigned_alike places p p' x x' u ps xs (State i) g = xs i (below i places.states g)
assigned_alike places p p' x x' u ps xs (Control i) g = Equals-refl (u i)
assigned_alike places p p' x x' u ps xs (NextState i) g = absurd (cc)
assigned_alike places p p' x x' u ps xs (NextControl i) g = absurd (cc)
assigned_alike places p p' x x' u ps xs Tau g = absurd (cc)

value_in_model : (places : Places) (e : Expr) (p p' x x' u : Values) → IsTrue (is_good_expr in_model places e) → AgreeBelow places.params p p' → AgreeBelow places.states x x'
    → Equals (value e (assigned p x u)) (value e (assigned p' x' u))
value_in_model places e p p' x x' u g ps xs =
    value_by_variables (is_allowed in_model places) e _ _ (good_variables in_model places e g) (assigned_alike places p p' x x' u ps xs)

truth_in_model : (places : Places) (f : Formula) (p p' x x' u : Values) → IsTrue (is_good_formula in_model places f) → AgreeBelow places.params p p' → AgreeBelow places.states x x'
    → holds f (assigned p x u) ≡ holds f (assigned p' x' u)
truth_in_model places f p p' x x' u g ps xs =
    truth_by_variables (is_allowed in_model places) f _ _ (good_variables_of in_model places f g) (assigned_alike places p p' x x' u ps xs)

-- a program relates the same controls where the model's parameters and states have equal values
pub program_by_variables : (places : Places) (prog : Prog) (p p' x x' u v : Values) → IsTrue (is_good_prog places prog) → AgreeBelow places.params p p' → AgreeBelow places.states x x'
    → Ctrl prog p x u v → Ctrl prog p' x' u v
program_by_variables places Skip p p' x x' u v g ps xs h = h
program_by_variables places (Assign c e) p p' x x' u v g ps xs h =
    record { others = h.others; set = Equals-trans (v c) _ _ h.set (value_in_model places e p p' x x' u (both _ _ g).1 ps xs) }
program_by_variables places (Any c) p p' x x' u v g ps xs h = h
program_by_variables places (Test f) p p' x x' u v g ps xs h = (h.0, sym (truth_in_model places f p p' x x' u g ps xs) ∙ h.1)
program_by_variables places (Choice' l a r b) p p' x x' u v g ps xs h =
    let s = both _ _ g in
    ⊎_elim (λ c. inl (program_by_variables places a p p' x x' u v s.0 ps xs c)) (λ c. inr (program_by_variables places b p p' x x' u v s.1 ps xs c)) h
program_by_variables places (Seq' l a r b) p p' x x' u v g ps xs h =
    let s = both _ _ g in
    (h.0, program_by_variables places a p p' x x' u h.0 s.0 ps xs h.1, program_by_variables places b p p' x x' h.0 v s.1 ps xs h.2)
program_by_variables places (If' f l a r b) p p' x x' u v g ps xs h =
    let s = both _ _ g in
    let parts = both _ _ s.1 in
    let e = truth_in_model places f p p' x x' u s.0 ps xs in
    ⊎_elim
    (λ c. inl (sym e ∙ c.0, program_by_variables places a p p' x x' u v parts.0 ps xs c.1))
    (λ c. inr ((λ y. c.0 (e ∙ y)), program_by_variables places b p p' x x' u v parts.1 ps xs c.1))
    h
