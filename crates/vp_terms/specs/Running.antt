-- Programs over fractions: what a program may change, and which values its runs meet.
use Rattle.std.specs.Prelude.{ℕ, ◌+◌, ◌<◌, ◌≤◌, ⊤, Bool, false, ◌||◌, ◌==◌, IsTrue, List}
use Rattle.vp_terms.specs.Rational.{Equals}
use Rattle.vp_terms.specs.Meaning.{value, holds}
use Rattle.vp_terms.specs.Control.{Values, assigned, Sets}
use Rattle.vp_terms.specs.Evaluation.{value_in, PartsAreSmall, FormulaIsSmall}
use Rattle.vp_terms.specs.declared.ratio.Ratio.{Ratio}
use Rattle.vp_terms.specs.declared.expr.Places.{Places}
use Rattle.vp_terms.specs.declared.prog.Prog.{Prog}
use Rattle.vp_terms.specs.declared.prog.Prog.TheVariants.{Skip, Assign, Any, Test, Choice', Seq', If'}

-- fractions for all parameters, states and controls, in the order of places, and for the controls
-- afterwards stand for the values p, x, u and v; no other control changes
pub record StandFor (places : Places) (values after : List Ratio) (p x u v : Values) : Type 0 where
  pub params : (k : ℕ) → k < places.params → Equals (p k) (value_in values k)
  pub states : (k : ℕ) → k < places.states → Equals (x k) (value_in values (places.params + k))
  pub controls : (k : ℕ) → k < places.controls → Equals (u k) (value_in values (places.params + places.states + k))
  pub afterwards : (k : ℕ) → k < places.controls → Equals (v k) (value_in after k)
  pub others : (k : ℕ) → places.controls ≤ k → Equals (u k) (v k)

-- whether some run may give the control any value
abbrev pub may_give : Prog → ℕ → Bool
may_give Skip k = false
may_give (Assign c e) k = false
may_give (Any c) k = c == k
may_give (Test f) k = false
may_give (Choice' l a r b) k = may_give a k || may_give b k
may_give (Seq' l a r b) k = may_give a k || may_give b k
may_give (If' f l a r b) k = may_give a k || may_give b k

-- whether some run may change the control
abbrev pub may_change : Prog → ℕ → Bool
may_change Skip k = false
may_change (Assign c e) k = c == k
may_change (Any c) k = c == k
may_change (Test f) k = false
may_change (Choice' l a r b) k = may_change a k || may_change b k
may_change (Seq' l a r b) k = may_change a k || may_change b k
may_change (If' f l a r b) k = may_change a k || may_change b k

-- on no way through the program a control that `:= *` gave is changed again
abbrev pub KeepsGiven : Prog → Type 0
KeepsGiven Skip = ⊤
KeepsGiven (Assign c e) = ⊤
KeepsGiven (Any c) = ⊤
KeepsGiven (Test f) = ⊤
KeepsGiven (Choice' l a r b) = KeepsGiven a × KeepsGiven b
KeepsGiven (Seq' l a r b) = KeepsGiven a × KeepsGiven b × ((k : ℕ) → IsTrue (may_give a k) → ¬ IsTrue (may_change b k))
KeepsGiven (If' f l a r b) = KeepsGiven a × KeepsGiven b

-- on each run, where `:= *` gives the value in v, the expressions and formulas that are met have
-- small values, and this holds of the controls at its end
abbrev pub RunIsSmall : Prog → Values → Values → Values → (Values → Type 0) → Values → Type 0
RunIsSmall Skip p x v ends u = ends u
RunIsSmall (Assign c e) p x v ends u =
    PartsAreSmall (λ i. ⊤) (assigned p x u) e × ((w : Values) → Sets c (value e (assigned p x u)) u w → ends w)
RunIsSmall (Any c) p x v ends u = (w : Values) → Sets c (v c) u w → ends w
RunIsSmall (Test f) p x v ends u = FormulaIsSmall (λ i. ⊤) (assigned p x u) f × (IsTrue (holds f (assigned p x u)) → ends u)
RunIsSmall (Choice' l a r b) p x v ends u = RunIsSmall a p x v ends u × RunIsSmall b p x v ends u
RunIsSmall (Seq' l a r b) p x v ends u = RunIsSmall a p x v (RunIsSmall b p x v ends) u
RunIsSmall (If' f l a r b) p x v ends u =
    FormulaIsSmall (λ i. ⊤) (assigned p x u) f
    × (IsTrue (holds f (assigned p x u)) → RunIsSmall a p x v ends u)
    × ((¬ IsTrue (holds f (assigned p x u))) → RunIsSmall b p x v ends u)
