-- The two conjuncts of the time.
use Rattle.std.proofs.Common.{◌≡◌, ℕ, Bool, true, false, IsTrue, List, [], ◌∷◌, map, refl, sym, ◌∙◌, subst, nat_lt}
use Rattle.std.specs.Prelude.{◌↔◌}
use Rattle.vp_terms.specs.Meaning.{Assignment, compares, value}
use Rattle.vp_terms.specs.Rational.{difference}
use Rattle.vp_terms.specs.Places.{place}
use Rattle.vp_terms.specs.Variables.{all_variables}
use Rattle.vp_terms.specs.WellFormed.{in_time, is_allowed, is_good_expr}
use Rattle.vp_terms.specs.declared.expr.Expr.{Expr}
use Rattle.vp_terms.specs.declared.expr.Places.{Places}
use Rattle.vp_terms.specs.declared.expr.Var.{Var}
use Rattle.vp_terms.specs.declared.expr.Var.TheVariants.{Param, State, Control, NextState, NextControl, Tau}
use Rattle.vp_terms.specs.declared.formula.Cmp.TheVariants as cmp
use Rattle.vp_terms.specs.declared.package.Plant.{Plant}
use Rattle.vp_poly.specs.Value.{Point}
use Rattle.vp_logic.specs.declared.norm.Norm.{Norm}
use Rattle.vp_logic.specs.declared.norm.Rel.TheVariants as rel
use Rattle.vp_logic.specs.Sized.{EachHasOnly, EachIsSized, IsSized, TreeHasOnly}
use Rattle.vp_logic.specs.Tree.{tree}
use Rattle.vp_logic.specs.Truth.{parts_hold, rel_holds, tree_holds}
use Rattle.vp_logic.proofs.Comparing.{ge_is}
use Rattle.vp_monitor.specs.Meaning.{AllowsPlant}
use Rattle.vp_monitor.proofs.Forming.{Variables}
use Rattle.vp_monitor.proofs.Slacking.{both_yes, yes_both}

-- parameters and `tau`
abbrev pub is_in_time : Places → Var → Bool
is_in_time p (Param i) = nat_lt i p.params
is_in_time p (State i) = false
is_in_time p (Control i) = false
is_in_time p (NextState i) = false
is_in_time p (NextControl i) = false
is_in_time p Tau = true

pub time_used : (p : Places) (allowed : ℕ → Bool) → AllowsPlant p allowed → (v : Var) → IsTrue (is_in_time p v) → IsTrue (allowed (place p v))
time_used p allowed h (Param i) u = h (Param i) u
time_used p allowed h (State i) u = absurd (cc)
time_used p allowed h (Control i) u = absurd (cc)
time_used p allowed h (NextState i) u = absurd (cc)
time_used p allowed h (NextControl i) u = absurd (cc)
time_used p allowed h Tau u = h Tau refl

allowed_timed : (p : Places) (v : Var) → IsTrue (is_allowed in_time p v) → IsTrue (is_in_time p v)
allowed_timed p (Param i) h = h
allowed_timed p (State i) h = absurd (cc)
allowed_timed p (Control i) h = absurd (cc)
allowed_timed p (NextState i) h = absurd (cc)
allowed_timed p (NextControl i) h = absurd (cc)
allowed_timed p Tau h = absurd (cc)

pub timed_variables : Variables → (p : Places) (e : Expr) → IsTrue (is_good_expr in_time p e) → IsTrue (all_variables (is_in_time p) e)
timed_variables law p e g = law.weaker (is_allowed in_time p) (is_in_time p) e (allowed_timed p) (law.expressions in_time p e g)

pub time_holds : (plant : Plant) (a : Assignment) (low high : Norm) (both : List Norm) (z : Point) → both ≡ low ∷ high ∷ [] → tree_holds (tree low) z ≡ rel_holds rel.Ge (difference (a Tau) (value plant.low a)) → tree_holds (tree high) z ≡ rel_holds rel.Ge (difference (value plant.high a) (a Tau)) →
    IsTrue (parts_hold (map tree both) z) ↔ (IsTrue (compares cmp.Le (value plant.low a) (a Tau)) × IsTrue (compares cmp.Le (a Tau) (value plant.high a)))
time_holds plant a low high both z e h k =
    let l = h ∙ ge_is (a Tau) (value plant.low a) in
    let m = k ∙ ge_is (value plant.high a) (a Tau) in
    subst (λ (ns : List Norm). IsTrue (parts_hold (map tree ns) z) ↔ (IsTrue (compares cmp.Le (value plant.low a) (a Tau)) × IsTrue (compares cmp.Le (a Tau) (value plant.high a)))) (sym e)
    (λ y. (let b = both_yes (tree_holds (tree low) z) (tree_holds (tree high) z) y in (sym l ∙ b.0, sym m ∙ b.1)), λ y. yes_both (tree_holds (tree low) z) (tree_holds (tree high) z) (l ∙ y.0) (m ∙ y.1))

pub time_sized : (n : ℕ) (low high : Norm) (both : List Norm) → both ≡ low ∷ high ∷ [] → IsSized n (tree low) → IsSized n (tree high) → EachIsSized n (map tree both)
time_sized n low high both e h k = subst (λ (ns : List Norm). EachIsSized n (map tree ns)) (sym e) (h, (k, tt))

pub time_only : (allowed : ℕ → Bool) (low high : Norm) (both : List Norm) → both ≡ low ∷ high ∷ [] → TreeHasOnly allowed (tree low) → TreeHasOnly allowed (tree high) → EachHasOnly allowed (map tree both)
time_only allowed low high both e h k = subst (λ (ns : List Norm). EachHasOnly allowed (map tree ns)) (sym e) (h, (k, tt))
