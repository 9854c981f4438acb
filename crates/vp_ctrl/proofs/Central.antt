-- Some path holds exactly where the controller leads from the controls to the next ones.
use Rattle.std.proofs.Common.{◌≡◌, ℕ, ◌<◌, ◌≤◌, inl, inr, ⊎_elim, ◌↔◌, Bool, true, false, not, ◌&&◌, ◌==◌, IsTrue, List, [], ◌∷◌, map, None, refl, sym, ap, ap₂, ◌∙◌, arith}
use Rattle.std.specs.List.{list_all, flat_map, range_with_len}
use Rattle.vp_terms.specs.Rational.{Rational}
use Rattle.vp_terms.specs.Meaning.{Assignment, holds}
use Rattle.vp_terms.specs.Control.{AgreeFrom, Values, Ctrl, changing}
use Rattle.vp_terms.specs.Places.{has_variable, place_count}
use Rattle.vp_terms.specs.Variables.{all_variables, all_variables_of}
use Rattle.vp_terms.specs.WellFormed.{in_model, is_good_expr, is_good_formula, is_good_prog}
use Rattle.vp_terms.specs.declared.expr.Places.{Places}
use Rattle.vp_terms.specs.declared.expr.Var.{Var}
use Rattle.vp_terms.specs.declared.expr.Var.TheVariants.{Param, State, Control, NextState, NextControl, Tau}
use Rattle.vp_terms.specs.declared.expr.Expr.{Expr}
use Rattle.vp_terms.specs.declared.expr.Expr.TheVariants.{Var as Variable}
use Rattle.vp_terms.specs.declared.formula.Formula.{Formula}
use Rattle.vp_terms.specs.declared.prog.Prog.{Prog}
use Rattle.vp_poly.specs.Coefficient.{Coefficients}
use Rattle.vp_poly.specs.Points.{IsAt}
use Rattle.vp_poly.specs.Replaced.{replaced}
use Rattle.vp_poly.specs.Value.{Point}
use Rattle.vp_poly.specs.Weights.{Weights}
use Rattle.vp_logic.specs.Normal.{IsNormal}
use Rattle.vp_logic.specs.Tree.{Tree, negated}
use Rattle.vp_logic.specs.Truth.{tree_holds, parts_hold}
use Rattle.vp_ctrl.specs.declared.path.Path.{Path}
use Rattle.vp_ctrl.specs.Ways.{Gives, GivesAny, Passes, Fails, Way, ways}
use Rattle.vp_ctrl.specs.Hidden.{hidden_on, first_hidden}
use Rattle.vp_ctrl.specs.Following.{StandIns, Condition, after, after_all, at_first, condition_holds, conditions, conditions_hold, equation, instead, is_given_last, of_formula, stands, tests}
use Rattle.vp_ctrl.specs.Paths.{IsPart, AreParts, ArePaths, parts_of, some_path_holds}
use Rattle.vp_ctrl.specs.Walked.{IsGoodWay, AreGoodWays}
use Rattle.vp_ctrl.specs.Widths.{all_conditions, condition_fits, ways_are_narrow}
use Rattle.vp_ctrl.proofs.Good.{good_ways, path_variables, path_variables_of}
use Rattle.vp_ctrl.proofs.Known.{Meant}
use Rattle.vp_ctrl.proofs.Meaning.{all_apart, all_both, all_listed, none_first, way_leads, leads_way}
use Rattle.vp_ctrl.proofs.Running.{SomeRuns, ctrl_runs, runs_ctrl}
use Rattle.vp_ctrl.proofs.Standing.{path_in_model, path_in_model_of}
use Rattle.vp_ctrl.proofs.Truths as truths

-- ---- the conditions of a well formed way have variables of the model alone

has_own : Places → Condition → Bool
has_own p c = all_variables_of (has_variable p) c.formula

-- what controls stand for has variables of the model
record IsOwn (p : Places) (s : StandIns) : Type 0 where
  each : (k : ℕ) → k < p.controls → IsTrue (all_variables (has_variable p) (s k))

module _ (meant : Meant) (p : Places) where
  own_stands : (s : StandIns) → IsOwn p s → (v : Var) → IsTrue (has_variable p v) → IsTrue (all_variables (has_variable p) (stands s v))
  own_stands s o (Param i) h = h
  own_stands s o (State i) h = h
  own_stands s o (Control i) h = o.each i (truths.below i p.controls h)
  own_stands s o (NextState i) h = h
  own_stands s o (NextControl i) h = h
  own_stands s o Tau h = refl

  own_side : (s : StandIns) (e : Expr) → IsOwn p s → IsTrue (is_good_expr in_model p e) → IsTrue (all_variables (has_variable p) (replaced (stands s) e))
  own_side s e o g = meant.composes.variables (has_variable p) (has_variable p) (stands s) e (own_stands s o) (path_in_model p e (path_variables p e g))

  own_test : (s : StandIns) (f : Formula) (d : Bool) → IsOwn p s → IsTrue (is_good_formula in_model p f) → IsTrue (has_own p (of_formula s f d))
  unfolding has_own
  own_test s f d o g = meant.composes.formula_variables (has_variable p) (has_variable p) (stands s) f (own_stands s o) (path_in_model_of p f (path_variables_of p f g))

  own_instead : (s : StandIns) (c : ℕ) (e : Expr) → IsOwn p s → IsTrue (all_variables (has_variable p) e) → IsOwn p (instead s c e)
  own_instead s c e o h = record { each = λ k l. cases k l (c == k) refl }
    where
      cases : (k : ℕ) → k < p.controls → (b : Bool) → (c == k) ≡ b → IsTrue (all_variables (has_variable p) (instead s c e k))
      cases k l true r = rw r h
      cases k l false r = rw r (o.each k l)

  own_tests : (w : Way) (s : StandIns) → IsGoodWay p w → IsOwn p s → IsTrue (list_all (has_own p) (tests s w)) × IsOwn p (after_all s w)
  own_tests [] s g o = (refl, o)
  own_tests (Gives c e ∷ w) s g o = own_tests w (after s (Gives c e)) g.1 (own_instead s c (replaced (stands s) e) o (own_side s e o g.0.1))
  own_tests (GivesAny c ∷ w) s g o = own_tests w (after s (GivesAny c)) g.1 (own_instead s c (Variable (NextControl c)) o (truths.is_below c p.controls g.0))
  own_tests (Passes f ∷ w) s g o = let r = own_tests w s g.1 o in (truths.both_true _ _ (own_test s f false o g.0) r.0, r.1)
  own_tests (Fails f ∷ w) s g o = let r = own_tests w s g.1 o in (truths.both_true _ _ (own_test s f true o g.0) r.0, r.1)

  own_equation : (s : StandIns) (w : Way) (k : ℕ) → k < p.controls → IsOwn p s → IsTrue (list_all (has_own p) (equation s w k))
  unfolding has_own
  own_equation s w k l o = cases (is_given_last k false w) refl
    where
      cases : (b : Bool) → is_given_last k false w ≡ b → IsTrue (list_all (has_own p) (equation s w k))
      cases true r = rw r refl
      cases false r = rw r (truths.both_true _ true (truths.both_true _ _ (truths.is_below k p.controls l) (o.each k l)) refl)

  own_first : IsOwn p at_first
  own_first = record { each = λ k l. truths.is_below k p.controls l }

  own_conditions : (w : Way) → IsGoodWay p w → IsTrue (list_all (has_own p) (conditions p.controls w))
  own_conditions w g =
      let r = own_tests w at_first g own_first in
      let q = equation (after_all at_first w) w in
      all_both (has_own p) (tests at_first w) (flat_map q (range_with_len 0 p.controls)) r.0
      (all_listed (has_own p) q p.controls 0 (λ k a b. own_equation (after_all at_first w) w k (omega arith) r.1))

  -- ---- each path holds where the conditions of its way do

  module _ (few : place_count p ≤ 32) (z : Point) (a : Assignment) (at : IsAt p z a) where
    part_holds : (c : Condition) (t : Tree) → IsPart p c t → condition_fits p c ≡ true → IsTrue (has_own p c) → tree_holds t z ≡ condition_holds a c
    unfolding has_own
    part_holds c t h f v = cases c.denied refl
      where
        held : tree_holds h.0 z ≡ holds c.formula a
        held = meant.forms.formulas p few z a at c.formula h.0 v f h.2

        cases : (b : Bool) → c.denied ≡ b → tree_holds t z ≡ condition_holds a c
        cases true r =
            let e : t ≡ negated h.0 = rw r at h.1 in
            rw r (ap (λ (u : Tree). tree_holds u z) e ∙ meant.forms.negated h.0 z ∙ ap not held)
        cases false r =
            let e : t ≡ h.0 = rw r at h.1 in
            rw r (ap (λ (u : Tree). tree_holds u z) e ∙ held)

    parts_as : (cs : List Condition) (ts : List Tree) → AreParts p cs ts → list_all (condition_fits p) cs ≡ true → IsTrue (list_all (has_own p) cs) → parts_hold ts z ≡ conditions_hold cs a
    parts_as [] [] h f v = refl
    parts_as [] (t ∷ ts) h f v = absurd h
    parts_as (c ∷ cs) [] h f v = absurd h
    parts_as (c ∷ cs) (t ∷ ts) h f v =
        let g = truths.both (condition_fits p c) _ f in
        let w = truths.both (has_own p c) _ v in
        ap₂ (λ x y. x && y) (part_holds c t h.0 g.0 w.0) (parts_as cs ts h.1 g.1 w.1)

    path_as : (w : Way) (x : Path) → IsGoodWay p w → AreParts p (conditions p.controls w) (parts_of x) → list_all (condition_fits p) (conditions p.controls w) ≡ true → parts_hold (parts_of x) z ≡ conditions_hold (conditions p.controls w) a
    path_as w x g h f = parts_as (conditions p.controls w) (parts_of x) h f (own_conditions w g)

  -- ---- some path

  module _ (few : place_count p ≤ 32) (z : Point) (q x u v y : Values) (t : Rational) (at : IsAt p z (changing q x u v t y)) (agree : AgreeFrom p.controls u v) where
    path_runs : (ws : List Way) (xs : List Path) → AreGoodWays p ws → ArePaths p ws xs → list_all (condition_fits p) (all_conditions p ws) ≡ true → IsTrue (some_path_holds z xs) → SomeRuns ws q x u v
    path_runs [] [] g h f k = absurd (cc)
    path_runs [] (b ∷ xs) g h f k = absurd h
    path_runs (w ∷ ws) [] g h f k = absurd h
    path_runs (w ∷ ws) (b ∷ xs) g h f k =
        let s = all_apart (condition_fits p) (conditions p.controls w) (all_conditions p ws) f in
        ⊎_elim
        (λ i. inl (way_leads meant p q x u v y t agree w g.0 (sym (path_as few z (changing q x u v t y) at w b g.0 h.0 s.0) ∙ i)))
        (λ i. inr (path_runs ws xs g.1 h.1 s.1 i))
        (truths.or_cases _ _ k)

    runs_path : (ws : List Way) (xs : List Path) → AreGoodWays p ws → first_hidden ws ≡ None → ArePaths p ws xs → list_all (condition_fits p) (all_conditions p ws) ≡ true → SomeRuns ws q x u v → IsTrue (some_path_holds z xs)
    runs_path [] [] g n h f k = absurd k
    runs_path [] (b ∷ xs) g n h f k = absurd h
    runs_path (w ∷ ws) [] g n h f k = absurd h
    runs_path (w ∷ ws) (b ∷ xs) g n h f k =
        let s = all_apart (condition_fits p) (conditions p.controls w) (all_conditions p ws) f in
        let o = none_first (hidden_on w) (first_hidden ws) n in
        ⊎_elim
        (λ i. truths.or_left _ _ (path_as few z (changing q x u v t y) at w b g.0 h.0 s.0 ∙ leads_way meant p q x u v y t agree w g.0 o.0 i))
        (λ i. truths.or_right _ _ (runs_path ws xs g.1 o.1 h.1 s.1 i))
        k

    leads : (prog : Prog) → IsTrue (is_good_prog p prog) → first_hidden (ways prog) ≡ None → ways_are_narrow p (ways prog) ≡ true → (xs : List Path) → ArePaths p (ways prog) xs → IsTrue (some_path_holds z xs) ↔ Ctrl prog q x u v
    leads prog good n narrow xs h =
        let g = good_ways p prog good in
        let f = (truths.both _ _ (truths.both _ _ narrow).1).0 in (
          (λ k. runs_ctrl meant.depends q x prog u v (path_runs (ways prog) xs g h f k)),
          (λ k. runs_path (ways prog) xs g n h f (ctrl_runs meant.depends q x prog u v k)),
        )

-- what the law says
pub paths_lead : Meant → (p : Places) → place_count p ≤ 32 → (prog : Prog) → IsTrue (is_good_prog p prog) → first_hidden (ways prog) ≡ None → ways_are_narrow p (ways prog) ≡ true → (xs : List Path) → ArePaths p (ways prog) xs → (z : Point) (q x u v y : Values) (t : Rational) → IsAt p z (changing q x u v t y) → AgreeFrom p.controls u v → IsTrue (some_path_holds z xs) ↔ Ctrl prog q x u v
paths_lead meant p few prog good n narrow xs h z q x u v y t at agree = leads meant p few z q x u v y t at agree prog good n narrow xs h

-- ---- there is one list of paths

-- what the law says: a formula has one normal form
abbrev pub FormsAreUnique : Type 0
FormsAreUnique = (p : Places) (ws : List Weights) (c : Var → Coefficients) (f : Formula) (t u : Tree) → IsNormal p ws c f t → IsNormal p ws c f u → t ≡ u

part_unique : FormsAreUnique → (p : Places) (c : Condition) (t u : Tree) → IsPart p c t → IsPart p c u → t ≡ u
part_unique law p c t u h k =
    let e = law p _ _ c.formula h.0 k.0 h.2 k.2 in
    h.1 ∙ (rw e (sym k.1))

pub parts_unique : FormsAreUnique → (p : Places) (cs : List Condition) (ts us : List Tree) → AreParts p cs ts → AreParts p cs us → ts ≡ us
parts_unique law p [] [] [] h k = refl
parts_unique law p [] [] (u ∷ us) h k = absurd k
parts_unique law p [] (t ∷ ts) us h k = absurd h
parts_unique law p (c ∷ cs) [] us h k = absurd h
parts_unique law p (c ∷ cs) (t ∷ ts) [] h k = absurd k
parts_unique law p (c ∷ cs) (t ∷ ts) (u ∷ us) h k = ap₂ (λ (y : Tree) (ys : List Tree). y ∷ ys) (part_unique law p c t u h.0 k.0) (parts_unique law p cs ts us h.1 k.1)

pub paths_unique : FormsAreUnique → (p : Places) (ws : List Way) (xs ys : List Path) → ArePaths p ws xs → ArePaths p ws ys → map parts_of xs ≡ map parts_of ys
paths_unique law p [] [] [] h k = refl
paths_unique law p [] [] (y ∷ ys) h k = absurd k
paths_unique law p [] (x ∷ xs) ys h k = absurd h
paths_unique law p (w ∷ ws) [] ys h k = absurd h
paths_unique law p (w ∷ ws) (x ∷ xs) [] h k = absurd k
paths_unique law p (w ∷ ws) (x ∷ xs) (y ∷ ys) h k =
    ap₂ (λ (t : List Tree) (ts : List (List Tree)). t ∷ ts) (parts_unique law p (conditions p.controls w) (parts_of x) (parts_of y) h.0 k.0) (paths_unique law p ws xs ys h.1 k.1)
