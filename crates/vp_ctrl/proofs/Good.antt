-- The ways of a well formed controller are well formed.
use Rattle.std.proofs.Common.{◌≡◌, ℕ, ◌<◌, Bool, true, false, IsTrue, List, [], ◌∷◌, ◌++◌, map, Option, None, Some, zero, suc, length, get_or, refl, ◌∙◌, arith}
use Rattle.std.specs.Prelude.{Vec}
use Rattle.std.specs.declared.alloc.Global.{Global}
use Rattle.vp_terms.specs.WellFormed.{in_model, is_allowed, is_good_expr, is_good_formula, is_good_prog}
use Rattle.vp_terms.specs.Variables.{all_variables, all_variables_of}
use Rattle.vp_terms.specs.declared.expr.Places.{Places}
use Rattle.vp_terms.specs.declared.expr.Var.{Var}
use Rattle.vp_terms.specs.declared.expr.Var.TheVariants.{Param, State, Control, NextState, NextControl, Tau}
use Rattle.vp_terms.specs.declared.expr.Expr.{Expr}
use Rattle.vp_terms.specs.declared.expr.Expr.TheVariants.{Num, Var as Variable, Add', Sub', Mul', Pow'}
use Rattle.vp_terms.specs.declared.formula.Formula.{Formula}
use Rattle.vp_terms.specs.declared.formula.Formula.TheVariants.{True, Cmp as Compare, And', Or', Not'}
use Rattle.vp_terms.specs.declared.prog.Prog.{Prog}
use Rattle.vp_terms.specs.declared.prog.Prog.TheVariants.{Skip, Assign, Any, Test, Choice', Seq', If'}
use Rattle.vp_ctrl.specs.declared.ways.Step.{Step}
use Rattle.vp_ctrl.specs.Steps.{move, moves, listed}
use Rattle.vp_ctrl.specs.Ways.{Move, Gives, GivesAny, Passes, Fails, Way, joined, ways}
use Rattle.vp_ctrl.specs.Hidden.{is_given, changed_again, again, hidden_on, first_hidden}
use Rattle.vp_ctrl.specs.Paths.{is_on_path}
use Rattle.vp_ctrl.specs.Walked.{IsGoodMove, IsGoodWay, AreGoodWays}
use Rattle.vp_ctrl.proofs.Truths.{below, both, both_true}

-- the variables of an expression that may stand in a controller may be on a path
on_path : (p : Places) (v : Var) → IsTrue (is_allowed in_model p v) → IsTrue (is_on_path p v)
on_path p (Param i) h = h
on_path p (State i) h = h
on_path p (Control i) h = h
on_path p (NextState i) h = h
on_path p (NextControl i) h = absurd (cc)
on_path p Tau h = h

pub path_variables : (p : Places) (e : Expr) → IsTrue (is_good_expr in_model p e) → IsTrue (all_variables (is_on_path p) e)
path_variables p (Num n) h = refl
path_variables p (Variable v) h = on_path p v h
path_variables p (Add' l e r f) h = let s = both _ _ h in both_true _ _ (path_variables p e s.0) (path_variables p f s.1)
path_variables p (Sub' l e r f) h = let s = both _ _ h in both_true _ _ (path_variables p e s.0) (path_variables p f s.1)
path_variables p (Mul' l e r f) h = let s = both _ _ h in both_true _ _ (path_variables p e s.0) (path_variables p f s.1)
path_variables p (Pow' l e n) h = path_variables p e (both _ _ h).0

pub path_variables_of : (p : Places) (f : Formula) → IsTrue (is_good_formula in_model p f) → IsTrue (all_variables_of (is_on_path p) f)
path_variables_of p True h = refl
path_variables_of p (Compare c e f) h = let s = both _ _ h in both_true _ _ (path_variables p e s.0) (path_variables p f s.1)
path_variables_of p (And' l e r f) h = let s = both _ _ h in both_true _ _ (path_variables_of p e s.0) (path_variables_of p f s.1)
path_variables_of p (Or' l e r f) h = let s = both _ _ h in both_true _ _ (path_variables_of p e s.0) (path_variables_of p f s.1)
path_variables_of p (Not' l f) h = path_variables_of p f h

module _ (p : Places) where
  good_both : (w v : Way) → IsGoodWay p w → IsGoodWay p v → IsGoodWay p (w ++ v)
  good_both [] v h k = k
  good_both (m ∷ w) v h k = (h.0, good_both w v h.1 k)

  goods_both : (ws vs : List Way) → AreGoodWays p ws → AreGoodWays p vs → AreGoodWays p (ws ++ vs)
  goods_both [] vs h k = k
  goods_both (w ∷ ws) vs h k = (h.0, goods_both ws vs h.1 k)

  good_each : (w : Way) (vs : List Way) → IsGoodWay p w → AreGoodWays p vs → AreGoodWays p (map (λ v. w ++ v) vs)
  good_each w [] h k = tt
  good_each w (v ∷ vs) h k = (good_both w v h k.0, good_each w vs h k.1)

  good_joined : (ws vs : List Way) → AreGoodWays p ws → AreGoodWays p vs → AreGoodWays p (joined ws vs)
  good_joined [] vs h k = tt
  good_joined (w ∷ ws) vs h k = goods_both (map (λ v. w ++ v) vs) (joined ws vs) (good_each w vs h.0 k) (good_joined ws vs h.1 k)

  good_behind : (m : Move) (ws : List Way) → IsGoodMove p m → AreGoodWays p ws → AreGoodWays p (map (λ w. m ∷ w) ws)
  good_behind m [] h k = tt
  good_behind m (w ∷ ws) h k = ((h, k.0), good_behind m ws h k.1)

  pub good_ways : (prog : Prog) → IsTrue (is_good_prog p prog) → AreGoodWays p (ways prog)
  good_ways Skip h = (tt, tt)
  good_ways (Assign c e) h = let s = both _ _ h in (((below c p.controls s.0, s.1), tt), tt)
  good_ways (Any c) h = ((below c p.controls h, tt), tt)
  good_ways (Test f) h = ((h, tt), tt)
  good_ways (Choice' l a r b) h = let s = both _ _ h in goods_both (ways a) (ways b) (good_ways a s.0) (good_ways b s.1)
  good_ways (Seq' l a r b) h = let s = both _ _ h in good_joined (ways a) (ways b) (good_ways a s.0) (good_ways b s.1)
  good_ways (If' f l a r b) h =
      let s = both _ _ h in
      let t = both _ _ s.1 in
      goods_both (map (λ w. Passes f ∷ w) (ways a)) (map (λ w. Fails f ∷ w) (ways b)) (good_behind (Passes f) (ways a) s.0 (good_ways a t.0)) (good_behind (Fails f) (ways b) s.0 (good_ways b t.1))

  -- a hidden control is one of the model's
  some_again : (b : Way) (c d : ℕ) → changed_again b (Some d) ≡ Some c → d ≡ c
  some_again b c d h = cases (is_given d b) refl
    where
      cases : (t : Bool) → is_given d b ≡ t → d ≡ c
      cases true e = let f = rw e at h in cc
      cases false e = absurd (let f = rw e at h in cc)

  hidden_again : (b w : Way) (c : ℕ) → IsGoodWay p w → again b w ≡ Some c → c < p.controls
  hidden_again b [] c g h = absurd (cc)
  hidden_again b (Gives d e ∷ w) c g h = cases (hidden_again (b ++ Gives d e ∷ []) w c g.1) (changed_again b (Some d)) refl
    where
      cases : (again (b ++ Gives d e ∷ []) w ≡ Some c → c < p.controls) → (o : Option ℕ) → changed_again b (Some d) ≡ o → c < p.controls
      cases f None q = f (rw q at h)
      cases f (Some k) q = let z = some_again b k d q in let y = rw q at h in let r : d ≡ c = cc in rw (← r) g.0.0
  hidden_again b (GivesAny d ∷ w) c g h = cases (hidden_again (b ++ GivesAny d ∷ []) w c g.1) (changed_again b (Some d)) refl
    where
      cases : (again (b ++ GivesAny d ∷ []) w ≡ Some c → c < p.controls) → (o : Option ℕ) → changed_again b (Some d) ≡ o → c < p.controls
      cases f None q = f (rw q at h)
      cases f (Some k) q = let z = some_again b k d q in let y = rw q at h in let r : d ≡ c = cc in rw (← r) g.0
  hidden_again b (Passes f ∷ w) c g h = hidden_again (b ++ Passes f ∷ []) w c g.1 h
  hidden_again b (Fails f ∷ w) c g h = hidden_again (b ++ Fails f ∷ []) w c g.1 h

  pub hidden_below : (ws : List Way) (c : ℕ) → AreGoodWays p ws → first_hidden ws ≡ Some c → c < p.controls
  hidden_below [] c g h = absurd (cc)
  hidden_below (w ∷ ws) c g h = cases (hidden_below ws c g.1) (hidden_on w) refl
    where
      cases : (first_hidden ws ≡ Some c → c < p.controls) → (o : Option ℕ) → hidden_on w ≡ o → c < p.controls
      cases f None q = f (rw q at h)
      cases f (Some k) q = let y = rw q at h in hidden_again [] w c g.0 (q ∙ y)

  -- each statement of a way
  pub good_at : (ss : List Step) (i : ℕ) (d : Step) → i < length ss → IsGoodWay p (moves ss) → IsGoodMove p (move (get_or ss i d))
  good_at [] i d h g = absurd (omega arith)
  good_at (s ∷ ss) zero d h g = g.0
  good_at (s ∷ ss) (suc i) d h g = good_at ss i d (omega arith) g.1

  -- each way of a list
  pub goods_at : (ws : List (Vec Step Global)) (i : ℕ) (d : Vec Step Global) → i < length ws → AreGoodWays p (listed ws) → IsGoodWay p (moves (get_or ws i d).items)
  goods_at [] i d h g = absurd (omega arith)
  goods_at (w ∷ ws) zero d h g = g.0
  goods_at (w ∷ ws) (suc i) d h g = goods_at ws i d (omega arith) g.1
