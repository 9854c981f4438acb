-- Environments that hold the polynomials of what the variables stand for.
use Rattle.std.proofs.Common.{rules, ◌≡◌, ◌≢◌, ℕ, zero, suc, ◌+◌, ◌<◌, ◌⊎◌, inl, inr, Bool, true, IsTrue, List, [], ◌∷◌, length, map, Option, None, Some, refl, sym, ap, ap₂, ◌∙◌, subst, arith}
use Rattle.std.specs.Prelude.{slice_get, slice_set, IfSome, unwrap_or, All}
use Rattle.std.specs.List.{range_with_len}
use Rattle.std.proofs.Math.ListN.{length-set}
use Rattle.vp_terms.specs.Places.{place, place_count, has_variable}
use Rattle.vp_terms.specs.Variables.{all_variables, all_variables_of, is_below, has_places_below, formula_has_places_below}
use Rattle.vp_terms.specs.declared.expr.Places.{Places}
use Rattle.vp_terms.specs.declared.expr.Var.{Var}
use Rattle.vp_terms.specs.declared.expr.Var.TheVariants.{Param, State, Control, NextState, NextControl, Tau}
use Rattle.vp_terms.specs.declared.expr.Expr.{Expr}
use Rattle.vp_terms.specs.declared.expr.Expr.TheVariants.{Num, Var as Variable, Add', Sub', Mul', Pow'}
use Rattle.vp_terms.specs.declared.formula.Formula.{Formula}
use Rattle.vp_terms.specs.declared.formula.Formula.TheVariants.{True, Cmp as Compare, And', Or', Not'}
use Rattle.vp_poly.specs.declared.scaled.Scaled.{Scaled}
use Rattle.vp_poly.specs.Coefficient.{coefficients}
use Rattle.vp_poly.specs.Places.{HaveOnly}
use Rattle.vp_poly.specs.Times.{HasCoefficients}
use Rattle.vp_poly.specs.Weights.{Weights, weight, weight_at, weight_in, weight_sum, weight_product, weight_power, weight_zero}
use Rattle.vp_poly.specs.Canonical.{IsEntry, IsEnvironment, StandsFor, StandsWithin, itself, own_weights, variables, weights_of}
use Rattle.vp_poly.specs.Replaced.{replaced}
use Rattle.vp_ctrl.specs.Following.{StandIns, at_first, instead, stands}
use Rattle.vp_ctrl.specs.Paths.{AllowsPaths, is_on_path}
use Rattle.vp_ctrl.specs.Widths.{is_small}
use Rattle.vp_ctrl.specs.Walked.{Follows}
use Rattle.vp_ctrl.proofs.Known.{Placed, WeightsCompose}
use Rattle.vp_ctrl.proofs.Truths as truths

-- ---- variables that pass a weaker test

module _ (t s : Var → Bool) (weak : (v : Var) → IsTrue (t v) → IsTrue (s v)) where
  pub weaker : (e : Expr) → IsTrue (all_variables t e) → IsTrue (all_variables s e)
  weaker (Num r) h = refl
  weaker (Variable v) h = weak v h
  weaker (Add' l a r b) h = let g = truths.both _ _ h in truths.both_true _ _ (weaker a g.0) (weaker b g.1)
  weaker (Sub' l a r b) h = let g = truths.both _ _ h in truths.both_true _ _ (weaker a g.0) (weaker b g.1)
  weaker (Mul' l a r b) h = let g = truths.both _ _ h in truths.both_true _ _ (weaker a g.0) (weaker b g.1)
  weaker (Pow' l a n) h = weaker a h

  pub weaker_of : (f : Formula) → IsTrue (all_variables_of t f) → IsTrue (all_variables_of s f)
  weaker_of True h = refl
  weaker_of (Compare c a b) h = let g = truths.both _ _ h in truths.both_true _ _ (weaker a g.0) (weaker b g.1)
  weaker_of (And' l a r b) h = let g = truths.both _ _ h in truths.both_true _ _ (weaker_of a g.0) (weaker_of b g.1)
  weaker_of (Or' l a r b) h = let g = truths.both _ _ h in truths.both_true _ _ (weaker_of a g.0) (weaker_of b g.1)
  weaker_of (Not' l a) h = weaker_of a h

-- what may be on a path is the model's
on_model : (p : Places) (v : Var) → IsTrue (is_on_path p v) → IsTrue (has_variable p v)
on_model p (Param i) h = h
on_model p (State i) h = h
on_model p (Control i) h = h
on_model p (NextState i) h = absurd (cc)
on_model p (NextControl i) h = h
on_model p Tau h = refl

on_place : (p : Places) (v : Var) → IsTrue (is_on_path p v) → IsTrue (is_below p (place_count p) v)
on_place p (Param i) h = let b = truths.below i p.params h in truths.is_below _ _ (omega arith)
on_place p (State i) h = let b = truths.below i p.states h in truths.is_below _ _ (omega arith)
on_place p (Control i) h = let b = truths.below i p.controls h in truths.is_below _ _ (omega arith)
on_place p (NextState i) h = absurd (cc)
on_place p (NextControl i) h = let b = truths.below i p.controls h in truths.is_below _ _ (omega arith)
on_place p Tau h = absurd (cc)

pub path_in_model : (p : Places) (e : Expr) → IsTrue (all_variables (is_on_path p) e) → IsTrue (all_variables (has_variable p) e)
path_in_model p = weaker (is_on_path p) (has_variable p) (on_model p)

pub path_in_model_of : (p : Places) (f : Formula) → IsTrue (all_variables_of (is_on_path p) f) → IsTrue (all_variables_of (has_variable p) f)
path_in_model_of p = weaker_of (is_on_path p) (has_variable p) (on_model p)

pub path_below : (p : Places) (e : Expr) → IsTrue (all_variables (is_on_path p) e) → IsTrue (has_places_below p (place_count p) e)
path_below p = weaker (is_on_path p) (is_below p (place_count p)) (on_place p)

pub path_below_of : (p : Places) (f : Formula) → IsTrue (all_variables_of (is_on_path p) f) → IsTrue (formula_has_places_below p (place_count p) f)
path_below_of p = weaker_of (is_on_path p) (is_below p (place_count p)) (on_place p)

pub is_variable : (p : Places) (c : ℕ) → c < p.controls → IsTrue (has_variable p (Control c))
is_variable p c h = truths.is_below c p.controls h

-- ---- weights depend on variables

weight_over : (t : Var → Bool) (f g : Var → Weights) → ((v : Var) → IsTrue (t v) → f v ≡ g v) → (e : Expr) → IsTrue (all_variables t e) → weight f e ≡ weight g e
weight_over t f g same (Num r) h = refl
weight_over t f g same (Variable v) h = same v h
weight_over t f g same (Add' l e r d) h = let s = truths.both _ _ h in ap₂ weight_sum (weight_over t f g same e s.0) (weight_over t f g same d s.1)
weight_over t f g same (Sub' l e r d) h = let s = truths.both _ _ h in ap₂ weight_sum (weight_over t f g same e s.0) (weight_over t f g same d s.1)
weight_over t f g same (Mul' l e r d) h = let s = truths.both _ _ h in ap₂ weight_product (weight_over t f g same e s.0) (weight_over t f g same d s.1)
weight_over t f g same (Pow' l e n) h = ap (λ (v : Weights). weight_power v n) (weight_over t f g same e h)

-- the weight of an expression over what its variables stand for
pub weight_stands : WeightsCompose → (p : Places) (env : List Scaled) (s : StandIns) → Follows p env s → (e : Expr) → IsTrue (all_variables (has_variable p) e) → weight_in p (weights_of env) e ≡ weight_in p (own_weights (place_count p)) (replaced (stands s) e)
weight_stands law p env s h e v =
    weight_over (has_variable p) (weight_at p (weights_of env)) (λ k. weight (weight_at p (own_weights (place_count p))) (stands s k)) h.weights e v
    ∙ sym (law (weight_at p (own_weights (place_count p))) (stands s) e)

-- ---- entries of lists

get_set : {A : Type 0} (xs : List A) (i : ℕ) (x : A) → i < length xs → slice_get (slice_set xs i x) i ≡ Some x
get_set [] i x h = absurd (omega arith)
get_set (y ∷ xs) zero x h = refl
get_set (y ∷ xs) (suc i) x h = get_set xs i x (omega arith)

get_other : {A : Type 0} (xs : List A) (i k : ℕ) (x : A) → k ≢ i → slice_get (slice_set xs i x) k ≡ slice_get xs k
get_other [] i k x h = refl
get_other (y ∷ xs) zero zero x h = absurd (h refl)
get_other (y ∷ xs) zero (suc k) x h = refl
get_other (y ∷ xs) (suc i) zero x h = refl
get_other (y ∷ xs) (suc i) (suc k) x h = get_other xs i k x (λ e. h (omega arith))

get_map : {A B : Type 0} (f : A → B) (xs : List A) (k : ℕ) (o : Option A) → slice_get xs k ≡ o → slice_get (map f xs) k ≡ (elim o [ None ↦ None | Some x ↦ Some (f x) ])
get_map f [] k o e = subst (λ z. None ≡ (elim z [ None ↦ None | Some x ↦ Some (f x) ])) e refl
get_map f (x ∷ xs) zero o e = subst (λ z. Some (f x) ≡ (elim z [ None ↦ None | Some x ↦ Some (f x) ])) e refl
get_map f (x ∷ xs) (suc k) o e = get_map f xs k o e

-- the weight at a place where something stands
weight_there : (p : Places) (env : List Scaled) (v : Var) (s : Scaled) → slice_get env (place p v) ≡ Some s → weight_at p (weights_of env) v ≡ s.weight
weight_there p env v s e = rw (get_map (λ t. t.weight) env (place p v) (Some s) e) refl

-- variables that stand for themselves
itself_at : (n a i : ℕ) → i < n → slice_get (map itself (range_with_len a n)) i ≡ Some (itself (a + i))
itself_at zero a i h = absurd (omega arith)
itself_at (suc n) a zero h = let e : a + 0 ≡ a = omega arith in rw e refl
itself_at (suc n) a (suc i) h = let e : a + 1 + i ≡ a + suc i = omega arith in rw (← e) (itself_at n (a + 1) i (omega arith))

pub next_is_small : (p : Places) (c : ℕ) → c < p.controls → is_small p (Variable (NextControl c)) ≡ true
next_is_small p c h =
    let k = place p (NextControl c) in
    let l : k < place_count p = omega arith in
    rw (weight_there p (map itself (range_with_len 0 (place_count p))) (NextControl c) (itself (0 + k)) (itself_at (place_count p) 0 k l)) refl

-- ---- at first

self : (v : Var) → stands at_first v ≡ Variable v
self (Param i) = refl
self (State i) = refl
self (Control i) = refl
self (NextState i) = refl
self (NextControl i) = refl
self Tau = refl

pub Follows-first : (p : Places) (env : List Scaled) → env ≡ map itself (range_with_len 0 (place_count p)) → IsEnvironment (place_count p) env → StandsFor p env (variables p) → ((used : Var → Bool) (allowed : ℕ → Bool) → ((v : Var) → IsTrue (used v) → IsTrue (allowed (place p v))) → StandsWithin p env used allowed) → Follows p env at_first
Follows-first p env e i k o = record {
  environment = i;
  weights = λ v h. rw (e, self v) refl;
  stand_for = record { each = λ v h. rw (self v) (k.each v h) };
  only = λ allowed a. o (is_on_path p) allowed a;
}

-- ---- after a change

IsEnvironment-set : (n i : ℕ) (env : List Scaled) (s : Scaled) → IsEnvironment n env → IsEntry n s → IsEnvironment n (slice_set env i s)
IsEnvironment-set n i env s h k = record { size = length-set env i s ∙ h.size; entries = All_set (IsEntry n) env i s h.entries k }
  where
    All_set : (P : Scaled → Type 0) (xs : List Scaled) (i : ℕ) (x : Scaled) → All P xs → P x → All P (slice_set xs i x)
    All_set P xs i x h k = search rules

module _ (placed : Placed) (p : Places) (env : List Scaled) (s : StandIns) (c : ℕ) (e : Expr) (new : Scaled) (f : Follows p env s) (lt : c < p.controls) where
  inside : place p (Control c) < length env
  inside = let b = placed.in_range p (Control c) (is_variable p c lt) in omega (arith, f.environment.size)

  -- by the place: what stands at the control's, or what stood elsewhere
  entry : (Q : Scaled → Type 0) (v : Var) → (place p v ≡ place p (Control c) → Q new) → (place p v ≢ place p (Control c) → IfSome (slice_get env (place p v)) Q) → IfSome (slice_get (slice_set env (place p (Control c)) new) (place p v)) Q
  entry Q v h k = cases (truths.same_or_not (place p v) (place p (Control c)))
    where
      cases : (place p v ≡ place p (Control c)) ⊎ (place p v ≢ place p (Control c)) → IfSome (slice_get (slice_set env (place p (Control c)) new) (place p v)) Q
      cases (inl r) = rw (r, get_set env (place p (Control c)) new inside) (h r)
      cases (inr r) = rw (get_other env (place p (Control c)) (place p v) new r) (k r)

  -- what a variable stands for then
  stands_here : (v : Var) → IsTrue (has_variable p v) → place p v ≡ place p (Control c) → stands (instead s c e) v ≡ e
  stands_here v h r =
      let q = placed.different p v (Control c) h (is_variable p c lt) r in
      rw (q, truths.same_test c) refl

  stands_there : (v : Var) → place p v ≢ place p (Control c) → stands (instead s c e) v ≡ stands s v
  stands_there (Param i) r = refl
  stands_there (State i) r = refl
  stands_there (Control i) r = rw (truths.other_test c i (λ q. r (ap (λ k. place p (Control k)) q))) refl
  stands_there (NextState i) r = refl
  stands_there (NextControl i) r = refl
  stands_there Tau r = refl

  weights_set : new.weight ≡ weight_in p (own_weights (place_count p)) e → (v : Var) → IsTrue (has_variable p v) → weight_at p (weights_of (slice_set env (place p (Control c)) new)) v ≡ weight_in p (own_weights (place_count p)) (stands (instead s c e) v)
  weights_set w v h = cases (truths.same_or_not (place p v) (place p (Control c)))
    where
      same_weight : slice_get (slice_set env (place p (Control c)) new) (place p v) ≡ slice_get env (place p v) → weight_at p (weights_of (slice_set env (place p (Control c)) new)) v ≡ weight_at p (weights_of env) v
      same_weight q =
          ap (λ (o : Option Weights). unwrap_or o weight_zero)
          (get_map (λ t. t.weight) (slice_set env (place p (Control c)) new) (place p v) _ q ∙ sym (get_map (λ t. t.weight) env (place p v) _ refl))

      cases : (place p v ≡ place p (Control c)) ⊎ (place p v ≢ place p (Control c)) → weight_at p (weights_of (slice_set env (place p (Control c)) new)) v ≡ weight_in p (own_weights (place_count p)) (stands (instead s c e) v)
      cases (inl r) =
          weight_there p (slice_set env (place p (Control c)) new) v new (rw r (get_set env (place p (Control c)) new inside))
          ∙ w ∙ ap (weight_in p (own_weights (place_count p))) (sym (stands_here v h r))
      cases (inr r) =
          same_weight (get_other env (place p (Control c)) (place p v) new r)
          ∙ f.weights v h ∙ ap (weight_in p (own_weights (place_count p))) (sym (stands_there v r))

  pub Follows-set : IsEntry (place_count p) new → new.weight ≡ weight_in p (own_weights (place_count p)) e → HasCoefficients new.weight.den new.poly (coefficients (variables p) e) → ((allowed : ℕ → Bool) → AllowsPaths p allowed → HaveOnly allowed new.poly) → Follows p (slice_set env (place p (Control c)) new) (instead s c e)
  Follows-set i w k o = record {
    environment = IsEnvironment-set (place_count p) (place p (Control c)) env new f.environment i;
    weights = weights_set w;
    stand_for = record {
      each = λ v h.
          entry (λ t. HasCoefficients t.weight.den t.poly (coefficients (variables p) (stands (instead s c e) v))) v
          (λ r. rw (stands_here v h r) k)
          (λ r. rw (stands_there v r) (f.stand_for.each v h));
    };
    only = λ allowed a. record { each = λ v h. entry (λ t. HaveOnly allowed t.poly) v (λ r. o allowed a) (λ r. (f.only allowed a).each v h) };
  }
