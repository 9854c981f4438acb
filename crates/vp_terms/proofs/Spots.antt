-- Different variables of a model have different places, and each place is some variable's.
use Rattle.std.proofs.Common.{◌≡◌, ℕ, ◌+◌, ◌-◌, ◌*◌, ◌<◌, ◌≤◌, ◌⊎◌, inl, inr, Bool, false, nat_lt, IsTrue, if◌then◌else◌, refl, sym, ap, ◌∙◌, arith}
use Rattle.vp_terms.specs.Places.{place, place_count, has_variable}
use Rattle.vp_terms.specs.Variables.{all_variables, all_variables_of, is_below, has_places_below, formula_has_places_below}
use Rattle.vp_terms.specs.WellFormed.{is_allowed, is_good_expr, is_good_formula}
use Rattle.vp_terms.specs.declared.expr.Places.{Places}
use Rattle.vp_terms.specs.declared.well_formed.Kinds.{Kinds}
use Rattle.vp_terms.specs.declared.expr.Var.{Var}
use Rattle.vp_terms.specs.declared.expr.Var.TheVariants.{Param, State, Control, NextState, NextControl, Tau}
use Rattle.vp_terms.specs.declared.expr.Expr.{Expr}
use Rattle.vp_terms.specs.declared.expr.Expr.TheVariants.{Num, Var as Variable, Add', Sub', Mul', Pow'}
use Rattle.vp_terms.specs.declared.formula.Formula.{Formula}
use Rattle.vp_terms.specs.declared.formula.Formula.TheVariants.{True, Cmp as Compare, And', Or', Not'}
use Rattle.vp_terms.proofs.Standing.{below, below_or_not}
use Rattle.vp_terms.proofs.Agreeing.{both, both_true, good_variables, good_variables_of}

yes_below : (a b : ℕ) → a < b → IsTrue (nat_lt a b)
yes_below a b h = grind arith

-- each variable has a place of the model
pub place_is_below : (p : Places) (v : Var) → IsTrue (has_variable p v) → place p v < place_count p
place_is_below p (Param i) h = omega (arith, below i p.params h)
place_is_below p (State i) h = omega (arith, below i p.states h)
place_is_below p (Control i) h = omega (arith, below i p.controls h)
place_is_below p (NextState i) h = omega (arith, below i p.states h)
place_is_below p (NextControl i) h = omega (arith, below i p.controls h)
place_is_below p Tau h = omega arith

-- the variable at a place
at_place : Places → ℕ → Var
at_place p k =
    if nat_lt k p.params then Param k
    else (if nat_lt k (p.params + p.states) then State (k - p.params)
    else (if nat_lt k (p.params + p.states + p.controls) then Control (k - (p.params + p.states))
    else (if nat_lt k (p.params + 2 * p.states + p.controls) then NextState (k - (p.params + p.states + p.controls))
    else (if nat_lt k (p.params + 2 * p.states + 2 * p.controls) then NextControl (k - (p.params + 2 * p.states + p.controls)) else Tau))))

no_below : (a b : ℕ) → b ≤ a → nat_lt a b ≡ false
no_below a b h = grind arith

found : (p : Places) (v : Var) → IsTrue (has_variable p v) → at_place p (place p v) ≡ v
unfolding at_place
found p (Param i) h = rw h refl
found p (State i) h =
    let b = below i p.states h in
    rw (no_below (p.params + i) p.params (omega arith), yes_below (p.params + i) (p.params + p.states) (omega arith)) (ap (λ n. State n) (omega arith))
found p (Control i) h =
    let b = below i p.controls h in
    let k = p.params + p.states + i in
    rw (no_below k p.params (omega arith), no_below k (p.params + p.states) (omega arith), yes_below k (p.params + p.states + p.controls) (omega arith)) (ap (λ n. Control n) (omega arith))
found p (NextState i) h =
    let b = below i p.states h in
    let k = p.params + p.states + p.controls + i in
    rw (no_below k p.params (omega arith), no_below k (p.params + p.states) (omega arith), no_below k (p.params + p.states + p.controls) (omega arith), yes_below k (p.params + 2 * p.states + p.controls) (omega arith)) (ap (λ n. NextState n) (omega arith))
found p (NextControl i) h =
    let b = below i p.controls h in
    let k = p.params + 2 * p.states + p.controls + i in
    rw (no_below k p.params (omega arith), no_below k (p.params + p.states) (omega arith), no_below k (p.params + p.states + p.controls) (omega arith), no_below k (p.params + 2 * p.states + p.controls) (omega arith), yes_below k (p.params + 2 * p.states + 2 * p.controls) (omega arith)) (ap (λ n. NextControl n) (omega arith))
found p Tau h =
    let k = p.params + 2 * p.states + 2 * p.controls in
    rw (no_below k p.params (omega arith), no_below k (p.params + p.states) (omega arith), no_below k (p.params + p.states + p.controls) (omega arith), no_below k (p.params + 2 * p.states + p.controls) (omega arith), no_below k (p.params + 2 * p.states + 2 * p.controls) (omega arith)) refl

-- no two variables have one place
pub places_tell : (p : Places) (v w : Var) → IsTrue (has_variable p v) → IsTrue (has_variable p w) → place p v ≡ place p w → v ≡ w
places_tell p v w g h e = sym (found p v g) ∙ ap (at_place p) e ∙ found p w h

-- each place is that of some variable
pub each_place : (p : Places) (k : ℕ) → k < place_count p → (v : Var) × IsTrue (has_variable p v) × (place p v ≡ k)
each_place p k h = first (below_or_not k p.params)
  where
    fifth : p.params + 2 * p.states + p.controls ≤ k → (k < p.params + 2 * p.states + 2 * p.controls) ⊎ (p.params + 2 * p.states + 2 * p.controls ≤ k) → (v : Var) × IsTrue (has_variable p v) × (place p v ≡ k)
    fifth l (inl g) = (NextControl (k - (p.params + 2 * p.states + p.controls)), yes_below _ _ (omega arith), omega arith)
    fifth l (inr g) = (Tau, refl, omega arith)

    fourth : p.params + p.states + p.controls ≤ k → (k < p.params + 2 * p.states + p.controls) ⊎ (p.params + 2 * p.states + p.controls ≤ k) → (v : Var) × IsTrue (has_variable p v) × (place p v ≡ k)
    fourth l (inl g) = (NextState (k - (p.params + p.states + p.controls)), yes_below _ _ (omega arith), omega arith)
    fourth l (inr g) = fifth g (below_or_not k (p.params + 2 * p.states + 2 * p.controls))

    third : p.params + p.states ≤ k → (k < p.params + p.states + p.controls) ⊎ (p.params + p.states + p.controls ≤ k) → (v : Var) × IsTrue (has_variable p v) × (place p v ≡ k)
    third l (inl g) = (Control (k - (p.params + p.states)), yes_below _ _ (omega arith), omega arith)
    third l (inr g) = fourth g (below_or_not k (p.params + 2 * p.states + p.controls))

    second : p.params ≤ k → (k < p.params + p.states) ⊎ (p.params + p.states ≤ k) → (v : Var) × IsTrue (has_variable p v) × (place p v ≡ k)
    second l (inl g) = (State (k - p.params), yes_below _ _ (omega arith), omega arith)
    second l (inr g) = third g (below_or_not k (p.params + p.states + p.controls))

    first : (k < p.params) ⊎ (p.params ≤ k) → (v : Var) × IsTrue (has_variable p v) × (place p v ≡ k)
    first (inl g) = (Param k, yes_below k p.params g, refl)
    first (inr g) = second g (below_or_not k (p.params + p.states))

-- a variable that may stand somewhere is one of the model's
pub allowed_is_there : (k : Kinds) (p : Places) (v : Var) → IsTrue (is_allowed k p v) → IsTrue (has_variable p v)
allowed_is_there k p (Param i) h = h
allowed_is_there k p (State i) h = (both _ _ h).1
allowed_is_there k p (Control i) h = (both _ _ h).1
allowed_is_there k p (NextState i) h = (both _ _ h).1
allowed_is_there k p (NextControl i) h = (both _ _ h).1
allowed_is_there k p Tau h = refl

pub weaker : (t s : Var → Bool) (e : Expr) → ((v : Var) → IsTrue (t v) → IsTrue (s v)) → IsTrue (all_variables t e) → IsTrue (all_variables s e)
weaker t s (Num r) f h = refl
weaker t s (Variable v) f h = f v h
weaker t s (Add' l a r b) f h = let g = both _ _ h in both_true _ _ (weaker t s a f g.0) (weaker t s b f g.1)
weaker t s (Sub' l a r b) f h = let g = both _ _ h in both_true _ _ (weaker t s a f g.0) (weaker t s b f g.1)
weaker t s (Mul' l a r b) f h = let g = both _ _ h in both_true _ _ (weaker t s a f g.0) (weaker t s b f g.1)
weaker t s (Pow' l a n) f h = weaker t s a f h

pub weaker_of : (t s : Var → Bool) (e : Formula) → ((v : Var) → IsTrue (t v) → IsTrue (s v)) → IsTrue (all_variables_of t e) → IsTrue (all_variables_of s e)
weaker_of t s True f h = refl
weaker_of t s (Compare c a b) f h = let g = both _ _ h in both_true _ _ (weaker t s a f g.0) (weaker t s b f g.1)
weaker_of t s (And' l a r b) f h = let g = both _ _ h in both_true _ _ (weaker_of t s a f g.0) (weaker_of t s b f g.1)
weaker_of t s (Or' l a r b) f h = let g = both _ _ h in both_true _ _ (weaker_of t s a f g.0) (weaker_of t s b f g.1)
weaker_of t s (Not' l a) f h = weaker_of t s a f h

allowed_is_below : (k : Kinds) (p : Places) (v : Var) → IsTrue (is_allowed k p v) → IsTrue (is_below p (place_count p) v)
allowed_is_below k p v h = yes_below _ _ (place_is_below p v (allowed_is_there k p v h))

pub good_is_below : (k : Kinds) (p : Places) (e : Expr) → IsTrue (is_good_expr k p e) → IsTrue (has_places_below p (place_count p) e)
good_is_below k p e h = weaker (is_allowed k p) (is_below p (place_count p)) e (allowed_is_below k p) (good_variables k p e h)

pub good_formula_is_below : (k : Kinds) (p : Places) (f : Formula) → IsTrue (is_good_formula k p f) → IsTrue (formula_has_places_below p (place_count p) f)
good_formula_is_below k p f h = weaker_of (is_allowed k p) (is_below p (place_count p)) f (allowed_is_below k p) (good_variables_of k p f h)
