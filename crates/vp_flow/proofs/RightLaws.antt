-- The right sides of a package, one after the other.
use Rattle.std.proofs.Common.{◌≡◌, ℕ, zero, suc, ◌+◌, ◌≤◌, ◌<◌, Bool, true, false, ◌==◌, ◌&&◌, nat_lt, List, [], ◌∷◌, ◌++◌, length, map, get_or, Option, None, Some, slice_get, IsTrue, All, refl, sym, ap, ◌∙◌, subst, arith}
use Rattle.std.specs.List.{list_all, range_with_len}
use Rattle.std.specs.Prelude.{IfSome}
use Rattle.std.proofs.lemmas.Bool.{eqb-true, eqb-false}
use Rattle.std.proofs.lemmas.Bool.Decides.{nat_tests}
use Rattle.std.proofs.lemmas.List.{length-append}
use Rattle.std.proofs.Math.Seq.{get_or-append_seam}
use Rattle.std.proofs.Math.ListN.{get_or-append}
use Rattle.vp_words.specs.declared.record.Counts.{Counts}
use Rattle.vp_terms.specs.declared.expr.Expr.{Expr}
use Rattle.vp_terms.specs.declared.expr.Places.{Places}
use Rattle.vp_terms.specs.declared.expr.Var.{Var}
use Rattle.vp_terms.specs.declared.expr.Var.TheVariants.{Param, State, Control, NextState, NextControl, Tau}
use Rattle.vp_terms.specs.declared.package.Package.{Package}
use Rattle.vp_terms.specs.Places.{place, place_count, has_variable}
use Rattle.vp_terms.specs.Variables.{all_variables, has_places_below}
use Rattle.vp_terms.specs.WellFormed.{IsWellFormed, in_model, is_allowed, is_good_expr}
use Rattle.vp_terms.specs.declared.well_formed.Kinds.{Kinds}
use Rattle.vp_poly.specs.declared.scaled.Scaled.{Scaled}
use Rattle.vp_poly.specs.Places.{AreBelow, places_for}
use Rattle.vp_poly.specs.Canonical.{IsCanonical, IsWeighed, itself, own_weight, own_weights, variables, weights_of}
use Rattle.vp_poly.specs.Coefficient.{coefficients}
use Rattle.vp_poly.specs.Weights.{Weights, fits, weight_in}
use Rattle.vp_flow.specs.Sides.{AreRightSides, IsPolynomialOf, model}
use Rattle.vp_flow.specs.Outcome.{IsFirstNamed, IsOver}
use Rattle.vp_flow.specs.Righting.{AreFirstSides}

pub all-at : {X : Type 0} → (t : X → Bool) (xs : List X) (i : ℕ) (d : X) → list_all t xs ≡ true → i < length xs → t (get_or xs i d) ≡ true
all-at {X} t [] i d e lt = absurd (omega arith)
all-at {X} t (x ∷ xs) zero d e lt = first (t x) e
  where
    first : (v : Bool) → (v && list_all t xs) ≡ true → v ≡ true
    first true s = refl
    first false s = absurd (cc)
all-at {X} t (x ∷ xs) (suc i) d e lt = all-at t xs i d (rest (t x) e) (omega arith)
  where
    rest : (v : Bool) → (v && list_all t xs) ≡ true → list_all t xs ≡ true
    rest true s = s
    rest false s = absurd (cc)

pub found : {X : Type 0} → (xs : List X) (i : ℕ) (d : X) → i < length xs → slice_get xs i ≡ Some (get_or xs i d)
found {X} [] i d lt = absurd (omega arith)
found {X} (x ∷ xs) zero d lt = refl
found {X} (x ∷ xs) (suc i) d lt = found xs i d (omega arith)

-- a right side is good
pub good-rate : (pkg : Package) (i : ℕ) (e : Expr) (rates : List Expr) → IsWellFormed pkg → rates ≡ pkg.plant.rates → i < length rates → e ≡ get_or rates i e → IsTrue (is_good_expr in_model (model pkg) e)
good-rate pkg i e rates good s lt is =
    subst (λ (x : Expr). is_good_expr in_model (model pkg) x ≡ true) (sym is)
    (all-at (is_good_expr in_model (model pkg)) rates i e (ap (list_all (is_good_expr in_model (model pkg))) s ∙ good.plant.rates) lt)

pub rate-below : ((k : Kinds) (p : Places) (e : Expr) → IsTrue (is_good_expr k p e) → IsTrue (has_places_below p (place_count p) e)) → (pkg : Package) (p : Places) (e : Expr) → p ≡ model pkg → IsTrue (is_good_expr in_model (model pkg) e) → IsTrue (has_places_below p (place_count p) e)
rate-below below pkg p e s g = subst (λ (x : Places). has_places_below x (place_count x) e ≡ true) (sym s) (below in_model (model pkg) e g)

-- a variable of the model's formulas has one of the first places
low-place : (p : Places) (v : Var) → IsTrue (is_allowed in_model p v) → IsTrue (nat_lt (place p v) (p.params + p.states + p.controls))
low-place p (Param i) h = lt_on i (p.params + p.states + p.controls) (let a = lt_of i p.params h in omega arith)
  where
    lt_of : (x y : ℕ) → nat_lt x y ≡ true → x < y
    lt_of x y e = grind (arith, nat_tests)

    lt_on : (x y : ℕ) → x < y → nat_lt x y ≡ true
    lt_on x y e = grind (arith, nat_tests)
low-place p (State i) h = lt_on (p.params + i) (p.params + p.states + p.controls) (let a = lt_of i p.states h in omega arith)
  where
    lt_of : (x y : ℕ) → nat_lt x y ≡ true → x < y
    lt_of x y e = grind (arith, nat_tests)

    lt_on : (x y : ℕ) → x < y → nat_lt x y ≡ true
    lt_on x y e = grind (arith, nat_tests)
low-place p (Control i) h = lt_on (p.params + p.states + i) (p.params + p.states + p.controls) (let a = lt_of i p.controls h in omega arith)
  where
    lt_of : (x y : ℕ) → nat_lt x y ≡ true → x < y
    lt_of x y e = grind (arith, nat_tests)

    lt_on : (x y : ℕ) → x < y → nat_lt x y ≡ true
    lt_on x y e = grind (arith, nat_tests)
low-place p (NextState i) h = absurd (no_test h)
  where
    no_test : false ≡ true → ⊥
    no_test e = cc
low-place p (NextControl i) h = absurd (no_test h)
  where
    no_test : false ≡ true → ⊥
    no_test e = cc
low-place p Tau h = absurd (no_test h)
  where
    no_test : false ≡ true → ⊥
    no_test e = cc

pub low-places : (pkg : Package) (p : Places) → p ≡ model pkg → (v : Var) → IsTrue (is_allowed in_model (model pkg) v) → IsTrue (nat_lt (place p v) (p.params + p.states + p.controls))
low-places pkg p s v h = low-place p v (subst (λ (x : Places). is_allowed in_model x v ≡ true) (sym s) h)

-- the weights of variables that stand for themselves
pub own-weights : (n : ℕ) (env : List Scaled) → env ≡ map itself (range_with_len 0 n) → weights_of env ≡ own_weights n
own-weights n env e = ap weights_of e

-- ---- one right side more

pub first-none : (pkg : Package) (c : Counts) (qs : List Scaled) → qs ≡ [] → AreFirstSides pkg c 0 qs
first-none pkg c qs e = record { count = ap (λ (l : List Scaled). length l) e; each = λ i d lt. absurd (omega arith); low = λ i d lt. absurd (omega arith) }

pub first-more : (pkg : Package) (c : Counts) (n : ℕ) (qs new : List Scaled) (q : Scaled) (e : Expr) → new ≡ qs ++ q ∷ [] → slice_get pkg.plant.rates n ≡ Some e → AreFirstSides pkg c n qs → IsPolynomialOf (model pkg) e q → AreBelow (c.params + c.states + c.controls) q.poly → AreFirstSides pkg c (n + 1) new
first-more pkg c n qs new q e is at_n x own low = subst (AreFirstSides pkg c (n + 1)) (sym is) (record {
  count = length-append qs (q ∷ []) ∙ ap (λ (k : ℕ). k + 1) x.count;
  each = λ i d lt. each i d lt (i == n) refl;
  low = λ i d lt. bound i d lt (i == n) refl;
})
  where
    front : (i : ℕ) (d : Scaled) → i < n → get_or (qs ++ q ∷ []) i d ≡ get_or qs i d
    front i d lt = let s = x.count in get_or-append qs (q ∷ []) d i (omega arith)

    last : (d : Scaled) → get_or (qs ++ q ∷ []) n d ≡ q
    last d = ap (λ (k : ℕ). get_or (qs ++ q ∷ []) k d) (sym x.count) ∙ get_or-append_seam qs q [] d

    each : (i : ℕ) (d : Scaled) → i < n + 1 → (v : Bool) → (i == n) ≡ v → IfSome (slice_get pkg.plant.rates i) (λ e. IsPolynomialOf (model pkg) e (get_or (qs ++ q ∷ []) i d))
    each i d lt true t =
        let s : i ≡ n = eqb-true i n t in
        subst (λ (k : ℕ). IfSome (slice_get pkg.plant.rates k) (λ e. IsPolynomialOf (model pkg) e (get_or (qs ++ q ∷ []) k d))) (sym s)
        (subst (λ (o : Option Expr). IfSome o (λ e. IsPolynomialOf (model pkg) e (get_or (qs ++ q ∷ []) n d))) (sym at_n) (subst (IsPolynomialOf (model pkg) e) (sym (last d)) own))
    each i d lt false t =
        let ne = eqb-false i n t in
        let less : i < n = omega arith in
        subst (λ (y : Scaled). IfSome (slice_get pkg.plant.rates i) (λ e. IsPolynomialOf (model pkg) e y)) (sym (front i d less)) (x.each i d less)

    bound : (i : ℕ) (d : Scaled) → i < n + 1 → (v : Bool) → (i == n) ≡ v → AreBelow (c.params + c.states + c.controls) (get_or (qs ++ q ∷ []) i d).poly
    bound i d lt true t =
        subst (λ (y : Scaled). AreBelow (c.params + c.states + c.controls) y.poly) (sym (ap (λ (k : ℕ). get_or (qs ++ q ∷ []) k d) (eqb-true i n t) ∙ last d)) low
    bound i d lt false t =
        let ne = eqb-false i n t in
        let less : i < n = omega arith in
        subst (λ (y : Scaled). AreBelow (c.params + c.states + c.controls) y.poly) (sym (front i d less)) (x.low i d less)

beyond : {X : Type 0} → (xs : List X) (i : ℕ) → length xs ≤ i → slice_get xs i ≡ None
beyond {X} [] i le = refl
beyond {X} (x ∷ xs) zero le = absurd (omega arith)
beyond {X} (x ∷ xs) (suc i) le = beyond xs i (omega arith)

pub first-all : (pkg : Package) (c : Counts) (n : ℕ) (qs : List Scaled) → length pkg.plant.rates ≤ n → n ≤ length pkg.plant.rates → AreFirstSides pkg c n qs → AreRightSides pkg qs
first-all pkg c n qs le ge x = record {
  count = (let s = x.count in omega arith);
  each = λ i. at i (nat_lt i n) refl;
}
  where
    lt_of : (x y : ℕ) → nat_lt x y ≡ true → x < y
    lt_of x y e = grind (arith, nat_tests)

    le_of : (x y : ℕ) → nat_lt x y ≡ false → y ≤ x
    le_of x y e = grind (arith, nat_tests)

    none : Scaled
    none = record { poly = []; weight = record { norm = 0; den = 1; degree = 0; terms = 0 } }

    both : (i : ℕ) → i < n → (o : Option Expr) → IfSome o (λ e. IsPolynomialOf (model pkg) e (get_or qs i none)) → IfSome o (λ e. IfSome (slice_get qs i) (IsPolynomialOf (model pkg) e))
    both i lt None h = h
    both i lt (Some e) h = subst (λ (o : Option Scaled). IfSome o (IsPolynomialOf (model pkg) e)) (sym (found qs i none (let s = x.count in omega arith))) h

    gone : (i : ℕ) → (o : Option Expr) → o ≡ None → IfSome o (λ e. IfSome (slice_get qs i) (IsPolynomialOf (model pkg) e))
    gone i None s = tt
    gone i (Some e) s = absurd (cc)

    at : (i : ℕ) (v : Bool) → nat_lt i n ≡ v → IfSome (slice_get pkg.plant.rates i) (λ e. IfSome (slice_get qs i) (IsPolynomialOf (model pkg) e))
    at i true t = both i (lt_of i n t) (slice_get pkg.plant.rates i) (x.each i none (lt_of i n t))
    at i false t = gone i (slice_get pkg.plant.rates i) (beyond pkg.plant.rates i (let l = le_of i n t in omega arith))

pub first-low : (pkg : Package) (c : Counts) (n : ℕ) (qs : List Scaled) → AreFirstSides pkg c n qs → All (λ q. AreBelow (c.params + c.states + c.controls) q.poly) qs
first-low pkg c n qs x = λ i d lt. x.low i d (let s = x.count in omega arith)

-- the first right side that is over
pub first-over : (pkg : Package) (c : Counts) (n : ℕ) (qs : List Scaled) (e : Expr) (name : List ℕ) → slice_get pkg.plant.rates n ≡ Some e → AreFirstSides pkg c n qs → n < length pkg.plant.rates → fits (own_weight (model pkg) e) ≡ false → slice_get pkg.names.states n ≡ Some name → IsFirstNamed pkg.names.states (IsOver pkg) name
first-over pkg c n qs e name at_n x lt over named = record {
  state = n;
  named = named;
  has = subst (λ (o : Option Expr). IfSome o (λ e. fits (own_weight (model pkg) e) ≡ false)) (sym at_n) over;
  first = λ j less h. each j less (slice_get pkg.plant.rates j) (x.each j none less) h (present j less);
}
  where
    none : Scaled
    none = record { poly = []; weight = record { norm = 0; den = 1; degree = 0; terms = 0 } }

    present : (j : ℕ) → j < n → slice_get pkg.plant.rates j ≡ Some (get_or pkg.plant.rates j e)
    present j less = found pkg.plant.rates j e (omega arith)

    clash : (v : Bool) → v ≡ true → v ≡ false → ⊥
    clash v a b = cc

    each : (j : ℕ) → j < n → (o : Option Expr) → IfSome o (λ e. IsPolynomialOf (model pkg) e (get_or qs j none)) → IfSome o (λ e. fits (own_weight (model pkg) e) ≡ false) → o ≡ Some (get_or pkg.plant.rates j e) → ⊥
    each j less None h k s = cc
    each j less (Some f) h k s = clash (fits (own_weight (model pkg) f)) (ap fits (sym h.weight) ∙ h.weighed.fits) k

-- ---- from what calls give

pub rate-at : (pkg : Package) (i : ℕ) (e : Expr) (rates : List Expr) → rates ≡ pkg.plant.rates → i < length rates → e ≡ get_or rates i e → slice_get pkg.plant.rates i ≡ Some e
rate-at pkg i e rates s lt is = ap (λ (l : List Expr). slice_get l i) (sym s) ∙ found rates i e lt ∙ ap Some (sym is)

pub own-weight-is : (pkg : Package) (c : Counts) (e : Expr) (env lent : List Scaled) → lent ≡ env → env ≡ map itself (range_with_len 0 (place_count (places_for c))) → places_for c ≡ model pkg → weight_in (places_for c) (weights_of lent) e ≡ own_weight (model pkg) e
own-weight-is pkg c e env lent f g s =
    ap (λ (l : List Scaled). weight_in (places_for c) (weights_of l) e) (f ∙ g) ∙ ap (λ (p : Places). own_weight p e) s

-- what is known of the variables of well formed expressions
pub record AreKnown : Type 0 where
  pub weaker : (t u : Var → Bool) (e : Expr) → ((v : Var) → IsTrue (t v) → IsTrue (u v)) → IsTrue (all_variables t e) → IsTrue (all_variables u e)
  pub expressions : (k : Kinds) (p : Places) (e : Expr) → IsTrue (is_good_expr k p e) → IsTrue (all_variables (is_allowed k p) e)
  pub allowed : (k : Kinds) (p : Places) (v : Var) → IsTrue (is_allowed k p v) → IsTrue (has_variable p v)

pub rate-variables : AreKnown → (pkg : Package) (p : Places) (e : Expr) → p ≡ model pkg → IsTrue (is_good_expr in_model (model pkg) e) → IsTrue (all_variables (has_variable p) e)
rate-variables known pkg p e s g =
    subst (λ (x : Places). all_variables (has_variable x) e ≡ true) (sym s)
    (known.weaker (is_allowed in_model (model pkg)) (has_variable (model pkg)) e (known.allowed in_model (model pkg)) (known.expressions in_model (model pkg) e g))

pub polynomial-of : (pkg : Package) (c : Counts) (e : Expr) (q : Scaled) (w : Weights) → places_for c ≡ model pkg → q.weight ≡ w → w ≡ own_weight (model pkg) e → IsWeighed q.poly q.weight → 0 < q.weight.den → IsCanonical q.weight.den q.poly (coefficients (variables (places_for c)) e) → IsPolynomialOf (model pkg) e q
polynomial-of pkg c e q w s a b weighed positive canonical = record {
  weight = a ∙ b;
  weighed = weighed;
  positive = positive;
  canonical = subst (λ (p : Places). IsCanonical q.weight.den q.poly (coefficients (variables p) e)) s canonical;
}
