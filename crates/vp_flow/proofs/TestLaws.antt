-- Tests of right sides, term by term.
use Rattle.std.proofs.Common.{◌≡◌, ℕ, zero, suc, ◌+◌, ◌≤◌, ◌<◌, Bool, true, false, ◌==◌, ◌&&◌, ◌||◌, nat_lt, List, [], ◌∷◌, length, take, get_or, Option, None, Some, MatchOption, slice_get, slice_index, refl, sym, ap, ◌∙◌, subst, arith}
use Rattle.std.specs.List.{list_all, list_any}
use Rattle.std.specs.Prelude.{nat_le}
use Rattle.std.proofs.lemmas.Bool.{eqb-true, eqb-false}
use Rattle.std.proofs.lemmas.Bool.Decides.{nat_tests}
use Rattle.std.proofs.lemmas.List.Folds.{list_all_at, list_all_more, list_any_more}
use Rattle.vp_terms.specs.declared.expr.Places.{Places}
use Rattle.vp_poly.specs.declared.mono.Term.{Term}
use Rattle.vp_poly.specs.declared.scaled.Scaled.{Scaled}
use Rattle.vp_flow.specs.Series.{state_degree}
use Rattle.vp_flow.specs.Sides.{is_linear, polys, side}
use Rattle.vp_flow.proofs.SharingLaws.{polys-at}

pub got : {X : Type 0} → (xs : List X) (k : ℕ) (x d : X) → slice_get xs k ≡ Some x → get_or xs k d ≡ x
got {X} [] k x d e = absurd (cc)
got {X} (y ∷ xs) zero x d e = cc
got {X} (y ∷ xs) (suc k) x d e = got xs k x d e

le_off : (n : ℕ) → 1 < n → nat_le n 1 ≡ false
le_off n h = grind (arith, nat_tests)

le_on : (n : ℕ) → n ≤ 1 → nat_le n 1 ≡ true
le_on n h = grind (arith, nat_tests)

lt_on : (n : ℕ) → 0 < n → nat_lt 0 n ≡ true
lt_on n h = grind (arith, nat_tests)

lt_off : (n : ℕ) → n ≤ 0 → nat_lt 0 n ≡ false
lt_off n h = grind (arith, nat_tests)

abbrev low : Places → Term → Bool
low p t = nat_le (state_degree p t.mono.powers) 1

pub bent-term : (p : Places) (ts : List Term) (k n : ℕ) (t : Term) → k < length ts → slice_get ts k ≡ Some t → n ≡ state_degree p t.mono.powers → 1 < n → false ≡ is_linear p ts
bent-term p ts k n t lt e s h =
    let here : low p (get_or ts k t) ≡ false = ap (low p) (got ts k t t e) ∙ le_off (state_degree p t.mono.powers) (omega (arith, s, h)) in
    sym (list_all_at (low p) ts k t lt here)

pub straight-term : (p : Places) (ts : List Term) (k n : ℕ) (t : Term) → k < length ts → slice_get ts k ≡ Some t → n ≡ state_degree p t.mono.powers → n ≤ 1 → list_all (low p) (take k ts) ≡ true → list_all (low p) (take (k + 1) ts) ≡ true
straight-term p ts k n t lt e s h before =
    let here : low p (get_or ts k t) ≡ true = ap (low p) (got ts k t t e) ∙ le_on (state_degree p t.mono.powers) (omega (arith, s, h)) in
    list_all_more (low p) ts k t lt ∙ ap (λ (v : Bool). v && low p (get_or ts k t)) before ∙ here

abbrev has : ℕ → Term → Bool
has place t = nat_lt 0 (slice_index t.mono.powers place)

any-at : (place : ℕ) (ts : List Term) (k : ℕ) (t : Term) → slice_get ts k ≡ Some t → has place t ≡ true → list_any (has place) ts ≡ true
any-at place [] k t e h = absurd (cc)
any-at place (u ∷ ts) zero t e h = first (has place u) (at u t e h)
  where
    at : (u t : Term) → Some u ≡ Some t → has place t ≡ true → has place u ≡ true
    at u t e h = cc

    first : (v : Bool) → v ≡ true → (v || list_any (has place) ts) ≡ true
    first true s = refl
    first false s = absurd (cc)
any-at place (u ∷ ts) (suc k) t e h = later (has place u) (any-at place ts k t e h)
  where
    later : (v : Bool) → list_any (has place) ts ≡ true → (v || list_any (has place) ts) ≡ true
    later true s = refl
    later false s = s

pub found-state : (place n : ℕ) (ts : List Term) (k : ℕ) (t : Term) → slice_get ts k ≡ Some t → n ≡ place → 0 < slice_index t.mono.powers n → true ≡ list_any (has place) ts
found-state place n ts k t e s h = sym (any-at place ts k t e (lt_on (slice_index t.mono.powers place) (subst (λ (w : ℕ). 0 < slice_index t.mono.powers w) s h)))

pub absent-state : (place n : ℕ) (ts : List Term) (k : ℕ) (t : Term) → k < length ts → slice_get ts k ≡ Some t → n ≡ place → slice_index t.mono.powers n ≤ 0 → list_any (has place) (take k ts) ≡ false → list_any (has place) (take (k + 1) ts) ≡ false
absent-state place n ts k t lt e s h before =
    let here : has place (get_or ts k t) ≡ false = ap (has place) (got ts k t t e) ∙ lt_off (slice_index t.mono.powers place) (subst (λ (w : ℕ). slice_index t.mono.powers w ≤ 0) s h) in
    list_any_more (has place) ts k t lt ∙ ap (λ (v : Bool). v || has place (get_or ts k t)) before ∙ here

pub straight-next : (p : Places) (qs : List Scaled) (i : ℕ) (q : Scaled) (r : Bool) → i < length qs → q ≡ get_or qs i q → r ≡ is_linear p (get_or qs i q).poly → r ≡ true → ((j : ℕ) → j < i → is_linear p (side (polys qs) j) ≡ true) → (j : ℕ) → j < i + 1 → is_linear p (side (polys qs) j) ≡ true
straight-next p qs i q r lt e s t before j j_lt = at (j == i) refl
  where
    at : (v : Bool) → (j == i) ≡ v → is_linear p (side (polys qs) j) ≡ true
    at true u = ap (λ (n : ℕ). is_linear p (side (polys qs) n)) (eqb-true j i u) ∙ ap (is_linear p) (polys-at qs i q lt) ∙ sym s ∙ t
    at false u = let ne = eqb-false j i u in before j (omega arith)

-- ---- answers that are none

pub none-answer : {A : Type 0} (o : Option A) (P : Type 0) (Q : A → Type 0) → o ≡ None → P → MatchOption o P Q
none-answer {A} o P Q e h = subst (λ (x : Option A). MatchOption x P Q) (sym e) h
