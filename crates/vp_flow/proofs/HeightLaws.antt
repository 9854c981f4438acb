-- Heights fall along uses.
use Rattle.std.proofs.Common.{◌≡◌, ◌⊎◌, inl, inr, ℕ, zero, suc, ◌≤◌, ◌<◌, max, Bool, true, false, cond, ◌&&◌, ◌||◌, ◌==◌, nat_lt, List, [], ◌∷◌, length, get_or, slice_index, refl, sym, ap, ◌∙◌, arith}
use Rattle.std.specs.List.{list_any}
use Rattle.std.proofs.lemmas.Bool.{eqb-true, eqb-false}
use Rattle.std.proofs.lemmas.Bool.Decides.{nat_tests}
use Rattle.vp_terms.specs.declared.expr.Places.{Places}
use Rattle.vp_poly.specs.declared.mono.Term.{Term}
use Rattle.vp_flow.specs.Whole.{state_place}
use Rattle.vp_flow.specs.Sides.{AreHeights, greatest_where, height_from, occurs, side, uses}
use Rattle.vp_flow.specs.Order.{Fall, IsFree}

pub free-unless : (p : Places) (j : ℕ) (ts : List Term) → occurs p j ts ≡ false → IsFree p j ts
free-unless p j [] e = λ i d lt. absurd (omega arith)
free-unless p j (t ∷ ts) e = at (nat_lt 0 (get_or t.mono.powers (state_place p j) 0)) refl (list_any (λ t. nat_lt 0 (slice_index t.mono.powers (state_place p j))) ts) refl e (free-unless p j ts)
  where
    zero_unless : (n : ℕ) → nat_lt 0 n ≡ false → n ≡ 0
    zero_unless n e = grind (arith, nat_tests)

    both : nat_lt 0 (get_or t.mono.powers (state_place p j) 0) ≡ false → IsFree p j ts → (i : ℕ) (d : Term) → i < length (t ∷ ts) → slice_index (get_or (t ∷ ts) i d).mono.powers (state_place p j) ≡ 0
    both z h zero d lt = zero_unless (get_or t.mono.powers (state_place p j) 0) z
    both z h (suc i) d lt = h i d (omega arith)

    at : (v : Bool) → nat_lt 0 (get_or t.mono.powers (state_place p j) 0) ≡ v → (w : Bool) → list_any (λ t. nat_lt 0 (slice_index t.mono.powers (state_place p j))) ts ≡ w → (v || w) ≡ false → (occurs p j ts ≡ false → IsFree p j ts) → IsFree p j (t ∷ ts)
    at true s w q e more = absurd (cc)
    at false s true q e more = absurd (cc)
    at false s false q e more = both s (more q)

greatest-where : (n j : ℕ) (t : ℕ → Bool) (f : ℕ → ℕ) → j < n → t j ≡ true → f j ≤ greatest_where n t f
greatest-where zero j t f lt e = absurd (omega arith)
greatest-where (suc n) j t f lt e = case (j == n) refl (λ less. greatest-where n j t f less e)
  where
    case : (v : Bool) → (j == n) ≡ v → (j < n → f j ≤ greatest_where n t f) → f j ≤ max (greatest_where n t f) (cond (t n) (f n) 0)
    case true s more =
        let same : j ≡ n = eqb-true j n s in
        let here : cond (t n) (f n) 0 ≡ f j = ap (λ (v : Bool). cond v (f n) 0) (sym (ap t same) ∙ e) ∙ sym (ap f same) in
        omega arith
    case false s more = let ne = eqb-false j n s in let m = more (omega arith) in omega arith

pub falls : (p : Places) (ss : List (List Term)) (h : ℕ → ℕ) → AreHeights p ss h → Fall p ss h
falls p ss h a = record {
  zero_side = λ i lt z. none i (side ss i) refl (sym (a.each i lt) ∙ z);
  used = λ i j lt j_lt. at i j lt j_lt (occurs p j (side ss i)) refl;
}
  where
    none : (i : ℕ) (ts : List Term) → side ss i ≡ ts → height_from ts (greatest_where p.states (uses p ss i) h) ≡ 0 → side ss i ≡ []
    none i [] e z = e
    none i (t ∷ ts) e z = absurd (omega arith)

    above : (i j : ℕ) (ts : List Term) → side ss i ≡ ts → occurs p j ts ≡ true → h i ≡ height_from ts (greatest_where p.states (uses p ss i) h) → h j ≤ greatest_where p.states (uses p ss i) h → h j < h i
    above i j [] e o z le = absurd (cc)
    above i j (t ∷ ts) e o z le = omega arith

    test_on : (x y : ℕ) → x < y → nat_lt x y ≡ true
    test_on x y lt = grind (arith, nat_tests)

    at : (i j : ℕ) → i < p.states → j < p.states → (v : Bool) → occurs p j (side ss i) ≡ v → IsFree p j (side ss i) ⊎ (h j < h i)
    at i j lt j_lt false e = inl (free-unless p j (side ss i) e)
    at i j lt j_lt true e =
        let u : uses p ss i j ≡ true = ap (λ (v : Bool). v && occurs p j (side ss i)) (test_on j p.states j_lt) ∙ e in
        inr (above i j (side ss i) refl e (a.each i lt) (greatest-where p.states j (uses p ss i) h j_lt u))
