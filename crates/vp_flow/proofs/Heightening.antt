-- Heights, one state after the other.
use Rattle.std.proofs.Common.{◌≡◌, ◌≢◌, inl, inr, ℕ, zero, suc, ◌+◌, ◌≤◌, ◌<◌, Bool, true, false, cond, ◌&&◌, ◌||◌, ◌==◌, nat_lt, List, [], ◌∷◌, length, get_or, set, replicate, slice_index, refl, sym, ap, ◌∙◌, subst, arith}
use Rattle.std.proofs.Math.Seq.{get_or-set_other, get_or-set_same}
use Rattle.std.proofs.lemmas.Bool.{eqb-true, eqb-false}
use Rattle.std.proofs.lemmas.List.{length-set}
use Rattle.std.proofs.lemmas.Bool.Decides.{nat_tests}
use Rattle.vp_poly.specs.declared.mono.Term.{Term}
use Rattle.vp_terms.specs.declared.expr.Places.{Places}
use Rattle.vp_flow.specs.Whole.{state_place}
use Rattle.vp_flow.specs.Sides.{side, AreHeights, greatest_where, height_from, occurs, uses}
use Rattle.vp_flow.specs.Order.{IsFree, IsOrder, AreFixed}
use Rattle.vp_flow.proofs.Lie.{no_exponent}

pub greatest-same : (n : ℕ) (t u : ℕ → Bool) (f g : ℕ → ℕ) → ((j : ℕ) → j < n → t j ≡ u j) → ((j : ℕ) → j < n → u j ≡ true → f j ≡ g j) → greatest_where n t f ≡ greatest_where n u g
greatest-same zero t u f g h k = refl
greatest-same (suc n) t u f g h k =
    let a = greatest-same n t u f g (λ j lt. h j (omega arith)) (λ j lt. k j (omega arith)) in
    let b : ◌≡◌ {A = ℕ} (cond (t n) (f n) 0) (cond (u n) (g n) 0) = ap (λ (v : Bool). cond v (f n) 0) (h n (omega arith)) ∙ at (u n) (k n (omega arith)) in
    omega arith
  where
    at : (v : Bool) → (v ≡ true → f n ≡ g n) → ◌≡◌ {A = ℕ} (cond v (f n) 0) (cond v (g n) 0)
    at true e = e refl
    at false e = refl

greatest-below : (n b : ℕ) (t : ℕ → Bool) (f : ℕ → ℕ) → ((j : ℕ) → f j ≤ b) → greatest_where n t f ≤ b
greatest-below zero b t f h = omega arith
greatest-below (suc n) b t f h = let a = greatest-below n b t f h in let c = at (t n) in omega arith
  where
    at : (v : Bool) → cond v (f n) 0 ≤ b
    at true = h n
    at false = omega arith

height-below : (ts : List Term) (n b : ℕ) → n ≤ b → height_from ts n ≤ b + 1
height-below [] n b le = omega arith
height-below (t ∷ ts) n b le = omega arith

-- a state that occurs is not absent
pub not-free : (p : Places) (ss : List (List Term)) (i j : ℕ) → uses p ss i j ≡ true → IsFree p j (side ss i) → ⊥
not-free p ss i j u free = clash (nat_lt j p.states) (occurs p j (side ss i)) u (none (side ss i) free)
  where
    clash : (v w : Bool) → (v && w) ≡ true → w ≡ false → ⊥
    clash true w a b = cc
    clash false w a b = cc

    zero_test : (n : ℕ) → n ≡ 0 → nat_lt 0 n ≡ false
    zero_test n e = grind (arith, nat_tests)

    none : (ts : List Term) → IsFree p j ts → occurs p j ts ≡ false
    none [] h = refl
    none (t ∷ ts) h = ap (λ (v : Bool). v || occurs p j ts) (zero_test (get_or t.mono.powers (state_place p j) 0) (h 0 t (omega arith))) ∙ none ts (λ k d lt. h (suc k) d (omega arith))

pub fixed-none : (p : Places) (ss : List (List Term)) (order : List ℕ) (h : List ℕ) (n : ℕ) → h ≡ replicate n 0 → n ≡ p.states → AreFixed p ss order 0 h
fixed-none p ss order h n e c = record {
  count = ap (λ (l : List ℕ). length l) e ∙ sizes n ∙ c;
  small = λ j. let z = ap (λ (l : List ℕ). get_or l j 0) e ∙ no_exponent n j in omega arith;
  each = λ t lt. absurd (omega arith);
}
  where
    sizes : (n : ℕ) → length {A = ℕ} (replicate n 0) ≡ n
    sizes zero = refl
    sizes (suc n) = ap suc (sizes n)

pub fixed-more : (p : Places) (ss : List (List Term)) (order : List ℕ) (n i v : ℕ) (h : List ℕ) → IsOrder p ss order → n < length order → AreFixed p ss order n h → i ≡ slice_index order n → v ≡ height_from (side ss i) (greatest_where p.states (uses p ss i) (slice_index h)) → AreFixed p ss order (n + 1) (set h i v)
fixed-more p ss order n i v h o lt x is value = record {
  count = length-set h i v ∙ x.count;
  small = λ j. small j (j == i) refl;
  each = λ t t_lt. each t t_lt (slice_index order t == i) refl;
}
  where
    there : i < length h
    there = let c = x.count in let s = o.states n lt in omega (arith, is, s)

    small : (j : ℕ) (w : Bool) → (j == i) ≡ w → slice_index (set h i v) j ≤ n + 1
    small j true t =
        let e : ◌≡◌ {A = ℕ} (get_or (set h i v) j 0) v = ap (λ (k : ℕ). get_or (set h i v) k 0) (eqb-true j i t) ∙ get_or-set_same h i v 0 there in
        let b = greatest-below p.states n (uses p ss i) (slice_index h) x.small in
        let c = height-below (side ss i) (greatest_where p.states (uses p ss i) (slice_index h)) n b in
        omega (arith, e, value)
    small j false t =
        let e : ◌≡◌ {A = ℕ} (get_or (set h i v) j 0) (get_or h j 0) = get_or-set_other h i j v 0 (eqb-false j i t) in
        let s = x.small j in
        omega (arith, e)

    -- what a state up to the number n uses has the height that it had
    kept : (t j s : ℕ) → t ≤ n → s < t → slice_index order s ≡ j → (w : Bool) → (j == i) ≡ w → slice_index (set h i v) j ≡ slice_index h j
    kept t j s le less e true q =
        let same : j ≡ i = eqb-true j i q in
        let own : slice_index h i ≡ v = subst (λ (k : ℕ). slice_index h k ≡ height_from (side ss k) (greatest_where p.states (uses p ss k) (slice_index h))) (e ∙ same) (x.each s (omega arith)) ∙ sym value in
        ap (λ (k : ℕ). get_or (set h i v) k 0) same ∙ get_or-set_same h i v 0 there ∙ sym own ∙ sym (ap (slice_index h) same)
    kept t j s le less e false q = get_or-set_other h i j v 0 (eqb-false j i q)

    used : (t j : ℕ) → t ≤ n → uses p ss (slice_index order t) j ≡ true → j < p.states → slice_index (set h i v) j ≡ slice_index h j
    used t j le u j_lt = elim (o.after t j (omega arith) j_lt) [
      | inl free ↦ absurd (not-free p ss (slice_index order t) j u free)
      | inr s ↦ kept t j s.0 le s.1 s.2 (j == i) refl
    ]

    same_greatest : (t : ℕ) → t ≤ n → greatest_where p.states (uses p ss (slice_index order t)) (slice_index (set h i v)) ≡ greatest_where p.states (uses p ss (slice_index order t)) (slice_index h)
    same_greatest t le = greatest-same p.states (uses p ss (slice_index order t)) (uses p ss (slice_index order t)) (slice_index (set h i v)) (slice_index h) (λ j lt. refl) (λ j j_lt u. used t j le u j_lt)

    each : (t : ℕ) → t < n + 1 → (w : Bool) → (slice_index order t == i) ≡ w → slice_index (set h i v) (slice_index order t) ≡ height_from (side ss (slice_index order t)) (greatest_where p.states (uses p ss (slice_index order t)) (slice_index (set h i v)))
    each t t_lt true q =
        let e : slice_index order t ≡ i = eqb-true (slice_index order t) i q in
        ap (λ (k : ℕ). get_or (set h i v) k 0) e ∙ get_or-set_same h i v 0 there ∙ value
        ∙ ap (λ (k : ℕ). height_from (side ss k) (greatest_where p.states (uses p ss k) (slice_index h))) (sym e)
        ∙ ap (height_from (side ss (slice_index order t))) (sym (same_greatest t (omega arith)))
    each t t_lt false q =
        let ne = eqb-false (slice_index order t) i q in
        let apart : t ≢ n = λ s. ne (ap (slice_index order) s ∙ sym is) in
        get_or-set_other h i (slice_index order t) v 0 ne ∙ x.each t (omega arith) ∙ ap (height_from (side ss (slice_index order t))) (sym (same_greatest t (omega arith)))

pub fixed-all : (p : Places) (ss : List (List Term)) (order : List ℕ) (h : List ℕ) (n : ℕ) → ((j : ℕ) → j < p.states → (s : ℕ) × (s < length order) × (slice_index order s ≡ j)) → length order ≤ n → AreFixed p ss order n h → AreHeights p ss (slice_index h)
fixed-all p ss order h n all le x = record {
  each = λ i lt.
      let s = all i lt in
      subst (λ (k : ℕ). slice_index h k ≡ height_from (side ss k) (greatest_where p.states (uses p ss k) (slice_index h))) s.2 (x.each s.0 (let a = s.1 in omega arith));
}
