-- The series of all states.
use Rattle.std.proofs.Common.{◌≡◌, ◌≢◌, ◌⊎◌, inl, inr, ℕ, zero, suc, ◌+◌, ◌≤◌, ◌<◌, Bool, true, false, ◌==◌, leb, List, [], ◌∷◌, length, replicate, set, slice_get, slice_index, unwrap_or, refl, sym, ap, ◌∙◌, subst, arith, mul-le-mul_left}
use Rattle.std.proofs.lemmas.Bool.{eqb-true, eqb-false, leb-true, leb-false}
use Rattle.std.proofs.lemmas.List.{length-set}
use Rattle.vp_poly.specs.declared.mono.Term.{Term}
use Rattle.vp_poly.specs.Poly.{Powers, coef}
use Rattle.vp_poly.specs.Places.{places_for}
use Rattle.vp_flow.specs.Whole.{zlie, part_at}
use Rattle.vp_flow.specs.Parts.{AreFirst, AreSides, IsDone, IsSized, sides}
use Rattle.vp_flow.specs.Sides.{side}
use Rattle.vp_flow.specs.Order.{IsFree, Fall, IsOrder}
use Rattle.vp_flow.specs.Filled.{AreFilled, row_at}
use Rattle.vp_flow.specs.declared.bounds.Bounds.{Bounds}
use Rattle.vp_flow.specs.declared.rates.Rates.{Rates}
use Rattle.vp_flow.proofs.Falling.{zlie-beyond}

abbrev Series : Type 0
Series = List (List (List Term))

sized-none : (b : Bounds) (k : ℕ) → 1 ≤ b.degree → IsSized b k []
sized-none b k one = let m = mul-le-mul_left k one in record { norm_le = omega arith; degree_le = omega arith; length_le = omega arith }

past : {X : Type 0} → (xs : List X) (k : ℕ) (d : X) → length xs ≤ k → unwrap_or (slice_get xs k) d ≡ d
past [] k d le = refl
past (x ∷ xs) zero d le = absurd (omega arith)
past (x ∷ xs) (suc k) d le = past xs k d (omega arith)

set-here : {X : Type 0} → (xs : List X) (i : ℕ) (x d : X) → i < length xs → unwrap_or (slice_get (set xs i x) i) d ≡ x
set-here [] i x d lt = absurd (omega arith)
set-here (y ∷ xs) zero x d lt = refl
set-here (y ∷ xs) (suc i) x d lt = set-here xs i x d (omega arith)

set-there : {X : Type 0} → (xs : List X) (i j : ℕ) (x d : X) → j ≢ i → unwrap_or (slice_get (set xs i x) j) d ≡ unwrap_or (slice_get xs j) d
set-there [] i j x d ne = refl
set-there (y ∷ xs) zero zero x d ne = absurd (ne refl)
set-there (y ∷ xs) zero (suc j) x d ne = refl
set-there (y ∷ xs) (suc i) zero x d ne = refl
set-there (y ∷ xs) (suc i) (suc j) x d ne = set-there xs i j x d (λ e. ne (ap suc e))

-- a series up to its height is the whole of it
pub whole-series : (r : Rates) (h : ℕ → ℕ) (j : ℕ) (series : Series) → AreSides r → Fall (places_for r.counts) r.sides h → j < r.counts.states → AreFirst r j (suc (h j)) (row_at series j) → IsDone r j series
whole-series r h j series a f lt x = record { parts = λ k m. at k m (leb k (h j)) refl }
  where
    at : (k : ℕ) (m : Powers) (v : Bool) → leb k (h j) ≡ v → coef (part_at series j k) m ≡ zlie (places_for r.counts) (sides r) j k m
    at k m true t = let le = leb-true k (h j) t in (x.each k (omega arith)).coefficients m
    at k m false t =
        let gt = leb-false k (h j) t in
        let s = x.size in
        ap (λ (ts : List Term). coef ts m) (past (row_at series j) k [] (omega arith)) ∙ sym (zlie-beyond r h a f k j lt gt m)

sized-series : (r : Rates) (i n : ℕ) (own : List (List Term)) → 1 ≤ r.bounds.degree → AreFirst r i n own → (k : ℕ) → IsSized r.bounds k (unwrap_or (slice_get own k) [])
sized-series r i n own one x k = at (leb n k) refl
  where
    at : (v : Bool) → leb n k ≡ v → IsSized r.bounds k (unwrap_or (slice_get own k) [])
    at true t = let le = leb-true n k t in let s = x.size in subst (λ (ts : List Term). IsSized r.bounds k ts) (sym (past own k [] (omega arith))) (sized-none r.bounds k one)
    at false t = let lt = leb-false n k t in (x.each k lt).size

pub filled-none : (r : Rates) (h : ℕ → ℕ) (order : List ℕ) (series : Series) (n : ℕ) → AreSides r → series ≡ replicate n [] → n ≡ r.counts.states → AreFilled r h order 0 series
filled-none r h order series n a e c = record {
  count = ap (λ (s : Series). length s) e ∙ length-none n ∙ c;
  sizes = λ j k. subst (λ (ts : List Term). IsSized r.bounds k ts) (sym (ap (λ (s : Series). part_at s j k) e ∙ part-none n j k)) (sized-none r.bounds k a.degree);
  done = λ t lt. absurd (omega arith);
}
  where
    length-none : (n : ℕ) → length {A = List (List Term)} (replicate n []) ≡ n
    length-none zero = refl
    length-none (suc n) = ap suc (length-none n)

    row-none : (n j : ℕ) → unwrap_or {T = List (List Term)} (slice_get (replicate n []) j) [] ≡ []
    row-none zero j = refl
    row-none (suc n) zero = refl
    row-none (suc n) (suc j) = row-none n j

    part-none : (n j k : ℕ) → part_at (replicate n []) j k ≡ []
    part-none n j k = ap (λ (row : List (List Term)). unwrap_or (slice_get row k) []) (row-none n j)

pub known-in_order : (r : Rates) (h : ℕ → ℕ) (order : List ℕ) (n : ℕ) (series : Series) → AreSides r → Fall (places_for r.counts) r.sides h → IsOrder (places_for r.counts) r.sides order → n < length order → AreFilled r h order n series → (j : ℕ) → j < r.counts.states → IsFree (places_for r.counts) j (side r.sides (slice_index order n)) ⊎ IsDone r j series
known-in_order r h order n series a f o lt x j j_lt = elim (o.after n j lt j_lt) [
  | inl free ↦ inl free
  | inr s ↦ inr (subst (λ (i : ℕ). IsDone r i series) s.2 (whole-series r h (slice_index order s.0) series a f (o.states s.0 (let b = s.1 in omega arith)) (x.done s.0 s.1)))
]

pub filled-more : (r : Rates) (h : ℕ → ℕ) (order : List ℕ) (n i : ℕ) (series new : Series) (own : List (List Term)) → AreSides r → AreFilled r h order n series → i ≡ slice_index order n → i < r.counts.states → new ≡ set series i own → AreFirst r i (suc (h i)) own → AreFilled r h order (n + 1) new
filled-more r h order n i series new own a x e lt same p = record {
  count = ap (λ (s : Series). length s) same ∙ length-set series i own ∙ x.count;
  sizes = λ j k. subst (λ (s : Series). IsSized r.bounds k (part_at s j k)) (sym same) (size j k (j == i) refl);
  done = λ t t_lt. subst (λ (s : Series). AreFirst r (slice_index order t) (suc (h (slice_index order t))) (row_at s (slice_index order t))) (sym same) (here t t_lt (slice_index order t == i) refl);
}
  where
    there : i < length series
    there = let c = x.count in omega arith

    size : (j k : ℕ) (v : Bool) → (j == i) ≡ v → IsSized r.bounds k (part_at (set series i own) j k)
    size j k true t =
        let s : j ≡ i = eqb-true j i t in
        subst (λ (row : List (List Term)). IsSized r.bounds k (unwrap_or (slice_get row k) [])) (sym (ap (λ (l : ℕ). row_at (set series i own) l) s ∙ set-here series i own [] there)) (sized-series r i (suc (h i)) own a.degree p k)
    size j k false t =
        let ne = eqb-false j i t in
        subst (λ (row : List (List Term)). IsSized r.bounds k (unwrap_or (slice_get row k) [])) (sym (set-there series i j own [] ne)) (x.sizes j k)

    here : (t : ℕ) → t < n + 1 → (v : Bool) → (slice_index order t == i) ≡ v → AreFirst r (slice_index order t) (suc (h (slice_index order t))) (row_at (set series i own) (slice_index order t))
    here t t_lt true q =
        let s : i ≡ slice_index order t = sym (eqb-true (slice_index order t) i q) in
        subst (λ (l : ℕ). AreFirst r l (suc (h l)) (row_at (set series i own) l)) s (subst (λ (row : List (List Term)). AreFirst r i (suc (h i)) row) (sym (set-here series i own [] there)) p)
    here t t_lt false q =
        let ne : slice_index order t ≢ i = eqb-false (slice_index order t) i q in
        let apart : t ≢ n = λ s. ne (ap (slice_index order) s ∙ sym e) in
        subst (λ (row : List (List Term)). AreFirst r (slice_index order t) (suc (h (slice_index order t))) row) (sym (set-there series i (slice_index order t) own [] ne)) (x.done t (omega arith))
