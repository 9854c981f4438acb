-- The series of one state.
use Rattle.std.proofs.Common.{◌≡◌, ◌≢◌, ◌⊎◌, inl, inr, ℕ, zero, suc, ◌+◌, ◌-◌, ◌*◌, ◌^◌, ◌≤◌, ◌<◌, Bool, true, false, ◌==◌, List, [], ◌∷◌, ◌++◌, length, sum, replicate, set, get_or, Option, slice_get, unwrap_or, refl, sym, ap, ◌∙◌, subst, arith, ℤ, pos, ◌+ℤ◌, ◌*ℤ◌, mul-le-mul, mul-le-mul_left, mul_comm, pow-suc}
use Rattle.std.proofs.Math.Nat.{pow-zero}
use Rattle.std.proofs.Math.Seq.{get_or-set_same}
use Rattle.std.proofs.lemmas.Int.{ints}
use Rattle.std.proofs.lemmas.Bool.{eqb-true, eqb-false}
use Rattle.std.proofs.lemmas.List.{length-append, length-set}
use Rattle.std.proofs.lemmas.Option.{slice_get-get_or}
use Rattle.vp_terms.specs.declared.expr.Places.{Places}
use Rattle.vp_poly.specs.declared.mono.Term.{Term}
use Rattle.vp_poly.specs.Poly.{Powers, IsOrdered, IsWithin, coef, norm, degree}
use Rattle.vp_poly.specs.Places.{places_for}
use Rattle.vp_poly.proofs.SplitLaws.{split_sum-zero, split_sum-cong}
use Rattle.vp_poly.proofs.RowLaws.{sum-cons}
use Rattle.vp_flow.specs.Series.{state_degree}
use Rattle.vp_flow.specs.Whole.{conv, state_place, zfactor, zstates, zlie, part_at}
use Rattle.vp_flow.specs.Parts.{IsReplaced, HasRoom, IsSized, IsPart, IsSide, AreSides, IsDone, IsLow, AreFirst, sides, greatest}
use Rattle.vp_flow.specs.Sides.{side}
use Rattle.vp_flow.specs.Order.{IsFree}
use Rattle.vp_flow.specs.declared.bounds.Bounds.{Bounds}
use Rattle.vp_flow.specs.declared.rates.Rates.{Rates}
use Rattle.vp_flow.proofs.Convolution.{total-cong}
use Rattle.vp_flow.proofs.Lie.{AreRight, left_none, cond_none, no_exponent, only-length, zlie-first, zlie-next}
use Rattle.vp_flow.proofs.Replacing.{only-none}
use Rattle.vp_flow.proofs.Steps.{greatest-within}

-- ---- where a state doesn't occur

coef-free : (p : Places) (j : ℕ) (ts : List Term) (a : Powers) → p.params + p.states ≤ 32 → j < p.states → IsOrdered ts → IsFree p j ts → coef ts (set a (state_place p j) 1) ≡ pos 0
coef-free p j [] a few lt o free = refl
coef-free p j (t ∷ ts) a few lt o free =
    both (only-none t.mono.powers (set a (state_place p j) 1) t.coef
    (λ q.
    let size : length a ≡ 32 = sym (length-set a (state_place p j) 1) ∙ sym (ap (λ (x : List ℕ). length x) q) ∙ o.0.places in
    let here : ◌≡◌ {A = ℕ} (get_or t.mono.powers (state_place p j) 0) 1 = ap (λ (x : List ℕ). get_or x (state_place p j) 0) q ∙ get_or-set_same a (state_place p j) 1 0 (omega arith) in
    let none : ◌≡◌ {A = ℕ} (get_or t.mono.powers (state_place p j) 0) 0 = free 0 t (omega arith) in
    absurd (omega (arith, here, none))))
    (coef-free p j ts a few lt o.1 (λ i d i_lt. free (suc i) d (omega arith)))
  where
    both : {x y : ℤ} → x ≡ pos 0 → y ≡ pos 0 → x +ℤ y ≡ pos 0
    both {x} {y} e f = omega (arith, ints)

pub zfactor-free : (p : Places) (j : ℕ) (ts : List Term) (a : Powers) → p.params + p.states ≤ 32 → j < p.states → IsOrdered ts → IsFree p j ts → zfactor p j (coef ts) a ≡ pos 0
zfactor-free p j ts a few lt o free = cond_none (state_degree p a == 0) (coef ts (set a (state_place p j) 1)) (coef-free p j ts a few lt o free)

-- ---- the right sides as functions

pub coef-length : (ts : List Term) (a : Powers) → IsOrdered ts → length a ≢ 32 → coef ts a ≡ pos 0
coef-length [] a o ne = refl
coef-length (t ∷ ts) a o ne =
    both (only-length t.mono.powers a t.coef (λ e. ne (sym e ∙ o.0.places))) (coef-length ts a o.1 ne)
  where
    both : {x y : ℤ} → x ≡ pos 0 → y ≡ pos 0 → x +ℤ y ≡ pos 0
    both {x} {y} e f = omega (arith, ints)

pub missing-or : (r : Rates) (i : ℕ) → ((length r.sides ≤ i) × (side r.sides i ≡ [])) ⊎ ((i < length r.sides) × (side r.sides i ≡ get_or r.sides i []))
missing-or r i = at r.sides i
  where
    at : (ss : List (List Term)) (i : ℕ) → ((length ss ≤ i) × (unwrap_or (slice_get ss i) [] ≡ [])) ⊎ ((i < length ss) × (unwrap_or (slice_get ss i) [] ≡ get_or ss i []))
    at [] i = inl (omega arith, refl)
    at (x ∷ ss) zero = inr (omega arith, refl)
    at (x ∷ ss) (suc i) = elim (at ss i) [ inl e ↦ inl (let le = e.0 in omega arith, e.1) | inr e ↦ inr (let lt = e.0 in omega arith, e.1) ]

pub side-is : (r : Rates) (i : ℕ) → AreSides r → i < r.counts.states → IsSide (places_for r.counts) r.bounds (side r.sides i)
side-is r i h lt = elim (missing-or r i) [
  | inl e ↦ (let le = e.0 in let c = h.count in absurd (omega arith))
  | inr e ↦ subst (λ (ts : List Term). IsSide (places_for r.counts) r.bounds ts) (sym e.1) (h.each i [] e.0)
]

pub sides-are_right : (r : Rates) → AreSides r → AreRight (places_for r.counts) (sides r)
sides-are_right r h = record {
  few = h.few;
  none = λ i a ne. elim (missing-or r i) [
    | inl e ↦ ap (λ (ts : List Term). coef ts a) e.1
    | inr e ↦ ap (λ (ts : List Term). coef ts a) e.1 ∙ coef-length (get_or r.sides i []) a (h.each i [] e.0).poly.ordered ne
  ];
}

-- ---- sizes

pub IsSized-itself : (b : Bounds) (ts : List Term) → IsWithin ts 1 1 1 → IsSized b 0 ts
IsSized-itself b ts w = record {
  norm_le = omega (arith, w.norm_le, pow-zero b.norm);
  degree_le = omega (arith, w.degree_le);
  length_le = omega (arith, w.length_le, pow-zero b.terms);
}

power_one : (n : ℕ) → n ^ 1 ≡ n
power_one n = omega (arith, pow-suc n 0, pow-zero n, ap (λ (w : ℕ). w * n) (pow-zero n))

pub IsSized-side : (p : Places) (b : Bounds) (ts : List Term) → IsSide p b ts → IsSized b 1 ts
IsSized-side p b ts s = record {
  norm_le = omega (arith, s.norm_le, power_one b.norm);
  degree_le = omega (arith, s.degree_le);
  length_le = omega (arith, s.length_le, power_one b.terms);
}

greatest-sizes : (n k : ℕ) (b : Bounds) (g : ℕ → List Term) → ((j : ℕ) → IsSized b k (g j)) → (greatest n (λ j. norm (g j)) ≤ b.norm ^ k) × (greatest n (λ j. length (g j)) ≤ b.terms ^ k)
greatest-sizes n k b g h = (greatest-within n (b.norm ^ k) (λ j. norm (g j)) (λ j lt. (h j).norm_le), greatest-within n (b.terms ^ k) (λ j. length (g j)) (λ j lt. (h j).length_le))

-- the greatest degree d of the k-th has d + k ≤ 1 + k * G
greatest-degree : (n k : ℕ) (b : Bounds) (g : ℕ → List Term) → 1 ≤ b.degree → ((j : ℕ) → IsSized b k (g j)) → greatest n (λ j. degree (g j)) + k ≤ 1 + k * b.degree
greatest-degree n k b g one h =
    let q : k ≤ 1 + k * b.degree = (let m = mul-le-mul_left k one in omega arith) in
    let w = greatest-within n (1 + k * b.degree - k) (λ j. degree (g j)) (λ j lt. let d = (h j).degree_le in omega arith) in
    omega arith

pub room-next : (p : Places) (k : ℕ) (b : Bounds) (g : ℕ → List Term) (ts : List Term) → IsSide p b ts → 1 ≤ b.degree → ((j : ℕ) → IsSized b k (g j)) → IsLow b (suc k) → HasRoom p g ts
room-next p k b g ts s one h low =
    let z = greatest-sizes p.states k b g h in
    let d = greatest-degree p.states k b g one h in
    let n : norm ts * greatest p.states (λ j. norm (g j)) ≤ b.norm * b.norm ^ k = mul-le-mul s.norm_le z.0 in
    let l : length ts * greatest p.states (λ j. length (g j)) ≤ b.terms * b.terms ^ k = mul-le-mul s.length_le z.1 in
    record {
      small = omega (arith, low.norm, pow-suc b.norm k, mul_comm b.norm (b.norm ^ k));
      few = omega (arith, low.terms, pow-suc b.terms k, mul_comm b.terms (b.terms ^ k));
      low = omega (arith, s.degree_le, low.degree);
    }

pub IsSized-next : (p : Places) (k : ℕ) (b : Bounds) (g : ℕ → List Term) (ts out : List Term) → IsSide p b ts → 1 ≤ b.degree → ((j : ℕ) → IsSized b k (g j)) → IsReplaced p g ts out → IsSized b (suc k) out
IsSized-next p k b g ts out s one h x =
    let z = greatest-sizes p.states k b g h in
    let d = greatest-degree p.states k b g one h in
    let n : norm ts * greatest p.states (λ j. norm (g j)) ≤ b.norm * b.norm ^ k = mul-le-mul s.norm_le z.0 in
    let l : length ts * greatest p.states (λ j. length (g j)) ≤ b.terms * b.terms ^ k = mul-le-mul s.length_le z.1 in
    let q : k ≤ k * b.degree = (let m = mul-le-mul_left k one in omega arith) in
    let e : suc k * b.degree ≡ b.degree + k * b.degree = omega arith in
    let w = x.degree_le (b.degree + k * b.degree - k) (omega (arith, s.degree_le)) in
    record {
      norm_le = omega (arith, x.norm_le, pow-suc b.norm k, mul_comm b.norm (b.norm ^ k));
      degree_le = omega arith;
      length_le = omega (arith, x.length_le, pow-suc b.terms k, mul_comm b.terms (b.terms ^ k));
    }

-- ---- what a state's series is

-- states that don't occur don't count
zstates-used : (p : Places) (g g' : ℕ → Powers → ℤ) (ts : List Term) → p.params + p.states ≤ 32 → IsOrdered ts → ((j : ℕ) → j < p.states → IsFree p j ts ⊎ ((m : Powers) → g j m ≡ g' j m)) → (m : Powers) → zstates p g (coef ts) m ≡ zstates p g' (coef ts) m
zstates-used p g g' ts few o h m =
    total-cong p.states (λ j. conv (zfactor p j (coef ts)) (g j) m) (λ j. conv (zfactor p j (coef ts)) (g' j) m)
    (λ j lt. elim (h j lt) [
      | inl free ↦ none g j lt free ∙ sym (none g' j lt free)
      | inr same ↦ split_sum-cong m (λ a b. zfactor p j (coef ts) a *ℤ g j b) (λ a b. zfactor p j (coef ts) a *ℤ g' j b) (λ a b. ap (λ (w : ℤ). zfactor p j (coef ts) a *ℤ w) (same b))
    ])
  where
    none : (g : ℕ → Powers → ℤ) (j : ℕ) → j < p.states → IsFree p j ts → conv (zfactor p j (coef ts)) (g j) m ≡ pos 0
    none g j lt free = split_sum-zero m (λ a b. zfactor p j (coef ts) a *ℤ g j b) (λ a b. left_none (zfactor p j (coef ts) a) (g j b) (zfactor-free p j ts a few lt o free))

abbrev pub Known : Rates → ℕ → List (List (List Term)) → Type 0
Known r i series = (j : ℕ) → j < r.counts.states → IsFree (places_for r.counts) j (side r.sides i) ⊎ IsDone r j series

known-at : (r : Rates) (i : ℕ) (series : List (List (List Term))) (k : ℕ) → Known r i series → (j : ℕ) → j < r.counts.states → IsFree (places_for r.counts) j (side r.sides i) ⊎ ((m : Powers) → coef (part_at series j k) m ≡ zlie (places_for r.counts) (sides r) j k m)
known-at r i series k h j lt = elim (h j lt) [ inl free ↦ inl free | inr done ↦ inr (done.parts k) ]

pub IsPart-itself : (r : Rates) (i : ℕ) (ts : List Term) → ((m : Powers) → coef ts m ≡ zlie (places_for r.counts) (sides r) i 0 m) → IsWithin ts 1 1 1 → IsPart r i 0 ts
IsPart-itself r i ts c w = record { coefficients = c; size = IsSized-itself r.bounds ts w }

pub IsPart-first : (r : Rates) (i : ℕ) (ts : List Term) → AreSides r → i < r.counts.states → ts ≡ side r.sides i → IsPart r i 1 ts
IsPart-first r i ts h lt e = record {
  coefficients = λ m. ap (λ (l : List Term). coef l m) e ∙ sym (zlie-first (places_for r.counts) (sides r) i (sides-are_right r h) lt m);
  size = subst (λ (l : List Term). IsSized r.bounds 1 l) (sym e) (IsSized-side (places_for r.counts) r.bounds (side r.sides i) (side-is r i h lt));
}

pub IsPart-next : (r : Rates) (i k : ℕ) (series : List (List (List Term))) (out : List Term) → AreSides r → i < r.counts.states → k ≢ 0 → ((j k : ℕ) → IsSized r.bounds k (part_at series j k)) → Known r i series → IsReplaced (places_for r.counts) (λ j. part_at series j k) (side r.sides i) out → IsPart r i (suc k) out
IsPart-next r i zero series out h lt ne sized known x = absurd (ne refl)
IsPart-next r i (suc k) series out h lt ne sized known x = record {
  coefficients = λ m.
      x.coefficients m
      ∙ zstates-used (places_for r.counts) (λ j. coef (part_at series j (suc k))) (λ j. zlie (places_for r.counts) (sides r) j (suc k)) (side r.sides i) h.few (side-is r i h lt).poly.ordered (known-at r i series (suc k) known) m
      ∙ sym (zlie-next (places_for r.counts) (sides r) k i (sides-are_right r h) lt m);
  size = IsSized-next (places_for r.counts) (suc k) r.bounds (λ j. part_at series j (suc k)) (side r.sides i) out (side-is r i h lt) h.degree (λ j. sized j (suc k)) x;
}

-- ---- the list of them

at-front : (xs : List (List Term)) (x : List Term) (k : ℕ) → k < length xs → unwrap_or (slice_get (xs ++ x ∷ []) k) [] ≡ unwrap_or (slice_get xs k) []
at-front [] x k lt = absurd (omega arith)
at-front (y ∷ xs) x zero lt = refl
at-front (y ∷ xs) x (suc k) lt = at-front xs x k (omega arith)

at-end : (xs : List (List Term)) (x : List Term) (k : ℕ) → k ≡ length xs → unwrap_or (slice_get (xs ++ x ∷ []) k) [] ≡ x
at-end [] x zero e = refl
at-end [] x (suc k) e = absurd (omega arith)
at-end (y ∷ xs) x zero e = absurd (omega arith)
at-end (y ∷ xs) x (suc k) e = at-end xs x k (omega arith)

pub AreFirst-more : (r : Rates) (i n : ℕ) (own : List (List Term)) (x : List Term) → AreFirst r i n own → IsPart r i n x → AreFirst r i (suc n) (own ++ x ∷ [])
AreFirst-more r i n own x h p = record {
  size = omega (arith, length-append own (x ∷ []), h.size);
  each = λ k lt. at k lt (k == n) refl;
}
  where
    at : (k : ℕ) → k < suc n → (v : Bool) → (k == n) ≡ v → IsPart r i k (unwrap_or (slice_get (own ++ x ∷ []) k) [])
    at k lt true t =
        let e : k ≡ n = eqb-true k n t in
        subst (λ (l : List Term). IsPart r i k l) (sym (at-end own x k (e ∙ sym h.size))) (subst (λ (c : ℕ). IsPart r i c x) (sym e) p)
    at k lt false t =
        let ne = eqb-false k n t in
        let s = h.size in
        subst (λ (l : List Term). IsPart r i k l) (sym (at-front own x k (omega arith))) (h.each k (omega arith))

pub AreFirst-one : (r : Rates) (i : ℕ) (own : List (List Term)) (x : List Term) → own ≡ x ∷ [] → IsPart r i 0 x → AreFirst r i 1 own
AreFirst-one r i own x e p = subst (λ (l : List (List Term)). AreFirst r i 1 l) (sym e) (record { size = refl; each = λ k lt. only k lt })
  where
    only : (k : ℕ) → k < 1 → IsPart r i k (unwrap_or (slice_get (x ∷ []) k) [])
    only zero lt = p
    only (suc k) lt = absurd (omega arith)

-- ---- the state itself

sum_changed : (m : Powers) (t v : ℕ) → t < length m → sum (set m t v) + get_or m t 0 ≡ sum m + v
sum_changed [] t v lt = absurd (omega arith)
sum_changed (x ∷ m) zero v lt = omega (arith, sum-cons x m, sum-cons v m)
sum_changed (x ∷ m) (suc t) v lt = let r = sum_changed m t v (omega arith) in omega (arith, sum-cons x m, sum-cons x (set m t v))

sum_none : (n : ℕ) → sum (replicate n 0) ≡ 0
sum_none zero = refl
sum_none (suc n) = let r = sum_none n in omega (arith, sum-cons 0 (replicate n 0))

pub power_sum : (t k : ℕ) → t < 32 → sum (set (replicate 32 0) t k) ≡ k
power_sum t k lt = omega (arith, sum_changed (replicate 32 0) t k lt, no_exponent 32 t, sum_none 32)

pub unit_sum : (t : ℕ) → t < 32 → sum (set (replicate 32 0) t 1) ≡ 1
unit_sum t lt = power_sum t 1 lt

pub power_within : (t k : ℕ) (ps : Powers) (ts : List Term) → t < 32 → ps ≡ set (replicate 32 0) t k → IsWithin ts 1 (sum ps) 1 → IsWithin ts 1 k 1
power_within t k ps ts lt e w = record { norm_le = w.norm_le; degree_le = omega (arith, w.degree_le, ap (λ (l : List ℕ). sum l) e, power_sum t k lt); length_le = w.length_le }

pub unit_within : (t : ℕ) (z : ℤ) (ps : Powers) (ts : List Term) → t < 32 → ps ≡ set (replicate 32 0) t 1 → IsWithin ts 1 (sum ps) 1 → IsWithin ts 1 1 1
unit_within t z ps ts lt e w = record { norm_le = w.norm_le; degree_le = omega (arith, w.degree_le, ap (λ (l : List ℕ). sum l) e, unit_sum t lt); length_le = w.length_le }

pub side-at : (r : Rates) (i : ℕ) (own : List (List Term)) (x : List Term) → i < length r.sides → own ≡ r.sides → x ≡ get_or own i x → x ≡ side r.sides i
side-at r i own x lt same e =
    let f : x ≡ get_or r.sides i x = subst (λ (l : List (List Term)). x ≡ get_or l i x) same e in
    f ∙ sym (ap (λ (o : Option (List Term)). unwrap_or o []) (slice_get-get_or r.sides i x lt))

pub AreFirst-pushed : (r : Rates) (i k : ℕ) (own new : List (List Term)) (x : List Term) → new ≡ own ++ x ∷ [] → AreFirst r i (suc k) own → IsPart r i (suc k) x → AreFirst r i (suc (k + 1)) new
AreFirst-pushed r i k own new x e h p =
    let s : suc k ≡ k + 1 = omega arith in
    subst (λ (l : List (List Term)). AreFirst r i (suc (k + 1)) l) (sym e) (subst (λ (n : ℕ). AreFirst r i (suc n) (own ++ x ∷ [])) s (AreFirst-more r i (suc k) own x h p))
