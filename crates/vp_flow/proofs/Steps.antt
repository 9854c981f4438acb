-- One term more of a right side whose states are replaced.
use Rattle.std.proofs.Common.{◌≡◌, ℕ, zero, suc, ◌+◌, ◌*◌, ◌^◌, ◌≤◌, ◌<◌, max, Bool, true, false, ◌==◌, ltb, List, [], ◌∷◌, ◌++◌, length, sum, take, set, get_or, Option, Some, slice_get, unwrap_or, refl, sym, ap, ◌∙◌, subst, arith, ℤ, pos, ◌+ℤ◌, ◌*ℤ◌, unsigned_abs, mul-le-mul, mul-le-mul_right, add-mul, take_all}
use Rattle.std.proofs.lemmas.Int.{ints}
use Rattle.std.proofs.lemmas.List.{length-append, length-take}
use Rattle.std.proofs.lemmas.Option.{slice_get_within, get_or_from_slice_get, slice_get-get_or}
use Rattle.std.proofs.lemmas.Bool.{eqb-true, eqb-false, ltb-true, ltb-false}
use Rattle.vp_terms.specs.declared.expr.Places.{Places}
use Rattle.vp_poly.specs.declared.mono.Term.{Term}
use Rattle.vp_poly.specs.Poly.{Powers, IsPoly, IsOrdered, IsWithin, only_at, coef, norm, degree}
use Rattle.vp_poly.specs.Product.{split_sum}
use Rattle.vp_poly.proofs.SplitLaws.{split_sum-zero, split_sum-cong}
use Rattle.vp_poly.proofs.PolyLaws.{norm-cons}
use Rattle.vp_poly.proofs.RowLaws.{sum-cons}
use Rattle.vp_flow.specs.Series.{state_degree}
use Rattle.vp_flow.specs.Whole.{conv, state_place, zfactor, part_at}
use Rattle.vp_flow.specs.Parts.{HasState, HasRoom, IsLinear, IsReplaced, greatest}
use Rattle.vp_flow.proofs.Convolution.{total-zero}
use Rattle.vp_flow.proofs.Lie.{left_none, right_none, cond_none}
use Rattle.vp_flow.proofs.Replacing.{zstates-term, zstates-dropped, zstates-more}

pub greatest-le : (n j : ℕ) (f : ℕ → ℕ) → j < n → f j ≤ greatest n f
greatest-le zero j f lt = absurd (omega arith)
greatest-le (suc n) j f lt = case (greatest-le n j f) (j == n) refl
  where
    case : (j < n → f j ≤ greatest n f) → (v : Bool) → (j == n) ≡ v → f j ≤ max (greatest n f) (f n)
    case more true t = let s = ap f (eqb-true j n t) in omega arith
    case more false t = let ne = eqb-false j n t in let m = more (omega arith) in omega arith

pub greatest-within : (n b : ℕ) (f : ℕ → ℕ) → ((j : ℕ) → j < n → f j ≤ b) → greatest n f ≤ b
greatest-within zero b f h = omega arith
greatest-within (suc n) b f h = let a = greatest-within n b f (λ j lt. h j (omega arith)) in let c = h n (omega arith) in omega arith

pub sum_lowered : (m : Powers) (t : ℕ) → sum (set m t 0) + get_or m t 0 ≡ sum m
sum_lowered [] t = refl
sum_lowered (x ∷ m) zero = omega (arith, sum-cons x m, sum-cons 0 m)
sum_lowered (x ∷ m) (suc t) = let r = sum_lowered m t in omega (arith, sum-cons x m, sum-cons x (set m t 0))

pub norm-more : (ts : List Term) (t : Term) → norm (ts ++ t ∷ []) ≡ norm ts + unsigned_abs t.coef
norm-more [] t = omega (arith, norm-cons t [])
norm-more (u ∷ ts) t = let r = norm-more ts t in omega (arith, norm-cons u ts, norm-cons u (ts ++ t ∷ []))

pub degree-more : (ts : List Term) (t : Term) → degree (ts ++ t ∷ []) ≡ max (degree ts) (sum t.mono.powers)
degree-more [] t = omega arith
degree-more (u ∷ ts) t = let r = degree-more ts t in omega arith

pub length-more : (ts : List Term) (t : Term) → length (ts ++ t ∷ []) ≡ length ts + 1
length-more ts t = length-append ts (t ∷ [])

pub take-more : (ts : List Term) (n : ℕ) (t : Term) → slice_get ts n ≡ Some t → take (n + 1) ts ≡ take n ts ++ t ∷ []
take-more ts n t e = rw (let s : n + 1 ≡ suc n = omega arith in s) (at ts n e)
  where
    at : (ts : List Term) (n : ℕ) → slice_get ts n ≡ Some t → take (suc n) ts ≡ take n ts ++ t ∷ []
    at [] n e = cc
    at (u ∷ ts) zero e = cc
    at (u ∷ ts) (suc n) e = ap (λ (l : List Term). u ∷ l) (at ts n e)

pub norm-front : (ts : List Term) (n : ℕ) → norm (take n ts) ≤ norm ts
norm-front ts zero = omega arith
norm-front [] (suc n) = omega arith
norm-front (u ∷ ts) (suc n) = let r = norm-front ts n in omega (arith, norm-cons u ts, norm-cons u (take n ts))

pub degree-front : (ts : List Term) (n : ℕ) → degree (take n ts) ≤ degree ts
degree-front ts zero = omega arith
degree-front [] (suc n) = omega arith
degree-front (u ∷ ts) (suc n) = let r = degree-front ts n in omega arith

pub places-at : (ts : List Term) (n : ℕ) (t : Term) → IsOrdered ts → slice_get ts n ≡ Some t → length t.mono.powers ≡ 32
places-at [] n t o e = cc
places-at (u ∷ ts) zero t o e = let s : u ≡ t = cc in subst (λ (v : Term). length v.mono.powers ≡ 32) s o.0.places
places-at (u ∷ ts) (suc n) t o e = places-at ts n t o.1 e

-- a list of no terms is a polynomial without any coefficient
conv-empty : (f : Powers → ℤ) (ts : List Term) (m : Powers) → ts ≡ [] → conv f (coef ts) m ≡ pos 0
conv-empty f ts m e = split_sum-zero m (λ a b. f a *ℤ coef ts b) (λ a b. right_none (f a) (coef ts b) (ap (λ (l : List Term). coef l b) e))

plus_zero : (x y z w : ℤ) → x ≡ z → w ≡ pos 0 → y ≡ z +ℤ w → x ≡ y
plus_zero x y z w e f g = omega (arith, ints)

-- ---- the three ways

pub dropped : (p : Places) (g : ℕ → List Term) (ts out : List Term) (t : Term) → IsReplaced p g ts out → p.params + p.states ≤ 32 → length t.mono.powers ≡ 32 → state_degree p t.mono.powers ≡ 0 → IsReplaced p g (ts ++ t ∷ []) out
dropped p g ts out t x few len none = record {
  coefficients = λ m. plus_zero _ _ _ _ (x.coefficients m) (zstates-dropped p (λ j. coef (g j)) t few len none m) (zstates-more p (λ j. coef (g j)) ts t m);
  norm_le = let a = x.norm_le in let b = mul-le-mul_right (greatest p.states (λ j. norm (g j))) (let le : norm ts ≤ norm (ts ++ t ∷ []) = omega (arith, norm-more ts t) in le) in omega arith;
  degree_le = λ d h. x.degree_le d (omega (arith, degree-more ts t));
  length_le = let a = x.length_le in let b = mul-le-mul_right (greatest p.states (λ j. length (g j))) (let le : length ts ≤ length (ts ++ t ∷ []) = omega (arith, length-more ts t) in le) in omega arith;
}

pub missing : (p : Places) (g : ℕ → List Term) (ts out : List Term) (t : Term) (j : ℕ) → IsReplaced p g ts out → p.params + p.states ≤ 32 → length t.mono.powers ≡ 32 → state_degree p t.mono.powers ≤ 1 → HasState p j t.mono.powers → g j ≡ [] → IsReplaced p g (ts ++ t ∷ []) out
missing p g ts out t j x few len linear s e = record {
  coefficients = λ m.
      plus_zero _ _ _ _ (x.coefficients m)
      (zstates-term p (λ l. coef (g l)) t j s.below few len linear s.has m ∙ conv-empty (λ a. only_at (set t.mono.powers (state_place p j) 0) a t.coef) (g j) m e) (zstates-more p (λ j. coef (g j)) ts t m);
  norm_le = let a = x.norm_le in let b = mul-le-mul_right (greatest p.states (λ j. norm (g j))) (let le : norm ts ≤ norm (ts ++ t ∷ []) = omega (arith, norm-more ts t) in le) in omega arith;
  degree_le = λ d h. x.degree_le d (omega (arith, degree-more ts t));
  length_le = let a = x.length_le in let b = mul-le-mul_right (greatest p.states (λ j. length (g j))) (let le : length ts ≤ length (ts ++ t ∷ []) = omega (arith, length-more ts t) in le) in omega arith;
}

added_coefficient : (a b c d e : ℤ) → a ≡ b +ℤ c → b ≡ d → c ≡ e → a ≡ d +ℤ e
added_coefficient a b c d e f g h = omega (arith, ints)

pub joined : (p : Places) (g : ℕ → List Term) (ts out : List Term) (t : Term) (j : ℕ) (single part multiple more : List Term) → IsReplaced p g ts out → p.params + p.states ≤ 32 → length t.mono.powers ≡ 32 → state_degree p t.mono.powers ≤ 1 → HasState p j t.mono.powers → g j ≡ part → ((a : Powers) → coef single a ≡ only_at (set t.mono.powers (state_place p j) 0) a t.coef) → ((m : Powers) → coef multiple m ≡ split_sum m (λ a b. coef single a *ℤ coef part b)) → ((m : Powers) → coef more m ≡ coef out m +ℤ coef multiple m) → IsWithin single (unsigned_abs t.coef) (sum (set t.mono.powers (state_place p j) 0)) 1 → IsWithin multiple (norm single * norm part) (degree single + degree part) (length single * length part) → IsWithin more (norm out + norm multiple) (max (degree out) (degree multiple)) (length out + length multiple) → IsReplaced p g (ts ++ t ∷ []) more
joined p g ts out t j single part multiple more x few len linear s e sc mc qc ss ms qs = record {
  coefficients = λ m.
      added_coefficient _ _ _ _ _ (qc m) (x.coefficients m)
      (mc m
      ∙ split_sum-cong m (λ a b. coef single a *ℤ coef part b) (λ a b. only_at (set t.mono.powers (state_place p j) 0) a t.coef *ℤ coef (g j) b)
      (λ a b. ap (λ (w : ℤ). w *ℤ coef part b) (sc a) ∙ ap (λ (l : List Term). only_at (set t.mono.powers (state_place p j) 0) a t.coef *ℤ coef l b) (sym e))
      ∙ sym (zstates-term p (λ l. coef (g l)) t j s.below few len linear s.has m))
      ∙ sym (zstates-more p (λ j. coef (g j)) ts t m);
  norm_le =
      let n = greatest p.states (λ j. norm (g j)) in
      let a = x.norm_le in
      let k : norm part ≤ greatest p.states (λ j. norm (g j)) = subst (λ (l : List Term). norm l ≤ greatest p.states (λ j. norm (g j))) e (greatest-le p.states j (λ j. norm (g j)) s.below) in
      let b : norm single * norm part ≤ unsigned_abs t.coef * greatest p.states (λ j. norm (g j)) = mul-le-mul ss.norm_le k in
      let c = ap (λ (w : ℕ). w * greatest p.states (λ j. norm (g j))) (norm-more ts t) in
      omega (arith, add-mul (norm ts) (unsigned_abs t.coef) (greatest p.states (λ j. norm (g j))), ms.norm_le, qs.norm_le);
  degree_le = λ d h.
      let a = x.degree_le d (omega (arith, degree-more ts t)) in
      let k : degree part ≤ greatest p.states (λ j. degree (g j)) = subst (λ (l : List Term). degree l ≤ greatest p.states (λ j. degree (g j))) e (greatest-le p.states j (λ j. degree (g j)) s.below) in
      let low = sum_lowered t.mono.powers (state_place p j) in
      omega (arith, degree-more ts t, ss.degree_le, ms.degree_le, qs.degree_le, s.has);
  length_le =
      let a = x.length_le in
      let k : length part ≤ greatest p.states (λ j. length (g j)) = subst (λ (l : List Term). length l ≤ greatest p.states (λ j. length (g j))) e (greatest-le p.states j (λ j. length (g j)) s.below) in
      let b : length single * length part ≤ 1 * greatest p.states (λ j. length (g j)) = mul-le-mul ss.length_le k in
      let c = ap (λ (w : ℕ). w * greatest p.states (λ j. length (g j))) (length-more ts t) in
      omega (arith, add-mul (length ts) 1 (greatest p.states (λ j. length (g j))), ms.length_le, qs.length_le);
}

-- ---- at the number n

abbrev pub Series : Type 0
Series = List (List (List Term))

pub linear-at : (p : Places) (ts : List Term) (n : ℕ) (t : Term) → IsLinear p ts → slice_get ts n ≡ Some t → state_degree p t.mono.powers ≤ 1
linear-at p ts n t h e = subst (λ (u : Term). state_degree p u.mono.powers ≤ 1) (get_or_from_slice_get ts n t t e) (h n t (slice_get_within ts n t e))

pub part-missing : (series : Series) (j k : ℕ) (own row : List (List Term)) → j < length series → own ≡ row → row ≡ get_or series j row → false ≡ ltb k (length own) → part_at series j k ≡ []
part-missing series j k own row lt same e f =
    let le : length row ≤ k = subst (λ (r : List (List Term)). length r ≤ k) same (ltb-false k (length own) (sym f)) in
    ap (λ (o : Option (List (List Term))). unwrap_or (slice_get (unwrap_or o []) k) []) (slice_get-get_or series j row lt ∙ ap (λ (r : List (List Term)). Some r) (sym e))
    ∙ past row k le
  where
    past : (row : List (List Term)) (k : ℕ) → length row ≤ k → unwrap_or (slice_get row k) [] ≡ []
    past [] k le = refl
    past (x ∷ row) zero le = absurd (omega arith)
    past (x ∷ row) (suc k) le = past row k (omega arith)

pub part-found : (series : Series) (j k : ℕ) (own row : List (List Term)) (part : List Term) → j < length series → own ≡ row → row ≡ get_or series j row → true ≡ ltb k (length own) → part ≡ get_or own k part → part_at series j k ≡ part
part-found series j k own row part lt same e t g =
    let in_range : k < length row = subst (λ (r : List (List Term)). k < length r) same (ltb-true k (length own) (sym t)) in
    let f : part ≡ get_or row k part = subst (λ (r : List (List Term)). part ≡ get_or r k part) same g in
    ap (λ (o : Option (List (List Term))). unwrap_or (slice_get (unwrap_or o []) k) []) (slice_get-get_or series j row lt ∙ ap (λ (r : List (List Term)). Some r) (sym e))
    ∙ ap (λ (o : Option (List Term)). unwrap_or o []) (slice_get-get_or row k part in_range)
    ∙ sym f

-- what is known where the term n is added
pub record IsNext (p : Places) (g : ℕ → List Term) (ts out : List Term) (n : ℕ) (t : Term) : Type 0 where
  pub exact : slice_get ts n ≡ Some t
  pub poly : IsPoly ts
  pub few : p.params + p.states ≤ 32
  pub linear : IsLinear p ts
  pub room : HasRoom p g ts
  pub before : IsReplaced p g (take n ts) out

pub next-dropped : (p : Places) (g : ℕ → List Term) (ts out : List Term) (n : ℕ) (t : Term) → IsNext p g ts out n t → state_degree p t.mono.powers ≡ 0 → IsReplaced p g (take (n + 1) ts) out
next-dropped p g ts out n t x none =
    subst (λ (l : List Term). IsReplaced p g l out) (sym (take-more ts n t x.exact)) (dropped p g (take n ts) out t x.before x.few (places-at ts n t x.poly.ordered x.exact) none)

pub next-missing : (p : Places) (g : ℕ → List Term) (ts out : List Term) (n : ℕ) (t : Term) (j : ℕ) → IsNext p g ts out n t → HasState p j t.mono.powers → g j ≡ [] → IsReplaced p g (take (n + 1) ts) out
next-missing p g ts out n t j x s e =
    subst (λ (l : List Term). IsReplaced p g l out) (sym (take-more ts n t x.exact))
    (missing p g (take n ts) out t j x.before x.few (places-at ts n t x.poly.ordered x.exact) (linear-at p ts n t x.linear x.exact) s e)

pub next-joined : (p : Places) (g : ℕ → List Term) (ts out : List Term) (n : ℕ) (t : Term) (j : ℕ) (single part multiple more : List Term) (lower : Term) → IsNext p g ts out n t → HasState p j t.mono.powers → g j ≡ part → lower.mono.powers ≡ set t.mono.powers (state_place p j) 0 → lower.coef ≡ t.coef → ((a : Powers) → coef single a ≡ only_at lower.mono.powers a lower.coef) → ((m : Powers) → coef multiple m ≡ split_sum m (λ a b. coef single a *ℤ coef part b)) → ((m : Powers) → coef more m ≡ coef out m +ℤ coef multiple m) → IsWithin single (unsigned_abs lower.coef) (sum lower.mono.powers) 1 → IsWithin multiple (norm single * norm part) (degree single + degree part) (length single * length part) → IsWithin more (norm out + norm multiple) (max (degree out) (degree multiple)) (length out + length multiple) → IsReplaced p g (take (n + 1) ts) more
next-joined p g ts out n t j single part multiple more lower x s e lp lc sc mc qc ss ms qs =
    let sc' = subst (λ (l : List ℕ). (a : Powers) → coef single a ≡ only_at l a t.coef) lp (subst (λ (z : ℤ). (a : Powers) → coef single a ≡ only_at lower.mono.powers a z) lc sc) in
    let ss' = subst (λ (l : List ℕ). IsWithin single (unsigned_abs t.coef) (sum l) 1) lp (subst (λ (z : ℤ). IsWithin single (unsigned_abs z) (sum lower.mono.powers) 1) lc ss) in
    subst (λ (l : List Term). IsReplaced p g l more) (sym (take-more ts n t x.exact))
    (joined p g (take n ts) out t j single part multiple more x.before x.few (places-at ts n t x.poly.ordered x.exact) (linear-at p ts n t x.linear x.exact) s e sc' mc qc ss' ms qs)

-- the products and sums that are made there stay in range
pub record IsSmall (out single part multiple : List Term) : Type 0 where
  pub norms : norm single * norm part < 2 ^ 126
  pub lengths : length single * length part < 2 ^ 32
  pub degrees : degree single + degree part ≤ 48

pub next-small : (p : Places) (g : ℕ → List Term) (ts out : List Term) (n : ℕ) (t : Term) (j : ℕ) (single part : List Term) (lower : Term) → IsNext p g ts out n t → HasState p j t.mono.powers → g j ≡ part → lower.mono.powers ≡ set t.mono.powers (state_place p j) 0 → lower.coef ≡ t.coef → IsWithin single (unsigned_abs lower.coef) (sum lower.mono.powers) 1 → IsSmall out single part part
next-small p g ts out n t j single part lower x s e lp lc ss =
    let more = take-more ts n t x.exact in
    let k : norm part ≤ greatest p.states (λ j. norm (g j)) = subst (λ (l : List Term). norm l ≤ greatest p.states (λ j. norm (g j))) e (greatest-le p.states j (λ j. norm (g j)) s.below) in
    let k' : degree part ≤ greatest p.states (λ j. degree (g j)) = subst (λ (l : List Term). degree l ≤ greatest p.states (λ j. degree (g j))) e (greatest-le p.states j (λ j. degree (g j)) s.below) in
    let k'' : length part ≤ greatest p.states (λ j. length (g j)) = subst (λ (l : List Term). length l ≤ greatest p.states (λ j. length (g j))) e (greatest-le p.states j (λ j. length (g j)) s.below) in
    let c : unsigned_abs lower.coef ≤ norm ts = omega (arith, ap (λ (z : ℤ). unsigned_abs z) lc, ap norm more, norm-more (take n ts) t, norm-front ts (n + 1)) in
    let d : sum t.mono.powers ≤ degree ts = omega (arith, ap degree more, degree-more (take n ts) t, degree-front ts (n + 1)) in
    let low = sum_lowered t.mono.powers (state_place p j) in
    let a : norm single * norm part ≤ norm ts * greatest p.states (λ j. norm (g j)) = mul-le-mul (let q : norm single ≤ norm ts = omega (arith, ss.norm_le) in q) k in
    let in_range = slice_get_within ts n t x.exact in
    let b : length single * length part ≤ length ts * greatest p.states (λ j. length (g j)) = mul-le-mul (let q : length single ≤ length ts = omega (arith, ss.length_le) in q) k'' in
    record {
      norms = omega (arith, x.room.small);
      lengths = omega (arith, x.room.few);
      degrees = omega (arith, ap (λ (l : List ℕ). sum l) lp, ss.degree_le, x.room.low, s.has);
    }

pub next-sums : (p : Places) (g : ℕ → List Term) (ts out : List Term) (n : ℕ) (t : Term) (j : ℕ) (single part multiple : List Term) (lower : Term) → IsNext p g ts out n t → HasState p j t.mono.powers → g j ≡ part → lower.coef ≡ t.coef → IsWithin single (unsigned_abs lower.coef) (sum lower.mono.powers) 1 → IsWithin multiple (norm single * norm part) (degree single + degree part) (length single * length part) → (norm out + norm multiple < 2 ^ 126) × (length out + length multiple < 2 ^ 32)
next-sums p g ts out n t j single part multiple lower x s e lc ss ms =
    let more = take-more ts n t x.exact in
    let k : norm part ≤ greatest p.states (λ j. norm (g j)) = subst (λ (l : List Term). norm l ≤ greatest p.states (λ j. norm (g j))) e (greatest-le p.states j (λ j. norm (g j)) s.below) in
    let k'' : length part ≤ greatest p.states (λ j. length (g j)) = subst (λ (l : List Term). length l ≤ greatest p.states (λ j. length (g j))) e (greatest-le p.states j (λ j. length (g j)) s.below) in
    let c : norm (take n ts) + unsigned_abs t.coef ≤ norm ts = omega (arith, ap norm more, norm-more (take n ts) t, norm-front ts (n + 1)) in
    let c' = mul-le-mul_right (greatest p.states (λ j. norm (g j))) c in
    let in_range = slice_get_within ts n t x.exact in
    let d : length (take n ts) + 1 ≤ length ts = omega (arith, length-take n ts) in
    let d' = mul-le-mul_right (greatest p.states (λ j. length (g j))) d in
    let a : norm single * norm part ≤ unsigned_abs t.coef * greatest p.states (λ j. norm (g j)) = mul-le-mul (let q : norm single ≤ unsigned_abs t.coef = omega (arith, ss.norm_le, ap (λ (z : ℤ). unsigned_abs z) lc) in q) k in
    let b : length single * length part ≤ 1 * greatest p.states (λ j. length (g j)) = mul-le-mul ss.length_le k'' in (
      omega (arith, x.room.small, x.before.norm_le, ms.norm_le, add-mul (norm (take n ts)) (unsigned_abs t.coef) (greatest p.states (λ j. norm (g j)))),
      omega (arith, x.room.few, x.before.length_le, ms.length_le, add-mul (length (take n ts)) 1 (greatest p.states (λ j. length (g j)))),
    )

pub replaced-none : (p : Places) (g : ℕ → List Term) (ts out : List Term) → out ≡ [] → IsReplaced p g (take 0 ts) out
replaced-none p g ts out e = subst (λ (l : List Term). IsReplaced p g [] l) (sym e) (record {
  coefficients = λ m. sym (total-zero p.states (λ j. conv (zfactor p j (coef [])) (coef (g j)) m) (λ j lt. split_sum-zero m (λ a b. zfactor p j (coef []) a *ℤ coef (g j) b) (λ a b. left_none (zfactor p j (coef []) a) (coef (g j) b) (cond_none (state_degree p a == 0) (pos 0) refl))));
  norm_le = omega arith;
  degree_le = λ d h. omega arith;
  length_le = omega arith;
})

pub replaced-all : (p : Places) (g : ℕ → List Term) (ts out : List Term) (n : ℕ) → length ts ≤ n → IsReplaced p g (take n ts) out → IsReplaced p g ts out
replaced-all p g ts out n le x = subst (λ (l : List Term). IsReplaced p g l out) (take_all n ts le) x
