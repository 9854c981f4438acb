-- Laws of lists of terms.
use Rattle.std.proofs.Common.{◌≡◌, ◌≢◌, ℕ, zero, suc, ◌+◌, ◌*◌, ◌<◌, ◌≤◌, ◌^◌, List, [], ◌∷◌, ◌++◌, take, length, map, sum, refl, sym, ap, ◌∙◌, subst, arith, rules, ℤ, pos, negsuc, ◌+ℤ◌, ◌*ℤ◌, unsigned_abs, FitsSigned, get_or}
use Rattle.std.specs.Int.{w128}
use Rattle.std.specs.Cmp.{IsTotalOrder}
use Rattle.std.specs.Cmp.Rules.{comparing}
use Rattle.std.proofs.lemmas.Int.{ints, fits_signed_from_abs, unsigned_abs-mul}
use Rattle.std.proofs.lemmas.List.{length-map, map-append, take_more, take_all}
use Rattle.std.proofs.lemmas.List.Sums.{sum_by-cons, sum_by_more_le}
use Rattle.std.proofs.Math.Nat.{mul-pos, mul-le-mul_right}
use Rattle.std.specs.declared.cmp.Ordering.{Ordering}
use Rattle.std.specs.declared.cmp.Ordering.TheVariants.{Less, Equal, Greater}
use Rattle.std.specs.Ordering.{nat_cmp, ordering_then}
use Rattle.std.specs.Cmp.Lexicographic.{slice_cmp}
use Rattle.std.proofs.lemmas.Cmp.{ranked}
use Rattle.vp_poly.specs.declared.mono.Mono.{Mono}
use Rattle.vp_poly.specs.declared.mono.Term.{Term}
use Rattle.vp_poly.specs.Poly.{mono_cmp, norm, IsBefore, IsOrdered, IsPoly, term_times, scaled}

pub mono_cmp_total : IsTotalOrder mono_cmp
mono_cmp_total = search (comparing, rules)

pub norm-cons : (t : Term) (ts : List Term) → norm (t ∷ ts) ≡ unsigned_abs t.coef + norm ts
norm-cons t ts = sum_by-cons (λ (u : Term). unsigned_abs u.coef) t ts

-- no coefficient is larger than the norm
pub coef-le-norm : (ts : List Term) (i : ℕ) (d : Term) → i < length ts → unsigned_abs (get_or ts i d).coef ≤ norm ts
coef-le-norm ts i d h = omega (arith, sum_by_more_le (λ (u : Term). unsigned_abs u.coef) ts i d h)

pub product_fits : (ts : List Term) (k : ℤ) (i : ℕ) (d : Term) → i < length ts → norm ts * unsigned_abs k < 2 ^ 126 → FitsSigned w128 (k *ℤ (get_or ts i d).coef)
product_fits ts k i d h small =
    let le = mul-le-mul_right (unsigned_abs k) (coef-le-norm ts i d h) in
    let size = unsigned_abs-mul k (get_or ts i d).coef in
    fits_signed_from_abs w128 _ (omega arith)

pub nonzero_product : (a b : ℤ) → a ≢ pos 0 → b ≢ pos 0 → a *ℤ b ≢ pos 0
nonzero_product a b p q e =
    let a_pos : 0 < unsigned_abs a = omega (arith, ints) in
    let b_pos : 0 < unsigned_abs b = omega (arith, ints) in
    let size = unsigned_abs-mul a b in
    let none : unsigned_abs (a *ℤ b) ≡ 0 = ap unsigned_abs e in
    let some = mul-pos a_pos b_pos in
    omega arith

then_equal : (o p : Ordering) → ordering_then o p ≡ Equal → (o ≡ Equal) × (p ≡ Equal)
then_equal Less p e = cc
then_equal Equal p e = (refl, e)
then_equal Greater p e = cc

pub same_lists : (xs ys : List ℕ) → slice_cmp nat_cmp xs ys ≡ Equal → xs ≡ ys
same_lists [] [] e = refl
same_lists [] (y ∷ ys) e = cc
same_lists (x ∷ xs) [] e = cc
same_lists (x ∷ xs) (y ∷ ys) e =
    let both = then_equal (nat_cmp x y) (slice_cmp nat_cmp xs ys) e in
    let first : x ≡ y = ranked x y Equal (sym both.0) in
    let rest = same_lists xs ys both.1 in
    cc

pub same_powers : (m n : Mono) → mono_cmp m n ≡ Equal → n.powers ≡ m.powers
same_powers m n e = same_lists n.powers m.powers (then_equal (nat_cmp (sum n.powers) (sum m.powers)) (slice_cmp nat_cmp n.powers m.powers) e).1

IsBefore-scaled : (k c : ℤ) (t : Term) (us : List Term) → IsBefore t us → IsBefore (record { mono = t.mono; coef = c }) (scaled k us)
IsBefore-scaled k c t [] h = tt
IsBefore-scaled k c t (u ∷ us) h = (h.0, IsBefore-scaled k c t us h.1)

pub IsOrdered-scaled : (k : ℤ) (ts : List Term) → k ≢ pos 0 → IsOrdered ts → IsOrdered (scaled k ts)
IsOrdered-scaled k [] n h = tt
IsOrdered-scaled k (t ∷ ts) n h =
    (record { not_zero = nonzero_product k t.coef n h.0.not_zero; low = h.0.low; places = h.0.places; before = IsBefore-scaled k (k *ℤ t.coef) t ts h.0.before }, IsOrdered-scaled k ts n h.1)

pub norm-scaled : (k : ℤ) (ts : List Term) → norm (scaled k ts) ≡ norm ts * unsigned_abs k
norm-scaled k [] = omega arith
norm-scaled k (t ∷ ts) =
    let a = norm-cons (term_times k t) (scaled k ts) in
    let b = norm-cons t ts in
    let size = unsigned_abs-mul k t.coef in
    let rest = norm-scaled k ts in
    let wide = ap (λ (n : ℕ). n * unsigned_abs k) b in
    omega arith

pub IsPoly-scaled : (k : ℤ) (ts us : List Term) → us ≡ scaled k ts → k ≢ pos 0 → norm ts * unsigned_abs k < 2 ^ 126 → IsPoly ts → IsPoly us
IsPoly-scaled k ts us e n small h =
    rw e (record { ordered = IsOrdered-scaled k ts n h.ordered; small = omega (arith, norm-scaled k ts); few = omega (arith, h.few, length-map ts (term_times k)) })

-- the loop of `scale` at its end: `ts` is the slice, `ws` the vector's items and `vs` the value
pub scale_done : (k : ℤ) (ts vs ws us : List Term) (i : ℕ) → ts ≡ ws → ws ≡ vs → us ≡ scaled k (take i ts) → length ts ≤ i → k ≢ pos 0 → norm vs * unsigned_abs k < 2 ^ 126 → IsPoly ws → IsPoly us
scale_done k ts vs ws us i e f g le n small h =
    let all : take i ts ≡ ts = take_all i ts le in
    IsPoly-scaled k ws us (g ∙ ap (scaled k) (all ∙ e)) n (subst (λ (l : List Term). norm l * unsigned_abs k < 2 ^ 126) (sym f) small) h

pub ruleset scaling = (product_fits, IsPoly-scaled, take_all)
