-- Laws of products of lists of terms.
use Rattle.std.proofs.Common.{◌≡◌, ℕ, zero, suc, ◌+◌, ◌*◌, ◌<◌, ◌≤◌, ◌^◌, List, [], ◌∷◌, length, max, sum, refl, sym, ap, ◌∙◌, arith, ℤ, pos, ◌+ℤ◌, ◌*ℤ◌, unsigned_abs, get_or, map, drop, drop-cons, add-one, FitsSigned}
use Rattle.std.specs.Int.{w128}
use Rattle.std.specs.Ordering.{nat_cmp, ordering_then}
use Rattle.std.specs.Cmp.Lexicographic.{slice_cmp}
use Rattle.std.specs.declared.cmp.Ordering.{Ordering}
use Rattle.std.proofs.Math.IntN.{*ℤ-zero, zero-*ℤ}
use Rattle.std.proofs.lemmas.Int.{ints, unsigned_abs-mul}
use Rattle.std.proofs.lemmas.Bool.Decides.{nat_tests}
use Rattle.std.proofs.lemmas.List.{length-map, take_all, drop_all}
use Rattle.std.proofs.lemmas.List.Sums.{sum_by-cons}
use Rattle.vp_poly.specs.declared.mono.Mono.{Mono}
use Rattle.vp_poly.specs.declared.mono.Term.{Term}
use Rattle.vp_poly.specs.Poly.{Powers, mono_cmp, only_at, coef, degree, norm, IsBefore, IsHead, IsOrdered, IsPoly}
use Rattle.vp_poly.specs.Merge.{merged}
use Rattle.vp_poly.specs.Product.{added, term_product, row, with_rows, split_sum}
use Rattle.vp_poly.proofs.Ring.{add-mul, mul-add}
use Rattle.vp_poly.proofs.PolyLaws.{norm-cons, nonzero_product, product_fits}
use Rattle.vp_poly.proofs.MergeLaws.{coef-merged, norm-merged, length-merged, IsOrdered-merged}
use Rattle.vp_poly.proofs.SplitLaws.{split_sum-cong, split_sum-plus, split_sum-zero, split_sum-only}

-- ---- exponents

pub sum-cons : (x : ℕ) (xs : List ℕ) → sum (x ∷ xs) ≡ x + sum xs
sum-cons x xs = sum_by-cons (λ (n : ℕ). n) x xs

pub sum-added : (p q : Powers) → sum (added p q) ≡ sum p + sum q
sum-added [] q = omega arith
sum-added (x ∷ p) [] = omega arith
sum-added (x ∷ p) (y ∷ q) = omega (arith, sum-cons (x + y) (added p q), sum-cons x p, sum-cons y q, sum-added p q)

pub length-added : (p q : Powers) → length p ≡ length q → length (added p q) ≡ length q
length-added [] q e = refl
length-added (x ∷ p) [] e = absurd (omega arith)
length-added (x ∷ p) (y ∷ q) e = omega (arith, length-added p q (omega arith))

-- the sum, exponent by exponent
pub added-each : (r p q : Powers) → length p ≡ length r → length q ≡ length r → ((k : ℕ) → k < length r → get_or r k 0 ≡ get_or p k 0 + get_or q k 0) → r ≡ added p q
added-each [] [] [] d e h = refl
added-each [] (x ∷ p) q d e h = absurd (omega arith)
added-each [] [] (y ∷ q) d e h = absurd (omega arith)
added-each (z ∷ r) [] q d e h = absurd (omega arith)
added-each (z ∷ r) (x ∷ p) [] d e h = absurd (omega arith)
added-each (z ∷ r) (x ∷ p) (y ∷ q) d e h =
    let first : z ≡ x + y = h 0 (omega arith) in
    let rest = added-each r p q (omega arith) (omega arith) (λ k lt. h (suc k) (omega arith)) in
    cc

nat_cmp-shift : (s a b : ℕ) → nat_cmp (s + a) (s + b) ≡ nat_cmp a b
nat_cmp-shift s a b = grind (arith, nat_tests)

slice_cmp-added : (p q r : Powers) → length q ≡ length p → length r ≡ length p → slice_cmp nat_cmp (added p q) (added p r) ≡ slice_cmp nat_cmp q r
slice_cmp-added [] q r d e = refl
slice_cmp-added (x ∷ p) [] r d e = absurd (omega arith)
slice_cmp-added (x ∷ p) (y ∷ q) [] d e = absurd (omega arith)
slice_cmp-added (x ∷ p) (y ∷ q) (z ∷ r) d e =
    let first = nat_cmp-shift x y z in
    let rest = slice_cmp-added p q r (omega arith) (omega arith) in
    ap (λ (o : Ordering). ordering_then o (slice_cmp nat_cmp (added p q) (added p r))) first ∙ ap (ordering_then (nat_cmp y z)) rest

-- a common factor doesn't change the order
pub mono_cmp-added : (p : Powers) (m n : Mono) → length m.powers ≡ length p → length n.powers ≡ length p → mono_cmp (record { powers = added p m.powers }) (record { powers = added p n.powers }) ≡ mono_cmp m n
mono_cmp-added p m n d e =
    let by_degree : nat_cmp (sum (added p n.powers)) (sum (added p m.powers)) ≡ nat_cmp (sum n.powers) (sum m.powers) = rw (sum-added p n.powers, sum-added p m.powers) (nat_cmp-shift (sum p) (sum n.powers) (sum m.powers)) in
    let by_place = slice_cmp-added p n.powers m.powers e d in
    ap (λ (o : Ordering). ordering_then o (slice_cmp nat_cmp (added p n.powers) (added p m.powers))) by_degree
    ∙ ap (ordering_then (nat_cmp (sum n.powers) (sum m.powers))) by_place

-- ---- rows

pub degree-le : (ts : List Term) (i : ℕ) (d : Term) → i < length ts → sum (get_or ts i d).mono.powers ≤ degree ts
degree-le [] i d h = absurd (omega arith)
degree-le (t ∷ ts) zero d h = omega arith
degree-le (t ∷ ts) (suc i) d h = omega (arith, degree-le ts i d (omega arith))

pub coef-row : (x : Term) (ys : List Term) (m : Powers) → length x.mono.powers ≡ 32 → IsOrdered ys → coef (row x ys) m ≡ split_sum m (λ a b. only_at x.mono.powers a x.coef *ℤ coef ys b)
coef-row x [] m n o = sym (split_sum-zero m (λ a b. only_at x.mono.powers a x.coef *ℤ pos 0) (λ a b. *ℤ-zero (only_at x.mono.powers a x.coef)))
coef-row x (y ∷ ys) m n o =
    let first = split_sum-only x.mono.powers y.mono.powers m x.coef y.coef (omega (arith, o.0.places)) in
    let rest = coef-row x ys m n o.1 in
    let apart = split_sum-cong m (λ a b. only_at x.mono.powers a x.coef *ℤ (only_at y.mono.powers b y.coef +ℤ coef ys b)) (λ a b. only_at x.mono.powers a x.coef *ℤ only_at y.mono.powers b y.coef +ℤ only_at x.mono.powers a x.coef *ℤ coef ys b) (λ a b. mul-add (only_at x.mono.powers a x.coef) (only_at y.mono.powers b y.coef) (coef ys b)) in
    let two = split_sum-plus m (λ a b. only_at x.mono.powers a x.coef *ℤ only_at y.mono.powers b y.coef) (λ a b. only_at x.mono.powers a x.coef *ℤ coef ys b) in
    ap (λ (z : ℤ). z +ℤ coef (row x ys) m) (sym first) ∙ ap (λ (z : ℤ). split_sum m (λ a b. only_at x.mono.powers a x.coef *ℤ only_at y.mono.powers b y.coef) +ℤ z) rest ∙ sym two ∙ sym apart

IsBefore-row : (x t : Term) (us : List Term) → length x.mono.powers ≡ 32 → length t.mono.powers ≡ 32 → IsBefore t us → IsOrdered us → IsBefore (term_product x t) (row x us)
IsBefore-row x t [] n h b o = tt
IsBefore-row x t (u ∷ us) n h b o =
    (mono_cmp-added x.mono.powers t.mono u.mono (h ∙ sym n) (o.0.places ∙ sym n) ∙ b.0, IsBefore-row x t us n h b.1 o.1)

pub IsOrdered-row : (x : Term) (xs ys : List Term) → IsHead x xs → IsOrdered ys → sum x.mono.powers + degree ys ≤ 48 → IsOrdered (row x ys)
IsOrdered-row x xs [] h o low = tt
IsOrdered-row x xs (y ∷ ys) h o low = (
  record {
    not_zero = nonzero_product x.coef y.coef h.not_zero o.0.not_zero;
    low = omega (arith, sum-added x.mono.powers y.mono.powers);
    places = length-added x.mono.powers y.mono.powers (h.places ∙ sym o.0.places) ∙ o.0.places;
    before = IsBefore-row x y ys h.places o.0.places o.0.before o.1;
  },
  IsOrdered-row x xs ys h o.1 (omega arith),
)

pub norm-row : (x : Term) (ys : List Term) → norm (row x ys) ≡ unsigned_abs x.coef * norm ys
norm-row x [] = omega arith
norm-row x (y ∷ ys) =
    let a = norm-cons (term_product x y) (row x ys) in
    let b = norm-cons y ys in
    let size = unsigned_abs-mul x.coef y.coef in
    let rest = norm-row x ys in
    let wide = ap (λ (n : ℕ). unsigned_abs x.coef * n) b in
    omega arith

pub degree-row : (x : Term) (ys : List Term) → degree (row x ys) ≤ sum x.mono.powers + degree ys
degree-row x [] = omega arith
degree-row x (y ∷ ys) = omega (arith, degree-row x ys, sum-added x.mono.powers y.mono.powers)

-- ---- all rows

pub coef-with_rows : (out xs ys : List Term) (m : Powers) → IsOrdered xs → IsOrdered ys → coef (with_rows out xs ys) m ≡ coef out m +ℤ split_sum m (λ a b. coef xs a *ℤ coef ys b)
coef-with_rows out [] ys m o p = let none = split_sum-zero m (λ a b. pos 0 *ℤ coef ys b) (λ a b. zero-*ℤ (coef ys b)) in omega (arith, ints)
coef-with_rows out (x ∷ xs) ys m o p =
    let rest = coef-with_rows (merged out (row x ys)) xs ys m o.1 p in
    let joined = coef-merged out (row x ys) m in
    let first = coef-row x ys m o.0.places p in
    let apart = split_sum-cong m (λ a b. (only_at x.mono.powers a x.coef +ℤ coef xs a) *ℤ coef ys b) (λ a b. only_at x.mono.powers a x.coef *ℤ coef ys b +ℤ coef xs a *ℤ coef ys b) (λ a b. add-mul (only_at x.mono.powers a x.coef) (coef xs a) (coef ys b)) in
    let two = split_sum-plus m (λ a b. only_at x.mono.powers a x.coef *ℤ coef ys b) (λ a b. coef xs a *ℤ coef ys b) in
    omega (arith, ints)

pub IsOrdered-with_rows : (out xs ys : List Term) → IsOrdered out → IsOrdered xs → IsOrdered ys → degree xs + degree ys ≤ 48 → IsOrdered (with_rows out xs ys)
IsOrdered-with_rows out [] ys a b c low = a
IsOrdered-with_rows out (x ∷ xs) ys a b c low =
    IsOrdered-with_rows (merged out (row x ys)) xs ys (IsOrdered-merged out (row x ys) a (IsOrdered-row x xs ys b.0 c (omega arith))) b.1 c (omega arith)

-- what one more row takes
pub norm_step : (out : List Term) (x : Term) (xs ys : List Term) → norm (merged out (row x ys)) + norm xs * norm ys ≤ norm out + norm (x ∷ xs) * norm ys
norm_step out x xs ys =
    let a = norm-merged out (row x ys) in
    let b = norm-row x ys in
    let wide = ap (λ (n : ℕ). n * norm ys) (norm-cons x xs) in
    omega arith

pub length_step : (out : List Term) (x : Term) (xs ys : List Term) → length (merged out (row x ys)) + length xs * length ys ≤ length out + length (x ∷ xs) * length ys
length_step out x xs ys =
    let a = length-merged out (row x ys) in
    let b : length (row x ys) ≡ length ys = length-map ys (term_product x) in
    omega arith

pub norm-with_rows : (out xs ys : List Term) → norm (with_rows out xs ys) ≤ norm out + norm xs * norm ys
norm-with_rows out [] ys = omega arith
norm-with_rows out (x ∷ xs) ys = omega (arith, norm-with_rows (merged out (row x ys)) xs ys, norm_step out x xs ys)

pub length-with_rows : (out xs ys : List Term) → length (with_rows out xs ys) ≤ length out + length xs * length ys
length-with_rows out [] ys = omega arith
length-with_rows out (x ∷ xs) ys = omega (arith, length-with_rows (merged out (row x ys)) xs ys, length_step out x xs ys)

pub IsPoly-with_rows : (xs ys : List Term) → IsPoly xs → IsPoly ys → norm xs * norm ys < 2 ^ 126 → length xs * length ys < 2 ^ 32 → degree xs + degree ys ≤ 48 → IsPoly (with_rows [] xs ys)
IsPoly-with_rows xs ys a b small few low =
    record { ordered = IsOrdered-with_rows [] xs ys tt a.ordered b.ordered low; small = omega (arith, norm-with_rows [] xs ys); few = omega (arith, length-with_rows [] xs ys) }

pub coef-product : (xs ys : List Term) (m : Powers) → IsOrdered xs → IsOrdered ys → coef (with_rows [] xs ys) m ≡ split_sum m (λ a b. coef xs a *ℤ coef ys b)
coef-product xs ys m o p = let e = coef-with_rows [] xs ys m o p in omega (arith, ints)

pub ruleset added_each = (added-each)

-- what one row needs
pub row-fits : (x : Term) (ys : List Term) (i : ℕ) (d : Term) → i < length ys → norm ys * unsigned_abs x.coef < 2 ^ 126 → FitsSigned w128 (x.coef *ℤ (get_or ys i d).coef)
row-fits x ys i d h small = product_fits ys x.coef i d h small

pub ruleset rows = (row-fits, degree-le, take_all)

-- `out` has the rows of the first i terms of `a`
pub record HasRows (a b out : List Term) (i : ℕ) : Type 0 where
  pub kept : with_rows out (drop i a) b ≡ with_rows [] a b
  pub small : norm out + norm (drop i a) * norm b < 2 ^ 126

at_next : (a : List Term) (i : ℕ) (d : Term) → i < length a → drop i a ≡ get_or a i d ∷ drop (i + 1) a
at_next a i d h = rw (add-one, drop-cons a i d)

pub HasRows-none : (a b : List Term) → norm a * norm b < 2 ^ 126 → HasRows a b [] 0
HasRows-none a b h = record { kept = refl; small = omega arith }

pub HasRows-small : (a b out : List Term) (i : ℕ) (d : Term) → i < length a → HasRows a b out i → norm b * unsigned_abs (get_or a i d).coef < 2 ^ 126
HasRows-small a b out i d h s =
    let split = ap norm (at_next a i d h) ∙ norm-cons (get_or a i d) (drop (i + 1) a) in
    let wide = ap (λ (n : ℕ). n * norm b) split in
    omega arith

pub HasRows-joins : (a b out r : List Term) (i : ℕ) (d : Term) → i < length a → HasRows a b out i → r ≡ row (get_or a i d) b → norm out + norm r < 2 ^ 126
HasRows-joins a b out r i d h s e =
    let split = ap norm (at_next a i d h) ∙ norm-cons (get_or a i d) (drop (i + 1) a) in
    let wide = ap (λ (n : ℕ). n * norm b) split in
    let one = ap norm e ∙ norm-row (get_or a i d) b in
    omega arith

pub HasRows-more : (a b out r next : List Term) (i : ℕ) (d : Term) → i < length a → HasRows a b out i → r ≡ row (get_or a i d) b → next ≡ merged out r → HasRows a b next (i + 1)
HasRows-more a b out r next i d h s e f =
    let split = at_next a i d h in
    let both : next ≡ merged out (row (get_or a i d) b) = f ∙ ap (merged out) e in
    let step = norm_step out (get_or a i d) (drop (i + 1) a) b in
    let size = ap (λ (l : List Term). norm l * norm b) split in
    let fits : norm (merged out (row (get_or a i d) b)) + norm (drop (i + 1) a) * norm b < 2 ^ 126 = omega (arith, s.small) in
    rw both (record { kept = ap (λ (l : List Term). with_rows out l b) (sym split) ∙ s.kept; small = fits })

pub HasRows-all : (a b out : List Term) (i : ℕ) → length a ≤ i → HasRows a b out i → out ≡ with_rows [] a b
HasRows-all a b out i h s = let e : drop i a ≡ [] = drop_all i a h in ap (λ (l : List Term). with_rows out l b) (sym e) ∙ s.kept

pub ruleset row_steps = (HasRows-none, HasRows-small, HasRows-joins, HasRows-more, HasRows-all, degree-le)
