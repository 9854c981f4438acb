-- Laws of the places that a renaming moves, and of the exponents at them.
use Rattle.std.proofs.Common.{◌≡◌, ◌≢◌, ℕ, zero, suc, ◌+◌, ◌<◌, ◌≤◌, Bool, true, false, cond, ◌==◌, List, [], ◌∷◌, length, sum, sum_by, get_or, set, slice_index, refl, sym, ap, ◌∙◌, subst, arith, ◌⊎◌, inl, inr, pos}
use Rattle.std.specs.List.{range_with_len, All, swap}
use Rattle.std.specs.List.Sorted.{IsPermutation}
use Rattle.std.proofs.lemmas.Bool.{cases_lt, eq-eqb, eqb-true, eqb-false}
use Rattle.std.proofs.Math.ListN.{get_or-eq_default}
use Rattle.std.proofs.lemmas.Bool.Decides.{nat_tests}
use Rattle.std.proofs.lemmas.Grind.{same_number_lists}
use Rattle.std.proofs.lemmas.List.{get_or-map, length-map, get_or-set_same, get_or-set_other}
use Rattle.std.proofs.lemmas.List.Elements.{All-from_get_or, All-get_or}
use Rattle.std.proofs.lemmas.List.FromFn.{length-range_with_len, get_or-range_with_len, get_or-map-range_with_len, length-map-range_with_len}
use Rattle.std.proofs.lemmas.List.Sorted.{length_permutation, All-permutation, Contains-permutation, sum_by-IsPermutation, IsPermutation-refl, IsPermutation-trans, IsPermutation-swap}
use Rattle.std.proofs.lemmas.List.Sums.{sum_by-cons, get_or-le-sum_by, sum-map}
use Rattle.vp_terms.specs.Rational.{Rational, whole, product, power, Equals}
use Rattle.vp_terms.proofs.RationalLaws.{chain, Equals-refl, Equals-sym, Equals-product}
use Rattle.vp_poly.specs.Places.{IsBelow, HasOnly, IsRenaming, SendsAllowed, before_renaming, point_before}
use Rattle.vp_poly.specs.Renaming.{place_of, moved}
use Rattle.vp_poly.specs.Value.{Point, powers_value}
use Rattle.vp_poly.proofs.ProductValues.{product-assoc, product-comm}
use Rattle.vp_poly.proofs.RowLaws.{sum-cons}

-- ---- places

-- a list that holds each number below n once, place by place
pub record IsTurned (n : ℕ) (to : List ℕ) : Type 0 where
  pub size : length to ≡ n
  pub below : (k : ℕ) → k < n → get_or to k 0 < n
  pub source : (j : ℕ) → j < n → place_of to j < n
  pub there : (j : ℕ) → j < n → get_or to (place_of to j) 0 ≡ j
  pub back : (k : ℕ) → k < n → place_of to (get_or to k 0) ≡ k

abbrev one_at : ℕ → ℕ → ℕ
one_at v x = cond (x == v) 1 0

-- how often v stands in the list
abbrev pub count : ℕ → List ℕ → ℕ
count v xs = sum_by (one_at v) xs

one_at-self : (v x : ℕ) → x ≡ v → one_at v x ≡ 1
one_at-self v x e = rw (eq-eqb x v e) refl

one_at-other : (v x : ℕ) → x ≢ v → one_at v x ≡ 0
one_at-other v x n = grind (arith, nat_tests)

pub count-cons : (v x : ℕ) (xs : List ℕ) → count v (x ∷ xs) ≡ one_at v x + count v xs
count-cons v x xs = sum_by-cons (one_at v) x xs

count-one : (xs : List ℕ) (v k : ℕ) → k < length xs → get_or xs k 0 ≡ v → 1 ≤ count v xs
count-one xs v k h e = omega (arith, get_or-le-sum_by (one_at v) xs k 0 h, one_at-self v (get_or xs k 0) e)

count-two : (xs : List ℕ) (v k l : ℕ) → k < l → l < length xs → get_or xs k 0 ≡ v → get_or xs l 0 ≡ v → 2 ≤ count v xs
count-two [] v k l h i e f = absurd (omega arith)
count-two (x ∷ xs) v k zero h i e f = absurd (omega arith)
count-two (x ∷ xs) v zero (suc l) h i e f = omega (arith, count-cons v x xs, one_at-self v x e, count-one xs v l (omega arith) f)
count-two (x ∷ xs) v (suc k) (suc l) h i e f = omega (arith, count-cons v x xs, count-two xs v k l (omega arith) (omega arith) e f)

count-range_none : (n a v : ℕ) → v < a → count v (range_with_len a n) ≡ 0
count-range_none zero a v h = refl
count-range_none (suc n) a v h =
    omega (arith, count-cons v a (range_with_len (a + 1) n), one_at-other v a (omega arith), count-range_none n (a + 1) v (omega arith))

count-range : (n a v : ℕ) → count v (range_with_len a n) ≤ 1
count-range zero a v = omega arith
count-range (suc n) a v = case (a == v) refl (count-range n (a + 1) v)
  where
    case : (b : Bool) → (a == v) ≡ b → count v (range_with_len (a + 1) n) ≤ 1 → count v (a ∷ range_with_len (a + 1) n) ≤ 1
    case true e more = let s : a ≡ v = eqb-true a v e in omega (arith, count-cons v a (range_with_len (a + 1) n), one_at-self v a s, count-range_none n (a + 1) v (omega arith))
    case false e more = omega (arith, count-cons v a (range_with_len (a + 1) n), one_at-other v a (eqb-false a v e))

place_of-found : (xs : List ℕ) (j k : ℕ) → k < length xs → get_or xs k j ≡ j → (place_of xs j < length xs) × (get_or xs (place_of xs j) 0 ≡ j)
place_of-found [] j k h e = absurd (omega arith)
place_of-found (x ∷ xs) j k h e = case (λ i lt f. place_of-found xs j i lt f) (x == j) refl k h e
  where
    case : ((i : ℕ) → i < length xs → get_or xs i j ≡ j → (place_of xs j < length xs) × (get_or xs (place_of xs j) 0 ≡ j)) → (b : Bool) → (x == j) ≡ b → (k : ℕ) → k < length (x ∷ xs) → get_or (x ∷ xs) k j ≡ j → (cond b 0 (suc (place_of xs j)) < length (x ∷ xs)) × (get_or (x ∷ xs) (cond b 0 (suc (place_of xs j))) 0 ≡ j)
    case more true t k h e = (omega arith, eqb-true x j t)
    case more false t zero h e = absurd (eqb-false x j t e)
    case more false t (suc k) h e = let r = more k (omega arith) e in (omega (arith, r.0), r.1)

-- a number that stands at most once stands at one place
one_place : (xs : List ℕ) (v k l : ℕ) → k < length xs → l < length xs → get_or xs k 0 ≡ v → get_or xs l 0 ≡ v → count v xs ≤ 1 → k ≡ l
one_place xs v k l h i e f once = case (cases_lt k l) (cases_lt l k)
  where
    case : (k < l) ⊎ (l ≤ k) → (l < k) ⊎ (k ≤ l) → k ≡ l
    case (inl lt) o = absurd (omega (arith, count-two xs v k l lt i e f))
    case (inr le) (inl lt) = absurd (omega (arith, count-two xs v l k lt h f e))
    case (inr le) (inr ge) = omega arith

turned : (n : ℕ) (to : List ℕ) → IsPermutation (range_with_len 0 n) to → IsTurned n to
turned n to h = record {
  size = size;
  below = λ k lt. All-get_or (λ x. x < n) to k 0 (omega (arith, size)) (All-permutation (λ x. x < n) (range_with_len 0 n) to h all_below);
  source = λ j lt. let f = found j lt in omega (arith, f.0, size);
  there = λ j lt. (found j lt).1;
  back = λ k lt. same k lt;
}
  where
    size : length to ≡ n
    size = length_permutation (range_with_len 0 n) to h ∙ length-range_with_len 0 n

    all_below : All (λ x. x < n) (range_with_len 0 n)
    all_below = All-from_get_or (λ x. x < n) (range_with_len 0 n) 0 (λ i lt. let e = length-range_with_len 0 n in omega (arith, get_or-range_with_len 0 n i 0 (omega arith)))

    found : (j : ℕ) → j < n → (place_of to j < length to) × (get_or to (place_of to j) 0 ≡ j)
    found j lt =
        let c = Contains-permutation (range_with_len 0 n) to j h (j, (let e = length-range_with_len 0 n in omega arith), (let e = get_or-range_with_len 0 n j j lt in omega arith)) in
        place_of-found to j c.0 c.1 c.2

    once : (v : ℕ) → count v to ≤ 1
    once v = omega (arith, sum_by-IsPermutation (one_at v) (range_with_len 0 n) to h, count-range n 0 v)

    below : (k : ℕ) → k < n → get_or to k 0 < n
    below k lt = All-get_or (λ x. x < n) to k 0 (omega (arith, size)) (All-permutation (λ x. x < n) (range_with_len 0 n) to h all_below)

    same : (k : ℕ) → k < n → place_of to (get_or to k 0) ≡ k
    same k lt =
        let f = found (get_or to k 0) (below k lt) in
        one_place to (get_or to k 0) (place_of to (get_or to k 0)) k f.0 (omega (arith, size)) f.1 refl (once (get_or to k 0))

pub IsTurned-of : (to : List ℕ) → IsRenaming to → IsTurned 32 to
IsTurned-of to h = turned 32 to h

-- ---- exponents

pub length-moved : (to p : List ℕ) → length (moved to p) ≡ 32
unfolding moved
length-moved to p = length-map-range_with_len (λ j. slice_index p (place_of to j)) 0 32

pub get_or-moved : (to p : List ℕ) (j : ℕ) → j < 32 → get_or (moved to p) j 0 ≡ get_or p (place_of to j) 0
unfolding moved
get_or-moved to p j h = get_or-map-range_with_len (λ i. slice_index p (place_of to i)) 0 32 j j 0 h (omega arith)

pub moved-each : (to p r : List ℕ) → IsTurned 32 to → length r ≡ 32 → ((k : ℕ) → k < 32 → get_or r (get_or to k 0) 0 ≡ get_or p k 0) → r ≡ moved to p
moved-each to p r t size h = same_number_lists r (moved to p) (size ∙ sym (length-moved to p)) (λ j lt.
    let low : j < 32 = omega (arith, size) in
    ap (λ (i : ℕ). get_or r i 0) (sym (t.there j low)) ∙ h (place_of to j) (t.source j low) ∙ sym (get_or-moved to p j low))

-- one more exponent is moved
pub moved-step : (to p r s : List ℕ) (k : ℕ) → IsRenaming to → k < 32 → length r ≡ 32 → s ≡ set r (get_or to k 0) (get_or p k 0) → ((j : ℕ) → j < k → get_or r (get_or to j 0) 0 ≡ get_or p j 0) →
    (j : ℕ) → j < k + 1 → get_or s (get_or to j 0) 0 ≡ get_or p j 0
moved-step to p r s k h lt size e each j le =
    let t = IsTurned-of to h in
    let at_k : get_or s (get_or to k 0) 0 ≡ get_or p k 0 = ap (λ (l : List ℕ). get_or l (get_or to k 0) 0) e ∙ get_or-set_same r (get_or to k 0) (get_or p k 0) 0 (omega (arith, t.below k lt)) in
    case (j == k) refl at_k
  where
    case : (b : Bool) → (j == k) ≡ b → get_or s (get_or to k 0) 0 ≡ get_or p k 0 → get_or s (get_or to j 0) 0 ≡ get_or p j 0
    case true q at_k = let same : j ≡ k = eqb-true j k q in subst (λ (i : ℕ). get_or s (get_or to i 0) 0 ≡ get_or p i 0) (sym same) at_k
    case false q at_k =
        let other = eqb-false j k q in
        let t = IsTurned-of to h in
        let bj = t.back j (omega arith) in
        let bk = t.back k lt in
        let apart : get_or to j 0 ≢ get_or to k 0 = λ same. other (sym bj ∙ ap (place_of to) same ∙ bk) in
        ap (λ (l : List ℕ). get_or l (get_or to j 0) 0) e ∙ get_or-set_other r (get_or to k 0) (get_or to j 0) (get_or p k 0) 0 apart ∙ each j (omega arith)

pub moved-all : (to p r : List ℕ) (k : ℕ) → IsRenaming to → 32 ≤ k → length r ≡ 32 → ((j : ℕ) → j < k → get_or r (get_or to j 0) 0 ≡ get_or p j 0) → r ≡ moved to p
moved-all to p r k h le size each = moved-each to p r (IsTurned-of to h) size (λ j lt. each j (omega arith))

pub in_range : (to : List ℕ) (k : ℕ) → IsRenaming to → k < 32 → get_or to k 0 < 32
in_range to k h lt = (IsTurned-of to h).below k lt

get_or-before : (to m : List ℕ) (k : ℕ) → k < length to → get_or (before_renaming to m) k 0 ≡ get_or m (get_or to k 0) 0
get_or-before to m k lt = get_or-map (λ j. slice_index m j) to k 0 0 lt

pub before-of_moved : (to p m : List ℕ) → IsTurned 32 to → length p ≡ 32 → moved to p ≡ m → p ≡ before_renaming to m
before-of_moved to p m t size e = same_number_lists p (before_renaming to m) (size ∙ sym (length-map to (λ j. slice_index m j) ∙ t.size)) (λ k lt.
    let low : k < 32 = omega (arith, size) in
    sym (get_or-before to m k (omega (arith, t.size)) ∙ ap (λ (l : List ℕ). get_or l (get_or to k 0) 0) (sym e) ∙ get_or-moved to p (get_or to k 0) (t.below k low) ∙ ap (λ (i : ℕ). get_or p i 0) (t.back k low)))

pub moved-of_before : (to p m : List ℕ) → IsTurned 32 to → length m ≡ 32 → p ≡ before_renaming to m → moved to p ≡ m
moved-of_before to p m t size e = sym (moved-each to p m t size (λ k lt. sym (ap (λ (l : List ℕ). get_or l k 0) e ∙ get_or-before to m k (omega (arith, t.size)))))

-- ---- sums and products over the places

sum_by-along : (f : ℕ → ℕ) (js ps : List ℕ) → length js ≡ length ps → ((k : ℕ) → k < length js → f (get_or js k 0) ≡ get_or ps k 0) → sum_by f js ≡ sum ps
sum_by-along f [] [] d h = refl
sum_by-along f [] (p ∷ ps) d h = absurd (omega arith)
sum_by-along f (j ∷ js) [] d h = absurd (omega arith)
sum_by-along f (j ∷ js) (p ∷ ps) d h =
    let first : f j ≡ p = h 0 (omega arith) in
    omega (arith, sum_by-cons f j js, sum-cons p ps, sum_by-along f js ps (omega arith) (λ k lt. h (suc k) (omega arith)))

-- the degree stays
pub sum-moved : (to p : List ℕ) → IsRenaming to → length p ≡ 32 → sum (moved to p) ≡ sum p
unfolding moved
sum-moved to p h size =
    let t = IsTurned-of to h in
    let f : ℕ → ℕ = λ j. get_or p (place_of to j) 0 in
    sum-map f (range_with_len 0 32) ∙ sym (sum_by-IsPermutation f (range_with_len 0 32) to h)
    ∙ sum_by-along f to p (t.size ∙ sym size) (λ k lt. ap (λ (i : ℕ). get_or p i 0) (t.back k (omega (arith, t.size))))

-- the product of these
abbrev places_product : (ℕ → Rational) → List ℕ → Rational
places_product g [] = whole (pos 1)
places_product g (j ∷ js) = product (g j) (places_product g js)

powers_value-along : (k : ℕ) (p js : List ℕ) (a : Point) (g : ℕ → Rational) → length js ≡ length p → ((i : ℕ) → i < length p → g (get_or js i 0) ≡ power (a (k + i)) (get_or p i 0)) → powers_value k p a ≡ places_product g js
powers_value-along k [] [] a g d h = refl
powers_value-along k [] (j ∷ js) a g d h = absurd (omega arith)
powers_value-along k (e ∷ p) [] a g d h = absurd (omega arith)
powers_value-along k (e ∷ p) (j ∷ js) a g d h =
    let first : g j ≡ power (a (k + 0)) e = h 0 (omega arith) in
    let here : k + 0 ≡ k = omega arith in
    let rest = powers_value-along (suc k) p js a g (omega arith) (λ i lt. h (suc i) (omega arith) ∙ ap (λ (n : ℕ). power (a n) (get_or p i 0)) (let n : k + suc i ≡ suc k + i = omega arith in n)) in
    ap (λ (q : Rational). product q (powers_value (suc k) p a)) (sym (first ∙ ap (λ (n : ℕ). power (a n) e) here)) ∙ ap (product (g j)) rest

-- the list without the first v
abbrev without : ℕ → List ℕ → List ℕ
without v [] = []
without v (x ∷ xs) = cond (x == v) xs (x ∷ without v xs)

count-without : (u v : ℕ) (xs : List ℕ) → 1 ≤ count v xs → count u xs ≡ one_at u v + count u (without v xs)
count-without u v [] h = absurd (omega arith)
count-without u v (x ∷ xs) h = case (x == v) refl (λ i. count-without u v xs i)
  where
    case : (b : Bool) → (x == v) ≡ b → (1 ≤ count v xs → count u xs ≡ one_at u v + count u (without v xs)) → count u (x ∷ xs) ≡ one_at u v + count u (cond b xs (x ∷ without v xs))
    case true e more = let s : x ≡ v = eqb-true x v e in omega (arith, count-cons u x xs, ap (one_at u) s)
    case false e more = let r = more (omega (arith, count-cons v x xs, one_at-other v x (eqb-false x v e))) in omega (arith, count-cons u x xs, count-cons u x (without v xs))

product-turn : (q r s : Rational) → Equals (product q (product r s)) (product r (product q s))
product-turn q r s =
    chain (Equals-sym _ _ (product-assoc q r s)) (chain (Equals-product _ _ _ _ (product-comm q r) (Equals-refl s)) (product-assoc r q s))

product-without : (g : ℕ → Rational) (v : ℕ) (xs : List ℕ) → 1 ≤ count v xs → Equals (places_product g xs) (product (g v) (places_product g (without v xs)))
product-without g v [] h = absurd (omega arith)
product-without g v (x ∷ xs) h = case (x == v) refl (λ i. product-without g v xs i)
  where
    case : (b : Bool) → (x == v) ≡ b → (1 ≤ count v xs → Equals (places_product g xs) (product (g v) (places_product g (without v xs)))) → Equals (product (g x) (places_product g xs)) (product (g v) (places_product g (cond b xs (x ∷ without v xs))))
    case true e more = let s : x ≡ v = eqb-true x v e in subst (λ (y : ℕ). Equals (product (g x) (places_product g xs)) (product (g y) (places_product g xs))) s (Equals-refl (product (g x) (places_product g xs)))
    case false e more =
        let r = more (omega (arith, count-cons v x xs, one_at-other v x (eqb-false x v e))) in
        chain (Equals-product _ _ _ _ (Equals-refl (g x)) r) (product-turn (g x) (g v) (places_product g (without v xs)))

count-none : (xs : List ℕ) → ((v : ℕ) → count v xs ≡ 0) → xs ≡ []
count-none [] h = refl
count-none (x ∷ xs) h = let z = h x in absurd (omega (arith, count-cons x x xs, one_at-self x x refl))

places_product-same : (g : ℕ → Rational) (xs ys : List ℕ) → ((v : ℕ) → count v xs ≡ count v ys) → Equals (places_product g xs) (places_product g ys)
places_product-same g [] ys h = rw (count-none ys (λ v. sym (h v))) (Equals-refl (whole (pos 1)))
places_product-same g (x ∷ xs) ys h =
    let some : 1 ≤ count x ys = omega (arith, h x, count-cons x x xs, one_at-self x x refl) in
    let rest = places_product-same g xs (without x ys) (λ v. omega (arith, h v, count-cons v x xs, count-without v x ys some)) in
    chain (Equals-product _ _ _ _ (Equals-refl (g x)) rest) (Equals-sym _ _ (product-without g x ys some))

-- the value of the moved exponents
pub powers_value-moved : (to p : List ℕ) (a : Point) → IsRenaming to → length p ≡ 32 → Equals (powers_value 0 (moved to p) a) (powers_value 0 p (point_before to a))
powers_value-moved to p a h size =
    let t = IsTurned-of to h in
    let g : ℕ → Rational = λ j. power (a j) (get_or p (place_of to j) 0) in
    let all = range_with_len 0 32 in
    let zero_plus : (i : ℕ) → 0 + i ≡ i = λ i. omega arith in
    let left : powers_value 0 (moved to p) a ≡ places_product g (range_with_len 0 32) =
    powers_value-along 0 (moved to p) (range_with_len 0 32) a g (length-range_with_len 0 32 ∙ sym (length-moved to p)) (λ i lt.
    let low : i < 32 = omega (arith, length-moved to p) in
    ap g (get_or-range_with_len 0 32 i 0 low ∙ zero_plus i) ∙ ap (power (a i)) (sym (get_or-moved to p i low)) ∙ ap (λ (n : ℕ). power (a n) (get_or (moved to p) i 0)) (sym (zero_plus i))) in
    let right : powers_value 0 p (point_before to a) ≡ places_product g to =
    powers_value-along 0 p to (point_before to a) g (t.size ∙ sym size) (λ i lt.
    let low : i < 32 = omega (arith, size) in
    ap (λ (n : ℕ). power (a (get_or to i 0)) (get_or p n 0)) (t.back i low) ∙ ap (λ (n : ℕ). power (a (get_or to n 0)) (get_or p i 0)) (sym (zero_plus i))) in
    rw (left, right) (places_product-same g (range_with_len 0 32) to (λ v. sym (sum_by-IsPermutation (one_at v) (range_with_len 0 32) to h)))

-- ---- places below a number

pub IsBelow-moved : (v w : ℕ) (to p : List ℕ) → IsRenaming to → IsBelow v p → ((k : ℕ) → k < v → slice_index to k < w) → IsBelow w (moved to p)
IsBelow-moved v w to p h b f = record { none = λ j le. case j le (lt_or j) }
  where
    lt_or : (j : ℕ) → (j < 32) ⊎ (32 ≤ j)
    lt_or j = cases_lt j 32

    case : (j : ℕ) → w ≤ j → (j < 32) ⊎ (32 ≤ j) → get_or (moved to p) j 0 ≡ 0
    case j le (inl lt) =
        let t = IsTurned-of to h in
        let there = t.there j lt in
        let high : v ≤ place_of to j = elim (cases_lt (place_of to j) v) [ inl low ↦ absurd (omega (arith, f (place_of to j) low)) | inr ge ↦ ge ] in
        get_or-moved to p j lt ∙ b.none (place_of to j) high
    case j le (inr high) = get_or-eq_default (moved to p) 0 (let n : length (moved to p) ≤ j = omega (arith, length-moved to p) in n)

-- ---- places that pass a test

pub HasOnly-moved : (f g : ℕ → Bool) (to p : List ℕ) → IsRenaming to → HasOnly f p → SendsAllowed to f g → HasOnly g (moved to p)
HasOnly-moved f g to p h b s = record { others = λ j e. case j e (cases_lt j 32) }
  where
    excluded : (v w : Bool) → (v ≡ true → w ≡ true) → w ≡ false → v ≡ false
    excluded true w h e = absurd (let t = h refl in cc)
    excluded false w h e = refl

    case : (j : ℕ) → g j ≡ false → (j < 32) ⊎ (32 ≤ j) → get_or (moved to p) j 0 ≡ 0
    case j e (inl lt) =
        let t = IsTurned-of to h in
        let off : f (place_of to j) ≡ false = excluded (f (place_of to j)) (g j) (λ i. sym (ap g (t.there j lt)) ∙ s (place_of to j) (t.source j lt) i) e in
        get_or-moved to p j lt ∙ b.others (place_of to j) off
    case j e (inr high) = get_or-eq_default (moved to p) 0 (let n : length (moved to p) ≤ j = omega (arith, length-moved to p) in n)

pub ruleset moving = (in_range, moved-step, moved-all)

-- ---- renamings by exchanges

pub IsRenaming-none : IsRenaming (range_with_len 0 32)
IsRenaming-none = IsPermutation-refl (range_with_len 0 32)

pub IsRenaming-exchanged : (to : List ℕ) (i j : ℕ) → i < 32 → j < 32 → IsRenaming to → IsRenaming (swap to i j)
IsRenaming-exchanged to i j h k r =
    let size = (IsTurned-of to r).size in
    IsPermutation-trans (range_with_len 0 32) to (swap to i j) r (IsPermutation-swap to (swap to i j) i j (omega arith) (omega arith) refl)
