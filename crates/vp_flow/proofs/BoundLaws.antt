-- The four numbers by which the weights of flows go.
use Rattle.std.proofs.Common.{◌≡◌, ℕ, zero, suc, ◌+◌, ◌-◌, ◌*◌, ◌/◌, ◌≤◌, ◌<◌, max, List, [], ◌∷◌, length, take, drop, get_or, All, sym, ap, ◌∙◌, subst, arith, mul_assoc, mul-le-mul_right, mul-pos, mul-div_cancel}
use Rattle.std.proofs.Math.Seq.{drop-cons}
use Rattle.vp_poly.specs.declared.scaled.Scaled.{Scaled}
use Rattle.vp_poly.specs.Lcm.{lcm}
use Rattle.vp_poly.proofs.LcmLaws.{lcm-shares}
use Rattle.vp_flow.specs.Bounds.{at_least_one, common_den}

-- ---- the greatest of some numbers

at_least_one-more : (f : Scaled → ℕ) (qs : List Scaled) (k : ℕ) (d : Scaled) → k < length qs → at_least_one f (take (k + 1) qs) ≡ max (at_least_one f (take k qs)) (f (get_or qs k d))
at_least_one-more f [] k d lt = absurd (omega arith)
at_least_one-more f (q ∷ qs) zero d lt = turned (f q)
  where
    turned : (a : ℕ) → max a 1 ≡ max 1 a
    turned a = omega arith
at_least_one-more f (q ∷ qs) (suc k) d lt = ap (λ (n : ℕ). at_least_one f (take n (q ∷ qs))) (let s : suc k + 1 ≡ suc (k + 1) = omega arith in s) ∙ swap (f q) (at_least_one f (take (k + 1) qs)) (at_least_one f (take k qs)) (f (get_or qs k d)) (at_least_one-more f qs k d (omega arith))
  where
    swap : (a b c e : ℕ) → b ≡ max c e → max a b ≡ max (max a c) e
    swap a b c e h = omega arith

pub greatest-next : (f : Scaled → ℕ) (qs : List Scaled) (k n m : ℕ) (q : Scaled) → k < length qs → q ≡ get_or qs k q → n ≡ at_least_one f (take k qs) → m ≡ max n (f q) → m ≡ at_least_one f (take (k + 1) qs)
greatest-next f qs k n m q lt e s t = let more = at_least_one-more f qs k q lt in let same = ap f e in omega (arith, more, same, s, t)

pub at_least_one-positive : (f : Scaled → ℕ) (qs : List Scaled) → 1 ≤ at_least_one f qs
at_least_one-positive f [] = omega arith
at_least_one-positive f (q ∷ qs) = let more = at_least_one-positive f qs in omega arith

pub within-greatest : (f : Scaled → ℕ) (qs : List Scaled) (i : ℕ) (d : Scaled) → i < length qs → f (get_or qs i d) ≤ at_least_one f qs
within-greatest f [] i d lt = absurd (omega arith)
within-greatest f (q ∷ qs) zero d lt = omega arith
within-greatest f (q ∷ qs) (suc i) d lt = let more = within-greatest f qs i d (omega arith) in omega arith

-- ---- the least common denominator

abbrev pub ArePositive : List Scaled → Type 0
ArePositive qs = All (λ q. 0 < q.weight.den) qs

first_of : (q : Scaled) (qs : List Scaled) → ArePositive (q ∷ qs) → 0 < q.weight.den
first_of q qs h = h 0 q (omega arith)

rest_of : (q : Scaled) (qs : List Scaled) → ArePositive (q ∷ qs) → ArePositive qs
rest_of q qs h = λ i d lt. h (suc i) d (omega arith)

pub common-positive : (qs : List Scaled) → ArePositive qs → 0 < common_den qs
common-positive [] h = omega arith
common-positive (q ∷ qs) h =
    let c = common-positive qs (rest_of q qs h) in
    let s = lcm-shares q.weight.den (common_den qs) (first_of q qs h) c in
    let m = mul-pos s.right_positive c in
    omega (arith, m, s.right_whole)

pub lcm-grows : (a b : ℕ) → 0 < a → 0 < b → b ≤ lcm a b
lcm-grows a b ha hb =
    let s = lcm-shares a b ha hb in
    let m : 1 * b ≤ (lcm a b / b) * b = mul-le-mul_right b s.right_positive in
    omega (arith, m, s.right_whole)

pub drop-grows : (qs : List Scaled) (k : ℕ) → ArePositive qs → common_den (drop k qs) ≤ common_den qs
drop-grows qs zero h = omega arith
drop-grows [] (suc k) h = omega arith
drop-grows (q ∷ qs) (suc k) h =
    let more = drop-grows qs k (rest_of q qs h) in
    let grows = lcm-grows q.weight.den (common_den qs) (first_of q qs h) (common-positive qs (rest_of q qs h)) in
    omega (arith, more, grows)

-- each denominator is a part of the common one
part : (qs : List Scaled) (i : ℕ) (d : Scaled) → ArePositive qs → i < length qs → (k : ℕ) × (0 < k) × (k * (get_or qs i d).weight.den ≡ common_den qs)
part [] i d h lt = absurd (omega arith)
part (q ∷ qs) zero d h lt =
    let s = lcm-shares q.weight.den (common_den qs) (first_of q qs h) (common-positive qs (rest_of q qs h)) in
    (lcm q.weight.den (common_den qs) / q.weight.den, s.left_positive, s.left_whole)
part (q ∷ qs) (suc i) d h lt =
    let s = lcm-shares q.weight.den (common_den qs) (first_of q qs h) (common-positive qs (rest_of q qs h)) in
    let r = part qs i d (rest_of q qs h) (omega arith) in (
      lcm q.weight.den (common_den qs) / common_den qs * r.0,
      mul-pos s.right_positive r.1,
      mul_assoc (lcm q.weight.den (common_den qs) / common_den qs) r.0 (get_or qs i d).weight.den ∙ ap (λ (n : ℕ). lcm q.weight.den (common_den qs) / common_den qs * n) r.2 ∙ s.right_whole,
    )

pub exact-part : (qs : List Scaled) (i : ℕ) (d : Scaled) → ArePositive qs → i < length qs → (common_den qs / (get_or qs i d).weight.den * (get_or qs i d).weight.den ≡ common_den qs) × (0 < common_den qs / (get_or qs i d).weight.den)
exact-part qs i d h lt =
    let r = part qs i d h lt in
    let q : common_den qs / (get_or qs i d).weight.den ≡ r.0 = ap (λ (n : ℕ). n / (get_or qs i d).weight.den) (sym r.2) ∙ mul-div_cancel r.0 (h i d lt) in
    (ap (λ (n : ℕ). n * (get_or qs i d).weight.den) q ∙ r.2, subst (λ (n : ℕ). 0 < n) (sym q) r.1)

-- what the denominators from the last but k on come to
pub last-grows : (qs : List Scaled) (k c : ℕ) (q : Scaled) → ArePositive qs → k < length qs → q ≡ get_or qs (length qs - 1 - k) q → c ≡ common_den (drop (length qs - k) qs) → lcm q.weight.den c ≤ common_den qs
last-grows qs k c q h lt e s =
    let i : suc (length qs - 1 - k) ≡ length qs - k = omega arith in
    let d = drop-cons qs (length qs - 1 - k) q (omega arith) in
    let grows = drop-grows qs (length qs - 1 - k) h in
    let here : common_den (drop (length qs - 1 - k) qs) ≡ lcm q.weight.den c =
    ap common_den d
    ∙ ap (λ (x : Scaled). lcm x.weight.den (common_den (drop (suc (length qs - 1 - k)) qs))) (sym e)
    ∙ ap (λ (n : ℕ). lcm q.weight.den (common_den (drop n qs))) i
    ∙ ap (λ (n : ℕ). lcm q.weight.den n) (sym s) in
    omega (arith, grows, here)
