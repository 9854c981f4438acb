-- A polynomial that is linear in the states is the sum of its terms without states and of each state times its factor.
use Rattle.std.proofs.Common.{◌≡◌, ◌≢◌, ◌⊎◌, inl, inr, ℕ, zero, suc, ◌+◌, ◌-◌, ◌≤◌, ◌<◌, Bool, true, false, cond, ◌==◌, [], ◌∷◌, length, sum, take, drop, replicate, set, get_or, refl, sym, ap, ◌∙◌, subst, arith, ℤ, pos, ◌+ℤ◌, ◌*ℤ◌}
use Rattle.std.proofs.Math.Seq.{set-set}
use Rattle.std.proofs.lemmas.Int.{ints}
use Rattle.std.proofs.lemmas.Bool.{eq-eqb, eqb-true, eqb-false}
use Rattle.vp_terms.specs.declared.expr.Places.{Places}
use Rattle.vp_poly.specs.Poly.{Powers, only_at}
use Rattle.vp_poly.specs.Product.{split_sum}
use Rattle.vp_poly.proofs.SplitLaws.{split_sum-zero, split_sum-cong}
use Rattle.vp_poly.proofs.RowLaws.{sum-cons}
use Rattle.vp_flow.specs.Series.{state_degree}
use Rattle.vp_flow.specs.Whole.{conv, state_place, zfactor, zstates, zlie}
use Rattle.vp_flow.proofs.Sums.{int_sum-single, test_off}
use Rattle.vp_flow.proofs.Convolution.{total-zero, total-single}
use Rattle.vp_flow.proofs.Lie.{state_exponent, right_none, times_one, conv-constant, zfactor-on, zfactor-off}
use Rattle.vp_flow.proofs.Replacing.{lowered_degree, one_state}
use Rattle.vp_flow.proofs.Tau.{set_own}

no_sum_of : (k n : ℕ) (m : Powers) → ((t : ℕ) → k ≤ t → t < k + n → get_or m t 0 ≡ 0) → sum (take n (drop k m)) ≡ 0
no_sum_of zero zero m h = refl
no_sum_of (suc k) zero m h = refl
no_sum_of zero (suc n) [] h = refl
no_sum_of (suc k) (suc n) [] h = refl
no_sum_of zero (suc n) (x ∷ m) h =
    let a = h 0 (omega arith) (omega arith) in
    let b = no_sum_of zero n m (λ t le lt. h (suc t) (omega arith) (omega arith)) in
    omega (arith, sum-cons x (take n m))
no_sum_of (suc k) (suc n) (x ∷ m) h = no_sum_of k (suc n) m (λ t le lt. h (suc t) (omega arith) (omega arith))

-- a monomial without any state has degree 0 in them
pub no_states : (p : Places) (m : Powers) → ((j : ℕ) → j < p.states → get_or m (state_place p j) 0 ≡ 0) → state_degree p m ≡ 0
no_states p m h =
    no_sum_of p.params p.states m (λ t le lt.
    let e : p.params + (t - p.params) ≡ t = omega arith in
    subst (λ (k : ℕ). get_or m k 0 ≡ 0) e (h (t - p.params) (omega arith)))

first_of : (n : ℕ) (f : ℕ → ℕ) → ((j : ℕ) × (j < n) × (f j ≢ 0)) ⊎ ((j : ℕ) → j < n → f j ≡ 0)
first_of zero f = inr (λ j lt. absurd (omega arith))
first_of (suc n) f = case (f n == 0) refl (first_of n f)
  where
    last : f n ≡ 0 → ((j : ℕ) → j < n → f j ≡ 0) → (j : ℕ) → j < suc n → (v : Bool) → (j == n) ≡ v → f j ≡ 0
    last z h j lt true t = ap f (eqb-true j n t) ∙ z
    last z h j lt false t = let ne = eqb-false j n t in h j (omega arith)

    case : (v : Bool) → (f n == 0) ≡ v → ((j : ℕ) × (j < n) × (f j ≢ 0)) ⊎ ((j : ℕ) → j < n → f j ≡ 0) → ((j : ℕ) × (j < suc n) × (f j ≢ 0)) ⊎ ((j : ℕ) → j < suc n → f j ≡ 0)
    case false t more = inl (n, omega arith, eqb-false (f n) 0 t)
    case true t (inl x) = inl (x.0, (let lt = x.1 in omega arith), x.2)
    case true t (inr h) = inr (λ j lt. last (eqb-true (f n) 0 t) h j lt (j == n) refl)

-- ---- the product with a state

pub conv-unit : (m : Powers) (n t : ℕ) (g : Powers → ℤ) → length m ≡ n → t < n → split_sum m (λ a b. g a *ℤ only_at (set (replicate n 0) t 1) b (pos 1)) ≡ cond (get_or m t 0 == 0) (pos 0) (g (set m t (get_or m t 0 - 1)))
conv-unit [] zero t g e lt = absurd (omega arith)
conv-unit [] (suc n) t g e lt = absurd (omega arith)
conv-unit (x ∷ xs) zero t g e lt = absurd (omega arith)
conv-unit (zero ∷ xs) (suc n) zero g e lt =
    split_sum-zero xs (λ a b. g (0 ∷ a) *ℤ cond (1 == 0 - 0) (only_at (replicate n 0) b (pos 1)) (pos 0))
    (λ a b. right_none (g (0 ∷ a)) (cond (1 == 0 - 0) (only_at (replicate n 0) b (pos 1)) (pos 0)) (ap (λ (v : Bool). cond v (only_at (replicate n 0) b (pos 1)) (pos 0)) (test_off 1 (0 - 0) (omega arith))))
conv-unit (suc y ∷ xs) (suc n) zero g e lt =
    int_sum-single (suc y) y (λ i. split_sum xs (λ a b. g (i ∷ a) *ℤ cond (1 == suc y - i) (only_at (replicate n 0) b (pos 1)) (pos 0))) (omega arith)
    (λ i le ne. split_sum-zero xs (λ a b. g (i ∷ a) *ℤ cond (1 == suc y - i) (only_at (replicate n 0) b (pos 1)) (pos 0))
    (λ a b. right_none (g (i ∷ a)) (cond (1 == suc y - i) (only_at (replicate n 0) b (pos 1)) (pos 0)) (ap (λ (v : Bool). cond v (only_at (replicate n 0) b (pos 1)) (pos 0)) (test_off 1 (suc y - i) (λ q. ne (omega arith))))))
    ∙ split_sum-cong xs (λ a b. g (y ∷ a) *ℤ cond (1 == suc y - y) (only_at (replicate n 0) b (pos 1)) (pos 0)) (λ a b. g (y ∷ a) *ℤ only_at (replicate n 0) b (pos 1))
    (λ a b. ap (λ (v : Bool). g (y ∷ a) *ℤ cond v (only_at (replicate n 0) b (pos 1)) (pos 0)) (eq-eqb 1 (suc y - y) (omega arith)))
    ∙ conv-constant xs n (λ a. g (y ∷ a)) (pos 1) (omega arith)
    ∙ times_one (g (y ∷ xs))
    ∙ ap (λ (w : ℕ). g (w ∷ xs)) (let z : y ≡ suc y - 1 = omega arith in z)
    ∙ sym (ap (λ (v : Bool). cond v (pos 0) (g ((suc y - 1) ∷ xs))) (test_off (suc y) 0 (omega arith)))
conv-unit (x ∷ xs) (suc n) (suc t) g e lt =
    int_sum-single x x (λ i. split_sum xs (λ a b. g (i ∷ a) *ℤ cond (0 == x - i) (only_at (set (replicate n 0) t 1) b (pos 1)) (pos 0))) (omega arith)
    (λ i le ne. split_sum-zero xs (λ a b. g (i ∷ a) *ℤ cond (0 == x - i) (only_at (set (replicate n 0) t 1) b (pos 1)) (pos 0))
    (λ a b. right_none (g (i ∷ a)) (cond (0 == x - i) (only_at (set (replicate n 0) t 1) b (pos 1)) (pos 0)) (ap (λ (v : Bool). cond v (only_at (set (replicate n 0) t 1) b (pos 1)) (pos 0)) (test_off 0 (x - i) (λ q. ne (omega arith))))))
    ∙ split_sum-cong xs (λ a b. g (x ∷ a) *ℤ cond (0 == x - x) (only_at (set (replicate n 0) t 1) b (pos 1)) (pos 0)) (λ a b. g (x ∷ a) *ℤ only_at (set (replicate n 0) t 1) b (pos 1))
    (λ a b. ap (λ (v : Bool). g (x ∷ a) *ℤ cond v (only_at (set (replicate n 0) t 1) b (pos 1)) (pos 0)) (eq-eqb 0 (x - x) (omega arith)))
    ∙ conv-unit xs n t (λ a. g (x ∷ a)) (omega arith) (omega arith)

changed_sum : (k n t v : ℕ) (m : Powers) → k ≤ t → t < k + n → t < length m → sum (take n (drop k (set m t v))) + get_or m t 0 ≡ sum (take n (drop k m)) + v
changed_sum k n t v [] le lt in_range = absurd (omega arith)
changed_sum zero zero t v (x ∷ m) le lt in_range = absurd (omega arith)
changed_sum zero (suc n) zero v (x ∷ m) le lt in_range = omega (arith, sum-cons x (take n m), sum-cons v (take n m))
changed_sum zero (suc n) (suc t) v (x ∷ m) le lt in_range =
    let r = changed_sum zero n t v m (omega arith) (omega arith) (omega arith) in
    omega (arith, sum-cons x (take n m), sum-cons x (take n (set m t v)))
changed_sum (suc k) n zero v (x ∷ m) le lt in_range = absurd (omega arith)
changed_sum (suc k) n (suc t) v (x ∷ m) le lt in_range = changed_sum k n t v m (omega arith) (omega arith) (omega arith)

abbrev pub zstateless : Places → (Powers → ℤ) → Powers → ℤ
zstateless p f m = cond (state_degree p m == 0) (f m) (pos 0)

-- the product of a state and its factor
state_times : (p : Places) (r : ℕ → Powers → ℤ) (f : Powers → ℤ) (j : ℕ) (m : Powers) → j < p.states → p.params + p.states ≤ 32 → length m ≡ 32 → conv (zfactor p j f) (zlie p r j 0) m ≡ cond (get_or m (state_place p j) 0 == 0) (pos 0) (zfactor p j f (set m (state_place p j) (get_or m (state_place p j) 0 - 1)))
state_times p r f j m lt few len = conv-unit m 32 (state_place p j) (zfactor p j f) len (omega arith)

absent_times : (p : Places) (r : ℕ → Powers → ℤ) (f : Powers → ℤ) (j : ℕ) (m : Powers) → j < p.states → p.params + p.states ≤ 32 → length m ≡ 32 → get_or m (state_place p j) 0 ≡ 0 → conv (zfactor p j f) (zlie p r j 0) m ≡ pos 0
absent_times p r f j m lt few len z =
    state_times p r f j m lt few len
    ∙ ap (λ (v : Bool). cond v (pos 0) (zfactor p j f (set m (state_place p j) (get_or m (state_place p j) 0 - 1)))) (eq-eqb (get_or m (state_place p j) 0) 0 z)

present_times : (p : Places) (r : ℕ → Powers → ℤ) (f : Powers → ℤ) (j : ℕ) (m : Powers) → j < p.states → p.params + p.states ≤ 32 → length m ≡ 32 → get_or m (state_place p j) 0 ≢ 0 → conv (zfactor p j f) (zlie p r j 0) m ≡ zfactor p j f (set m (state_place p j) (get_or m (state_place p j) 0 - 1))
present_times p r f j m lt few len z =
    state_times p r f j m lt few len
    ∙ ap (λ (v : Bool). cond v (pos 0) (zfactor p j f (set m (state_place p j) (get_or m (state_place p j) 0 - 1)))) (test_off (get_or m (state_place p j) 0) 0 z)

sum_first : (x y z : ℤ) → x ≡ z → y ≡ pos 0 → x +ℤ y ≡ z
sum_first x y z e f = omega (arith, ints)

sum_second : (x y z : ℤ) → x ≡ pos 0 → y ≡ z → x +ℤ y ≡ z
sum_second x y z e f = omega (arith, ints)

pub decomposed : (p : Places) (r : ℕ → Powers → ℤ) (f : Powers → ℤ) (m : Powers) → p.params + p.states ≤ 32 → length m ≡ 32 → ((a : Powers) → 2 ≤ state_degree p a → f a ≡ pos 0) → zstateless p f m +ℤ zstates p (λ j. zlie p r j 0) f m ≡ f m
decomposed p r f m few len linear = case (state_degree p m == 0) refl (state_degree p m == 1) refl
  where
    none : (z : state_degree p m ≡ 0) → (j : ℕ) → j < p.states → conv (zfactor p j f) (zlie p r j 0) m ≡ pos 0
    none z j lt = let x = state_exponent p j m lt in absent_times p r f j m lt few len (omega arith)

    many : (z : 2 ≤ state_degree p m) → (j : ℕ) → j < p.states → (v : Bool) → (get_or m (state_place p j) 0 == 0) ≡ v → conv (zfactor p j f) (zlie p r j 0) m ≡ pos 0
    many z j lt true t = absent_times p r f j m lt few len (eqb-true (get_or m (state_place p j) 0) 0 t)
    many z j lt false t =
        let ne = eqb-false (get_or m (state_place p j) 0) 0 t in
        let s = changed_sum p.params p.states (state_place p j) (get_or m (state_place p j) 0 - 1) m (omega arith) (omega arith) (omega arith) in
        present_times p r f j m lt few len ne ∙ zfactor-off p j f (set m (state_place p j) (get_or m (state_place p j) 0 - 1)) (omega arith)

    one : state_degree p m ≡ 1 → (j : ℕ) → j < p.states → get_or m (state_place p j) 0 ≢ 0 → zstates p (λ l. zlie p r l 0) f m ≡ f m
    one e j lt ne =
        let x = state_exponent p j m lt in
        let s = lowered_degree p j m lt in
        let single : get_or m (state_place p j) 0 ≡ 1 = omega arith in
        let down : get_or m (state_place p j) 0 - 1 ≡ 0 = omega arith in
        total-single p.states j (λ l. conv (zfactor p l f) (zlie p r l 0) m) lt
        (λ l l_lt apart. absent_times p r f l m l_lt few len (one_state p m j l lt l_lt apart (omega arith) (omega arith)))
        ∙ present_times p r f j m lt few len ne
        ∙ ap (λ (w : ℕ). zfactor p j f (set m (state_place p j) w)) down
        ∙ zfactor-on p j f (set m (state_place p j) 0) (omega arith)
        ∙ ap f (set-set m (state_place p j) 0 1 ∙ set_own m (state_place p j) 1 single)

    found : state_degree p m ≡ 1 → ((j : ℕ) × (j < p.states) × (get_or m (state_place p j) 0 ≢ 0)) ⊎ ((j : ℕ) → j < p.states → get_or m (state_place p j) 0 ≡ 0) → zstates p (λ l. zlie p r l 0) f m ≡ f m
    found e (inl x) = one e x.0 x.1 x.2
    found e (inr h) = let z = no_states p m h in absurd (omega arith)

    case : (v : Bool) → (state_degree p m == 0) ≡ v → (w : Bool) → (state_degree p m == 1) ≡ w → cond v (f m) (pos 0) +ℤ zstates p (λ j. zlie p r j 0) f m ≡ f m
    case true t w s =
        let z = eqb-true (state_degree p m) 0 t in
        sum_first (f m) (zstates p (λ j. zlie p r j 0) f m) (f m) refl (total-zero p.states (λ j. conv (zfactor p j f) (zlie p r j 0) m) (none z))
    case false t true s =
        sum_second (pos 0) (zstates p (λ j. zlie p r j 0) f m) (f m) refl (found (eqb-true (state_degree p m) 1 s) (first_of p.states (λ j. get_or m (state_place p j) 0)))
    case false t false s =
        let z = eqb-false (state_degree p m) 0 t in
        let o = eqb-false (state_degree p m) 1 s in
        sum_second (pos 0) (zstates p (λ j. zlie p r j 0) f m) (f m) refl
        (total-zero p.states (λ j. conv (zfactor p j f) (zlie p r j 0) m) (λ j lt. many (omega arith) j lt (get_or m (state_place p j) 0 == 0) refl) ∙ sym (linear m (omega arith)))
