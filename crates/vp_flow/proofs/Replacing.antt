-- What becomes of a right side, term by term, where its states are replaced.
use Rattle.std.proofs.Common.{◌≡◌, ◌≢◌, ◌⊎◌, inl, inr, ℕ, zero, suc, ◌+◌, ◌≤◌, ◌<◌, Bool, true, false, cond, ◌==◌, List, [], ◌∷◌, ◌++◌, length, sum, take, drop, set, get_or, refl, sym, ap, ◌∙◌, arith, ℤ, pos, ◌+ℤ◌, ◌*ℤ◌}
use Rattle.std.proofs.Math.Seq.{get_or-set_other, get_or-set_same}
use Rattle.std.proofs.lemmas.List.{length-set}
use Rattle.std.proofs.lemmas.Int.{ints}
use Rattle.std.proofs.lemmas.Bool.{eq-eqb, eqb-true, eqb-false}
use Rattle.vp_terms.specs.declared.expr.Places.{Places}
use Rattle.vp_poly.specs.declared.mono.Term.{Term}
use Rattle.vp_poly.specs.Poly.{Powers, only_at, coef}
use Rattle.vp_poly.specs.Product.{split_sum}
use Rattle.vp_poly.proofs.SplitLaws.{split_sum-zero, split_sum-cong, split_sum-plus}
use Rattle.vp_poly.proofs.Ring.{add-mul}
use Rattle.vp_poly.proofs.RowLaws.{sum-cons}
use Rattle.vp_flow.specs.Series.{state_degree}
use Rattle.vp_flow.specs.Whole.{conv, state_place, zfactor, zstates}
use Rattle.vp_flow.proofs.Convolution.{total-cong, total-zero, total-plus, total-single}
use Rattle.vp_flow.proofs.Lie.{state_exponent, left_none, cond_none}

-- a coefficient of one monomial is at that monomial alone
pub only-or : (ps a : Powers) (c : ℤ) → (ps ≡ a) ⊎ (only_at ps a c ≡ pos 0)
only-or [] [] c = inl refl
only-or [] (y ∷ a) c = inr refl
only-or (x ∷ ps) [] c = inr refl
only-or (x ∷ ps) (y ∷ a) c = case (x == y) refl (only-or ps a c)
  where
    joined : x ≡ y → ps ≡ a → x ∷ ps ≡ y ∷ a
    joined e f = ap (λ (n : ℕ). n ∷ ps) e ∙ ap (λ (l : List ℕ). y ∷ l) f

    case : (v : Bool) → (x == y) ≡ v → (ps ≡ a) ⊎ (only_at ps a c ≡ pos 0) → (x ∷ ps ≡ y ∷ a) ⊎ (cond v (only_at ps a c) (pos 0) ≡ pos 0)
    case false t more = inr refl
    case true t (inl e) = inl (joined (eqb-true x y t) e)
    case true t (inr e) = inr e

pub only-none : (ps a : Powers) (c : ℤ) → ps ≢ a → only_at ps a c ≡ pos 0
only-none ps a c ne = elim (only-or ps a c) [ inl e ↦ absurd (ne e) | inr e ↦ e ]

-- the degree in the states without one of them
lowered_sum : (k n t : ℕ) (m : Powers) → k ≤ t → t < k + n → sum (take n (drop k (set m t 0))) + get_or m t 0 ≡ sum (take n (drop k m))
lowered_sum k n t [] le lt = omega arith
lowered_sum zero zero t (x ∷ m) le lt = absurd (omega arith)
lowered_sum zero (suc n) zero (x ∷ m) le lt = omega (arith, sum-cons x (take n m), sum-cons 0 (take n m))
lowered_sum zero (suc n) (suc t) (x ∷ m) le lt =
    let r = lowered_sum zero n t m (omega arith) (omega arith) in
    omega (arith, sum-cons x (take n m), sum-cons x (take n (set m t 0)))
lowered_sum (suc k) n zero (x ∷ m) le lt = absurd (omega arith)
lowered_sum (suc k) n (suc t) (x ∷ m) le lt = lowered_sum k n t m (omega arith) (omega arith)

pub lowered_degree : (p : Places) (j : ℕ) (m : Powers) → j < p.states → state_degree p (set m (state_place p j) 0) + get_or m (state_place p j) 0 ≡ state_degree p m
lowered_degree p j m lt = lowered_sum p.params p.states (state_place p j) m (omega arith) (omega arith)

only-lowered : (ps a : Powers) (t : ℕ) (c : ℤ) → get_or ps t 0 ≡ 1 → get_or a t 0 ≡ 0 → only_at ps (set a t 1) c ≡ only_at (set ps t 0) a c
only-lowered [] a t c e z = absurd (omega arith)
only-lowered (x ∷ ps) [] zero c e z = refl
only-lowered (x ∷ ps) [] (suc t) c e z = refl
only-lowered (x ∷ ps) (y ∷ a) zero c e z =
    ap (λ (v : Bool). cond v (only_at ps a c) (pos 0)) (eq-eqb x 1 e) ∙ ap (λ (v : Bool). cond v (only_at ps a c) (pos 0)) (sym (eq-eqb 0 y (sym z)))
only-lowered (x ∷ ps) (y ∷ a) (suc t) c e z = ap (λ (w : ℤ). cond (x == y) w (pos 0)) (only-lowered ps a t c e z)

plus_none : (z w : ℤ) → z ≡ w → z +ℤ pos 0 ≡ w
plus_none z w e = omega (arith, ints)

-- the factor of the state in a term that has it
own : (p : Places) (t : Term) (j : ℕ) → j < p.states → state_degree p t.mono.powers ≤ 1 → 0 < get_or t.mono.powers (state_place p j) 0 → (a : Powers) → zfactor p j (coef (t ∷ [])) a ≡ only_at (set t.mono.powers (state_place p j) 0) a t.coef
own p t j lt linear has a = case (state_degree p a == 0) refl
  where
    case : (v : Bool) → (state_degree p a == 0) ≡ v → cond v (only_at t.mono.powers (set a (state_place p j) 1) t.coef +ℤ pos 0) (pos 0) ≡ only_at (set t.mono.powers (state_place p j) 0) a t.coef
    case true e =
        let z : state_degree p a ≡ 0 = eqb-true (state_degree p a) 0 e in
        let x = state_exponent p j a lt in
        let y = state_exponent p j t.mono.powers lt in
        plus_none _ _ (only-lowered t.mono.powers a (state_place p j) t.coef (omega arith) (omega arith))
    case false e =
        let z : state_degree p a ≢ 0 = eqb-false (state_degree p a) 0 e in
        let y = state_exponent p j t.mono.powers lt in
        let w = lowered_degree p j t.mono.powers lt in
        sym (only-none (set t.mono.powers (state_place p j) 0) a t.coef (λ q. z (sym (ap (state_degree p) q) ∙ (let none : state_degree p (set t.mono.powers (state_place p j) 0) ≡ 0 = omega arith in none))))

-- a term has no factor at a state that it doesn't have
absent : (p : Places) (t : Term) (l : ℕ) → l < p.states → p.params + p.states ≤ 32 → length t.mono.powers ≡ 32 → get_or t.mono.powers (state_place p l) 0 ≢ 1 → (a : Powers) → zfactor p l (coef (t ∷ [])) a ≡ pos 0
absent p t l lt few len ne a =
    cond_none (state_degree p a == 0) (only_at t.mono.powers (set a (state_place p l) 1) t.coef +ℤ pos 0)
    (plus_none _ _ (only-none t.mono.powers (set a (state_place p l) 1) t.coef
    (λ q.
    let size : length a ≡ 32 = sym (length-set a (state_place p l) 1) ∙ sym (ap (λ (x : List ℕ). length x) q) ∙ len in
    ne (ap (λ (x : List ℕ). get_or x (state_place p l) 0) q ∙ get_or-set_same a (state_place p l) 1 0 (omega arith)))))

-- the states that a term of degree 1 doesn't have
pub one_state : (p : Places) (m : Powers) (j l : ℕ) → j < p.states → l < p.states → l ≢ j → state_degree p m ≤ 1 → 0 < get_or m (state_place p j) 0 → get_or m (state_place p l) 0 ≡ 0
one_state p m j l j_lt l_lt ne linear has =
    let x = lowered_degree p j m j_lt in
    let y = state_exponent p l (set m (state_place p j) 0) l_lt in
    let apart : state_place p l ≢ state_place p j = λ e. ne (omega arith) in
    let z = get_or-set_other m (state_place p j) (state_place p l) 0 0 apart in
    omega arith

none_of : (p : Places) (g : ℕ → Powers → ℤ) (l : ℕ) (f : Powers → ℤ) (m : Powers) → ((a : Powers) → zfactor p l f a ≡ pos 0) → conv (zfactor p l f) (g l) m ≡ pos 0
none_of p g l f m h = split_sum-zero m (λ a b. zfactor p l f a *ℤ g l b) (λ a b. left_none (zfactor p l f a) (g l b) (h a))

-- a term with a state: the state is replaced
pub zstates-term : (p : Places) (g : ℕ → Powers → ℤ) (t : Term) (j : ℕ) → j < p.states → p.params + p.states ≤ 32 → length t.mono.powers ≡ 32 → state_degree p t.mono.powers ≤ 1 → 0 < get_or t.mono.powers (state_place p j) 0 → (m : Powers) → zstates p g (coef (t ∷ [])) m ≡ split_sum m (λ a b. only_at (set t.mono.powers (state_place p j) 0) a t.coef *ℤ g j b)
zstates-term p g t j lt few len linear has m =
    total-single p.states j (λ l. conv (zfactor p l (coef (t ∷ []))) (g l) m) lt
    (λ l l_lt ne. none_of p g l (coef (t ∷ [])) m (absent p t l l_lt few len (λ e. let z = one_state p t.mono.powers j l lt l_lt ne linear has in absurd (omega (arith, e)))))
    ∙ split_sum-cong m (λ a b. zfactor p j (coef (t ∷ [])) a *ℤ g j b) (λ a b. only_at (set t.mono.powers (state_place p j) 0) a t.coef *ℤ g j b)
    (λ a b. ap (λ (w : ℤ). w *ℤ g j b) (own p t j lt linear has a))

-- a term without states is dropped
pub zstates-dropped : (p : Places) (g : ℕ → Powers → ℤ) (t : Term) → p.params + p.states ≤ 32 → length t.mono.powers ≡ 32 → state_degree p t.mono.powers ≡ 0 → (m : Powers) → zstates p g (coef (t ∷ [])) m ≡ pos 0
zstates-dropped p g t few len none m =
    total-zero p.states (λ l. conv (zfactor p l (coef (t ∷ []))) (g l) m)
    (λ l l_lt. none_of p g l (coef (t ∷ [])) m (absent p t l l_lt few len (λ e. let z = state_exponent p l t.mono.powers l_lt in absurd (omega (arith, e)))))

-- ---- one term after the other

pub coef-append : (ts us : List Term) (m : Powers) → coef (ts ++ us) m ≡ coef ts m +ℤ coef us m
coef-append [] us m = omega (arith, ints)
coef-append (t ∷ ts) us m = let a = coef-append ts us m in omega (arith, ints)

zfactor-plus : (p : Places) (j : ℕ) (f g : Powers → ℤ) (a : Powers) → zfactor p j (λ m. f m +ℤ g m) a ≡ zfactor p j f a +ℤ zfactor p j g a
zfactor-plus p j f g a = case (state_degree p a == 0)
  where
    case : (v : Bool) → cond v (f (set a (state_place p j) 1) +ℤ g (set a (state_place p j) 1)) (pos 0) ≡ cond v (f (set a (state_place p j) 1)) (pos 0) +ℤ cond v (g (set a (state_place p j) 1)) (pos 0)
    case true = refl
    case false = refl

zstates-plus : (p : Places) (g : ℕ → Powers → ℤ) (f h : Powers → ℤ) (m : Powers) → zstates p g (λ n. f n +ℤ h n) m ≡ zstates p g f m +ℤ zstates p g h m
zstates-plus p g f h m =
    total-cong p.states (λ j. conv (zfactor p j (λ n. f n +ℤ h n)) (g j) m) (λ j. conv (zfactor p j f) (g j) m +ℤ conv (zfactor p j h) (g j) m)
    (λ j lt.
    split_sum-cong m (λ a b. zfactor p j (λ n. f n +ℤ h n) a *ℤ g j b) (λ a b. zfactor p j f a *ℤ g j b +ℤ zfactor p j h a *ℤ g j b)
    (λ a b. ap (λ (w : ℤ). w *ℤ g j b) (zfactor-plus p j f h a) ∙ add-mul (zfactor p j f a) (zfactor p j h a) (g j b))
    ∙ split_sum-plus m (λ a b. zfactor p j f a *ℤ g j b) (λ a b. zfactor p j h a *ℤ g j b))
    ∙ total-plus p.states (λ j. conv (zfactor p j f) (g j) m) (λ j. conv (zfactor p j h) (g j) m)

pub zstates-same : (p : Places) (g g' : ℕ → Powers → ℤ) (f f' : Powers → ℤ) → ((m : Powers) → f m ≡ f' m) → ((j : ℕ) → j < p.states → (m : Powers) → g j m ≡ g' j m) → (m : Powers) → zstates p g f m ≡ zstates p g' f' m
zstates-same p g g' f f' h k m =
    total-cong p.states (λ j. conv (zfactor p j f) (g j) m) (λ j. conv (zfactor p j f') (g' j) m)
    (λ j lt.
    split_sum-cong m (λ a b. zfactor p j f a *ℤ g j b) (λ a b. zfactor p j f' a *ℤ g' j b)
    (λ a b. ap (λ (w : ℤ). cond (state_degree p a == 0) w (pos 0) *ℤ g j b) (h (set a (state_place p j) 1)) ∙ ap (λ (w : ℤ). zfactor p j f' a *ℤ w) (k j lt b)))

pub zstates-more : (p : Places) (g : ℕ → Powers → ℤ) (ts : List Term) (t : Term) (m : Powers) → zstates p g (coef (ts ++ t ∷ [])) m ≡ zstates p g (coef ts) m +ℤ zstates p g (coef (t ∷ [])) m
zstates-more p g ts t m =
    zstates-same p g g (coef (ts ++ t ∷ [])) (λ n. coef ts n +ℤ coef (t ∷ []) n) (coef-append ts (t ∷ [])) (λ j lt n. refl) m
    ∙ zstates-plus p g (coef ts) (coef (t ∷ [])) m
