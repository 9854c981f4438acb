-- The Lie series has no `tau`, and what follows for products with it.
use Rattle.std.proofs.Common.{◌≡◌, ◌≢◌, ℕ, zero, suc, ◌+◌, ◌-◌, ◌≤◌, ◌<◌, Bool, true, false, cond, ◌==◌, List, [], ◌∷◌, length, replicate, set, get_or, refl, sym, ap, ◌∙◌, arith, ℤ, pos, ◌*ℤ◌}
use Rattle.std.proofs.Math.Seq.{get_or-set_other, set-set}
use Rattle.std.proofs.lemmas.Bool.{eq-eqb, eqb-true, eqb-false}
use Rattle.vp_terms.specs.declared.expr.Places.{Places}
use Rattle.vp_poly.specs.Poly.{Powers, only_at}
use Rattle.vp_poly.specs.Product.{split_sum}
use Rattle.vp_poly.proofs.SplitLaws.{split_sum-zero, split_sum-cong}
use Rattle.vp_flow.specs.Series.{state_degree, tau_place}
use Rattle.vp_flow.specs.Whole.{conv, state_place, zfactor, zlie}
use Rattle.vp_flow.proofs.Sums.{int_sum-single, test_off}
use Rattle.vp_flow.proofs.Convolution.{AreParts, total-zero, split_sum-on, split_sum-pinned}
use Rattle.vp_flow.proofs.Lie.{AreRight, left_none, right_none, cond_none, no_exponent, conv-constant}
use Rattle.vp_flow.proofs.Replacing.{only-none}

pub part_exponent : (m a b : Powers) (t : ℕ) → AreParts m a b → get_or a t 0 + get_or b t 0 ≡ get_or m t 0
part_exponent [] [] [] t s = refl
part_exponent [] [] (y ∷ b) t s = absurd s
part_exponent [] (x ∷ a) b t s = absurd s
part_exponent (e ∷ m) [] b t s = absurd s
part_exponent (e ∷ m) (x ∷ a) [] t s = absurd s
part_exponent (e ∷ m) (x ∷ a) (y ∷ b) zero s = s.0
part_exponent (e ∷ m) (x ∷ a) (y ∷ b) (suc t) s = part_exponent m a b t s.1

pub set_own : (m : Powers) (t v : ℕ) → get_or m t 0 ≡ v → set m t v ≡ m
set_own [] t v e = refl
set_own (x ∷ m) zero v e = ap (λ (w : ℕ). w ∷ m) (sym e)
set_own (x ∷ m) (suc t) v e = ap (λ (l : List ℕ). x ∷ l) (set_own m t v e)

-- right sides with no `tau`, over 32 places
pub record AreTimeless (p : Places) (r : ℕ → Powers → ℤ) : Type 0 where
  pub right : AreRight p r
  pub later : p.params + p.states ≤ tau_place p
  pub places : tau_place p < 32
  pub no_tau : (i : ℕ) (a : Powers) → get_or a (tau_place p) 0 ≢ 0 → r i a ≡ pos 0

pub zfactor-no_tau : (p : Places) (j : ℕ) (f : Powers → ℤ) → j < p.states → p.params + p.states ≤ tau_place p → ((a : Powers) → get_or a (tau_place p) 0 ≢ 0 → f a ≡ pos 0) → (a : Powers) → get_or a (tau_place p) 0 ≢ 0 → zfactor p j f a ≡ pos 0
zfactor-no_tau p j f lt later none a ne =
    let apart : tau_place p ≢ state_place p j = λ e. absurd (omega (arith, e)) in
    let same = get_or-set_other a (state_place p j) (tau_place p) 1 0 apart in
    cond_none (state_degree p a == 0) (f (set a (state_place p j) 1)) (none (set a (state_place p j) 1) (λ e. ne (sym same ∙ e)))

conv-no_tau : (p : Places) (f g : Powers → ℤ) (m : Powers) → ((a : Powers) → get_or a (tau_place p) 0 ≢ 0 → f a ≡ pos 0) → ((a : Powers) → get_or a (tau_place p) 0 ≢ 0 → g a ≡ pos 0) → get_or m (tau_place p) 0 ≢ 0 → conv f g m ≡ pos 0
conv-no_tau p f g m h k ne =
    split_sum-on m (λ a b. f a *ℤ g b) (λ a b. pos 0) (λ a b s. each a b (part_exponent m a b (tau_place p) s) (get_or a (tau_place p) 0 == 0) refl)
    ∙ split_sum-zero m (λ a b. pos 0) (λ a b. refl)
  where
    each : (a b : Powers) → get_or a (tau_place p) 0 + get_or b (tau_place p) 0 ≡ get_or m (tau_place p) 0 → (v : Bool) → (get_or a (tau_place p) 0 == 0) ≡ v → f a *ℤ g b ≡ pos 0
    each a b s true t = let z = eqb-true (get_or a (tau_place p) 0) 0 t in right_none (f a) (g b) (k b (λ e. ne (sym s ∙ (let w : get_or a (tau_place p) 0 + get_or b (tau_place p) 0 ≡ 0 = omega arith in w))))
    each a b s false t = left_none (f a) (g b) (h a (eqb-false (get_or a (tau_place p) 0) 0 t))

pub zlie-no_tau : (p : Places) (r : ℕ → Powers → ℤ) (k i : ℕ) → AreTimeless p r → i < p.states → (a : Powers) → get_or a (tau_place p) 0 ≢ 0 → zlie p r i k a ≡ pos 0
zlie-no_tau p r zero i h lt a ne =
    let apart : tau_place p ≢ state_place p i = λ e. let l = h.later in absurd (omega (arith, e)) in
    let x = get_or-set_other (replicate 32 0) (state_place p i) (tau_place p) 1 0 apart ∙ no_exponent 32 (tau_place p) in
    only-none (set (replicate 32 0) (state_place p i) 1) a (pos 1) (λ q. ne (sym (ap (λ (l : List ℕ). get_or l (tau_place p) 0) q) ∙ x))
zlie-no_tau p r (suc k) i h lt a ne =
    total-zero p.states (λ j. conv (zfactor p j (zlie p r i k)) (r j) a)
    (λ j j_lt. conv-no_tau p (zfactor p j (zlie p r i k)) (r j) a (zfactor-no_tau p j (zlie p r i k) j_lt h.later (zlie-no_tau p r k i h lt)) (h.no_tau j) ne)

-- ---- products with powers of `tau`

-- the product with a power of the place t
pub conv-power : (m : Powers) (n t k : ℕ) (g : Powers → ℤ) (c : ℤ) → length m ≡ n → t < n → ((a : Powers) → get_or a t 0 ≢ 0 → g a ≡ pos 0) → split_sum m (λ a b. g a *ℤ only_at (set (replicate n 0) t k) b c) ≡ cond (get_or m t 0 == k) (g (set m t 0) *ℤ c) (pos 0)
conv-power [] zero t k g c e lt none = absurd (omega arith)
conv-power [] (suc n) t k g c e lt none = absurd (omega arith)
conv-power (x ∷ xs) zero t k g c e lt none = absurd (omega arith)
conv-power (x ∷ xs) (suc n) zero k g c e lt none =
    int_sum-single x 0 (λ i. split_sum xs (λ a b. g (i ∷ a) *ℤ cond (k == x - i) (only_at (replicate n 0) b c) (pos 0))) (omega arith)
    (λ i le ne. split_sum-zero xs (λ a b. g (i ∷ a) *ℤ cond (k == x - i) (only_at (replicate n 0) b c) (pos 0)) (λ a b. left_none (g (i ∷ a)) (cond (k == x - i) (only_at (replicate n 0) b c) (pos 0)) (none (i ∷ a) ne)))
    ∙ ap (λ (w : ℕ). split_sum xs (λ a b. g (0 ∷ a) *ℤ cond (k == w) (only_at (replicate n 0) b c) (pos 0))) (let z : x - 0 ≡ x = omega arith in z)
    ∙ at_head (x == k) refl (conv-constant xs n (λ a. g (0 ∷ a)) c (omega arith))
  where
    at_head : (v : Bool) → (x == k) ≡ v → split_sum xs (λ a b. g (0 ∷ a) *ℤ only_at (replicate n 0) b c) ≡ g (0 ∷ xs) *ℤ c → split_sum xs (λ a b. g (0 ∷ a) *ℤ cond (k == x) (only_at (replicate n 0) b c) (pos 0)) ≡ cond v (g (0 ∷ xs) *ℤ c) (pos 0)
    at_head true t rest = ap (λ (v : Bool). split_sum xs (λ a b. g (0 ∷ a) *ℤ cond v (only_at (replicate n 0) b c) (pos 0))) (eq-eqb k x (sym (eqb-true x k t))) ∙ rest
    at_head false t rest =
        split_sum-zero xs (λ a b. g (0 ∷ a) *ℤ cond (k == x) (only_at (replicate n 0) b c) (pos 0))
        (λ a b. right_none (g (0 ∷ a)) (cond (k == x) (only_at (replicate n 0) b c) (pos 0)) (ap (λ (v : Bool). cond v (only_at (replicate n 0) b c) (pos 0)) (test_off k x (λ q. eqb-false x k t (sym q)))))
conv-power (x ∷ xs) (suc n) (suc t) k g c e lt none =
    int_sum-single x x (λ i. split_sum xs (λ a b. g (i ∷ a) *ℤ cond (0 == x - i) (only_at (set (replicate n 0) t k) b c) (pos 0))) (omega arith)
    (λ i le ne. split_sum-zero xs (λ a b. g (i ∷ a) *ℤ cond (0 == x - i) (only_at (set (replicate n 0) t k) b c) (pos 0))
    (λ a b. right_none (g (i ∷ a)) (cond (0 == x - i) (only_at (set (replicate n 0) t k) b c) (pos 0)) (ap (λ (v : Bool). cond v (only_at (set (replicate n 0) t k) b c) (pos 0)) (test_off 0 (x - i) (λ q. ne (omega arith))))))
    ∙ split_sum-cong xs (λ a b. g (x ∷ a) *ℤ cond (0 == x - x) (only_at (set (replicate n 0) t k) b c) (pos 0)) (λ a b. g (x ∷ a) *ℤ only_at (set (replicate n 0) t k) b c)
    (λ a b. ap (λ (v : Bool). g (x ∷ a) *ℤ cond v (only_at (set (replicate n 0) t k) b c) (pos 0)) (eq-eqb 0 (x - x) (omega arith)))
    ∙ conv-power xs n t k (λ a. g (x ∷ a)) c (omega arith) (omega arith) (λ a ne. none (x ∷ a) ne)

-- a factor without `tau` leaves the exponent of `tau` to the other
pub conv-late : (t : ℕ) (f g : Powers → ℤ) (m : Powers) → ((a : Powers) → get_or a t 0 ≢ 0 → f a ≡ pos 0) → split_sum m (λ a b. f a *ℤ g (set b t 0)) ≡ conv f g (set m t 0)
conv-late t f g m none =
    split_sum-pinned m t (λ a b. f a *ℤ g (set b t 0)) (λ a b ne. left_none (f a) (g (set b t 0)) (none a ne))
    ∙ split_sum-on (set m t 0) (λ a b. f a *ℤ g (set (set b t (get_or m t 0)) t 0)) (λ a b. f a *ℤ g b)
    (λ a b s. ap (λ (l : List ℕ). f a *ℤ g l) (set-set b t (get_or m t 0) 0 ∙ set_own b t 0 (let q = part_exponent (set m t 0) a b t s in let z = lowest m t in omega arith)))
  where
    lowest : (m : Powers) (t : ℕ) → ◌≡◌ {A = ℕ} (get_or (set m t 0) t 0) 0
    lowest [] t = refl
    lowest (x ∷ m) zero = refl
    lowest (x ∷ m) (suc t) = lowest m t
