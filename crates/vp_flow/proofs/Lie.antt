-- The Lie series over the whole numbers.
use Rattle.std.proofs.Common.{◌≡◌, ◌≢◌, ℕ, zero, suc, ◌+◌, ◌-◌, ◌≤◌, ◌<◌, Bool, true, false, cond, ◌==◌, [], ◌∷◌, length, sum, take, drop, replicate, set, get_or, refl, sym, ap, ◌∙◌, arith, ℤ, pos, ◌*ℤ◌}
use Rattle.std.proofs.Math.IntN.{*ℤ-zero, zero-*ℤ}
use Rattle.std.proofs.Math.Seq.{get_or-set_other, get_or-set_same}
use Rattle.std.proofs.lemmas.List.{length-set}
use Rattle.std.proofs.lemmas.Int.{ints}
use Rattle.std.proofs.lemmas.Bool.{eq-eqb, eqb-true, eqb-false}
use Rattle.vp_terms.specs.declared.expr.Places.{Places}
use Rattle.vp_poly.specs.Poly.{Powers, only_at}
use Rattle.vp_poly.specs.Product.{split_sum}
use Rattle.vp_poly.proofs.SplitLaws.{split_sum-zero, split_sum-cong, split_sum-turned}
use Rattle.vp_poly.proofs.Ring.{mul_comm}
use Rattle.vp_poly.proofs.RowLaws.{sum-cons}
use Rattle.vp_flow.specs.Series.{state_degree}
use Rattle.vp_flow.specs.Whole.{total, conv, state_place, zfactor, zstates, zlie}
use Rattle.vp_flow.proofs.Sums.{int_sum-single, test_off}
use Rattle.vp_flow.proofs.Convolution.{total-cong, total-zero, total-single, total-swap, total-times, times-total, split_sum-total, split_sum-on, split_sum-raised, AreParts, conv-cong, conv-assoc}

-- ---- degrees in the states

pub part_sum : (k n : ℕ) (m a b : Powers) → AreParts m a b → sum (take n (drop k a)) + sum (take n (drop k b)) ≡ sum (take n (drop k m))
part_sum zero zero m a b s = refl
part_sum zero (suc n) [] [] [] s = refl
part_sum zero (suc n) [] [] (y ∷ b) s = absurd s
part_sum zero (suc n) [] (x ∷ a) b s = absurd s
part_sum zero (suc n) (e ∷ m) [] b s = absurd s
part_sum zero (suc n) (e ∷ m) (x ∷ a) [] s = absurd s
part_sum zero (suc n) (e ∷ m) (x ∷ a) (y ∷ b) s =
    let r = part_sum zero n m a b s.1 in
    let q : x + y ≡ e = s.0 in
    omega (arith, sum-cons x (take n a), sum-cons y (take n b), sum-cons e (take n m))
part_sum (suc k) zero [] [] [] s = refl
part_sum (suc k) (suc n) [] [] [] s = refl
part_sum (suc k) n [] [] (y ∷ b) s = absurd s
part_sum (suc k) n [] (x ∷ a) b s = absurd s
part_sum (suc k) n (e ∷ m) [] b s = absurd s
part_sum (suc k) n (e ∷ m) (x ∷ a) [] s = absurd s
part_sum (suc k) n (e ∷ m) (x ∷ a) (y ∷ b) s = part_sum k n m a b s.1

pub part_degrees : (p : Places) (m a b : Powers) → AreParts m a b → state_degree p a + state_degree p b ≡ state_degree p m
part_degrees p m a b s = part_sum p.params p.states m a b s

pub within_sum : (k n t : ℕ) (m : Powers) → k ≤ t → t < k + n → get_or m t 0 ≤ sum (take n (drop k m))
within_sum k n t [] le lt = omega arith
within_sum zero zero t (x ∷ m) le lt = absurd (omega arith)
within_sum zero (suc n) zero (x ∷ m) le lt = omega (arith, sum-cons x (take n m))
within_sum zero (suc n) (suc t) (x ∷ m) le lt = let r = within_sum zero n t m (omega arith) (omega arith) in omega (arith, sum-cons x (take n m))
within_sum (suc k) n zero (x ∷ m) le lt = absurd (omega arith)
within_sum (suc k) n (suc t) (x ∷ m) le lt = within_sum k n t m (omega arith) (omega arith)

-- a state's exponent is at most the degree
pub state_exponent : (p : Places) (j : ℕ) (m : Powers) → j < p.states → get_or m (state_place p j) 0 ≤ state_degree p m
state_exponent p j m lt = within_sum p.params p.states (state_place p j) m (omega arith) (omega arith)

pub zfactor-on : (p : Places) (j : ℕ) (f : Powers → ℤ) (m : Powers) → state_degree p m ≡ 0 → zfactor p j f m ≡ f (set m (state_place p j) 1)
zfactor-on p j f m z = ap (λ (v : Bool). cond v (f (set m (state_place p j) 1)) (pos 0)) (eq-eqb (state_degree p m) 0 z)

pub zfactor-off : (p : Places) (j : ℕ) (f : Powers → ℤ) (m : Powers) → state_degree p m ≢ 0 → zfactor p j f m ≡ pos 0
zfactor-off p j f m z = ap (λ (v : Bool). cond v (f (set m (state_place p j) 1)) (pos 0)) (test_off (state_degree p m) 0 z)

pub zfactor-cong : (p : Places) (j : ℕ) (f g : Powers → ℤ) → ((m : Powers) → f m ≡ g m) → (m : Powers) → zfactor p j f m ≡ zfactor p j g m
zfactor-cong p j f g h m = ap (λ (w : ℤ). cond (state_degree p m == 0) w (pos 0)) (h (set m (state_place p j) 1))

zfactor-total : (p : Places) (l n : ℕ) (f : ℕ → Powers → ℤ) (a : Powers) → zfactor p l (λ m. total n (λ j. f j m)) a ≡ total n (λ j. zfactor p l (f j) a)
zfactor-total p l n f a = case (state_degree p a == 0)
  where
    case : (v : Bool) → cond v (total n (λ j. f j (set a (state_place p l) 1))) (pos 0) ≡ total n (λ j. cond v (f j (set a (state_place p l) 1)) (pos 0))
    case true = refl
    case false = sym (total-zero n (λ j. pos 0) (λ j lt. refl))

pub times_one : (z : ℤ) → z *ℤ pos 1 ≡ z
times_one z = omega (arith, ints)

pub left_none : (z w : ℤ) → z ≡ pos 0 → z *ℤ w ≡ pos 0
left_none z w e = rw e (zero-*ℤ w)

pub right_none : (z w : ℤ) → w ≡ pos 0 → z *ℤ w ≡ pos 0
right_none z w e = rw e (*ℤ-zero z)

-- a part without states may be put before the factor of a state
zfactor-conv : (p : Places) (l : ℕ) (f g : Powers → ℤ) → l < p.states → ((b : Powers) → state_degree p b ≢ 0 → f b ≡ pos 0) → (a : Powers) → zfactor p l (conv f g) a ≡ conv f (zfactor p l g) a
zfactor-conv p l f g lt free a = case (state_degree p a == 0) refl
  where
    none : (b c : Powers) → AreParts a b c → state_degree p a ≢ 0 → (v : Bool) → (state_degree p c == 0) ≡ v → f b *ℤ cond v (g (set c (state_place p l) 1)) (pos 0) ≡ pos 0
    none b c s ne false t = *ℤ-zero (f b)
    none b c s ne true t =
        let z : state_degree p c ≡ 0 = eqb-true (state_degree p c) 0 t in
        let q = part_degrees p a b c s in
        left_none (f b) (g (set c (state_place p l) 1)) (free b (omega arith))

    case : (v : Bool) → (state_degree p a == 0) ≡ v → cond v (conv f g (set a (state_place p l) 1)) (pos 0) ≡ conv f (zfactor p l g) a
    case true t =
        let z : state_degree p a ≡ 0 = eqb-true (state_degree p a) 0 t in
        let x = state_exponent p l a lt in
        split_sum-raised a (state_place p l) (λ b c. f b *ℤ g c) (omega arith)
        (λ b c ne. let y = state_exponent p l b lt in left_none (f b) (g c) (free b (omega arith)))
        ∙ split_sum-on a (λ b c. f b *ℤ g (set c (state_place p l) 1)) (λ b c. f b *ℤ zfactor p l g c)
        (λ b c s. let q = part_degrees p a b c s in ap (λ (w : ℤ). f b *ℤ w) (sym (zfactor-on p l g c (omega arith))))
    case false t =
        let ne : state_degree p a ≢ 0 = eqb-false (state_degree p a) 0 t in
        sym (split_sum-on a (λ b c. f b *ℤ zfactor p l g c) (λ b c. pos 0) (λ b c s. none b c s ne (state_degree p c == 0) refl) ∙ split_sum-zero a (λ b c. pos 0) (λ b c. refl))

-- ---- the second of the series is the right side

pub cond_none : (v : Bool) (z : ℤ) → z ≡ pos 0 → cond v z (pos 0) ≡ pos 0
cond_none true z e = e
cond_none false z e = refl

cond_none_where : (v : Bool) (z : ℤ) → (v ≡ true → z ≡ pos 0) → cond v z (pos 0) ≡ pos 0
cond_none_where true z e = e refl
cond_none_where false z e = refl

only-raised : (ps a : Powers) (t : ℕ) (c : ℤ) → get_or ps t 0 ≡ get_or a t 0 → only_at (set ps t 1) (set a t 1) c ≡ only_at ps a c
only-raised [] [] t c e = refl
only-raised [] (y ∷ a) zero c e = refl
only-raised [] (y ∷ a) (suc t) c e = refl
only-raised (x ∷ ps) [] zero c e = refl
only-raised (x ∷ ps) [] (suc t) c e = refl
only-raised (x ∷ ps) (y ∷ a) zero c e = ap (λ (v : Bool). cond v (only_at ps a c) (pos 0)) (sym (eq-eqb x y e))
only-raised (x ∷ ps) (y ∷ a) (suc t) c e = ap (λ (w : ℤ). cond (x == y) w (pos 0)) (only-raised ps a t c e)

-- at the place t one has another exponent
pub only-apart : (ps a : Powers) (t : ℕ) (c : ℤ) → t < length ps → get_or ps t 0 ≢ get_or a t 0 → only_at ps a c ≡ pos 0
only-apart [] a t c lt ne = absurd (omega arith)
only-apart (x ∷ ps) [] t c lt ne = refl
only-apart (x ∷ ps) (y ∷ a) zero c lt ne = ap (λ (v : Bool). cond v (only_at ps a c) (pos 0)) (test_off x y ne)
only-apart (x ∷ ps) (y ∷ a) (suc t) c lt ne = cond_none (x == y) (only_at ps a c) (only-apart ps a t c (omega arith) ne)

pub only-length : (ps a : Powers) (c : ℤ) → length ps ≢ length a → only_at ps a c ≡ pos 0
only-length [] [] c ne = absurd (ne refl)
only-length [] (y ∷ a) c ne = refl
only-length (x ∷ ps) [] c ne = refl
only-length (x ∷ ps) (y ∷ a) c ne = cond_none (x == y) (only_at ps a c) (only-length ps a c (λ e. ne (ap suc e)))

pub no_exponent : (n t : ℕ) → ◌≡◌ {A = ℕ} (get_or (replicate n 0) t 0) 0
no_exponent zero t = refl
no_exponent (suc n) zero = refl
no_exponent (suc n) (suc t) = no_exponent n t

no_sum : (k l n : ℕ) (a : Powers) (c : ℤ) → sum (take l (drop k a)) ≢ 0 → only_at (replicate n 0) a c ≡ pos 0
no_sum k l zero [] c ne = case k l ne
  where
    case : (k l : ℕ) → sum (take l (drop k [])) ≢ 0 → c ≡ pos 0
    case zero zero ne = absurd (ne refl)
    case zero (suc l) ne = absurd (ne refl)
    case (suc k) zero ne = absurd (ne refl)
    case (suc k) (suc l) ne = absurd (ne refl)
no_sum k l zero (y ∷ a) c ne = refl
no_sum k l (suc n) [] c ne = refl
no_sum zero zero (suc n) (y ∷ a) c ne = absurd (ne refl)
no_sum zero (suc l) (suc n) (y ∷ a) c ne =
    cond_none_where (0 == y) (only_at (replicate n 0) a c)
    (λ t. let e : 0 ≡ y = eqb-true 0 y t in let s = sum-cons y (take l a) in no_sum zero l n a c (λ z. ne (let w : sum (y ∷ take l a) ≡ 0 = omega arith in w)))
no_sum (suc k) l (suc n) (y ∷ a) c ne = cond_none (0 == y) (only_at (replicate n 0) a c) (no_sum k l n a c ne)

-- the factor of a state in itself is 1
own_factor : (p : Places) (i n : ℕ) (a : Powers) → i < p.states → cond (state_degree p a == 0) (only_at (set (replicate n 0) (state_place p i) 1) (set a (state_place p i) 1) (pos 1)) (pos 0) ≡ only_at (replicate n 0) a (pos 1)
own_factor p i n a lt = case (state_degree p a == 0) refl
  where
    case : (v : Bool) → (state_degree p a == 0) ≡ v → cond v (only_at (set (replicate n 0) (state_place p i) 1) (set a (state_place p i) 1) (pos 1)) (pos 0) ≡ only_at (replicate n 0) a (pos 1)
    case true t =
        let z : state_degree p a ≡ 0 = eqb-true (state_degree p a) 0 t in
        let x = state_exponent p i a lt in
        let y = no_exponent n (state_place p i) in
        only-raised (replicate n 0) a (state_place p i) (pos 1) (omega arith)
    case false t = sym (no_sum p.params p.states n a (pos 1) (eqb-false (state_degree p a) 0 t))

pub part_length : (m a b : Powers) → AreParts m a b → length a ≡ length m
part_length [] [] [] s = refl
part_length [] [] (y ∷ b) s = absurd s
part_length [] (x ∷ a) b s = absurd s
part_length (e ∷ m) [] b s = absurd s
part_length (e ∷ m) (x ∷ a) [] s = absurd s
part_length (e ∷ m) (x ∷ a) (y ∷ b) s = ap suc (part_length m a b s.1)

-- the factor of another state is 0
other_factor : (p : Places) (i j : ℕ) (a : Powers) → i < p.states → j < p.states → p.params + p.states ≤ 32 → j ≢ i → zfactor p j (λ m. only_at (set (replicate 32 0) (state_place p i) 1) m (pos 1)) a ≡ pos 0
other_factor p i j a lt j_lt few ne = case (state_degree p a == 0)
  where
    apart : state_place p j ≢ state_place p i
    apart e = ne (omega arith)

    sizes : length {A = ℕ} (set (replicate 32 0) (state_place p i) 1) ≡ 32
    sizes = length-set (replicate 32 0) (state_place p i) 1

    there : (v : Bool) → (length a == 32) ≡ v → only_at (set (replicate 32 0) (state_place p i) 1) (set a (state_place p j) 1) (pos 1) ≡ pos 0
    there true t =
        let e : length a ≡ 32 = eqb-true (length a) 32 t in
        let x : ◌≡◌ {A = ℕ} (get_or (set (replicate 32 0) (state_place p i) 1) (state_place p j) 0) 0 = get_or-set_other (replicate 32 0) (state_place p i) (state_place p j) 1 0 apart ∙ no_exponent 32 (state_place p j) in
        let y : ◌≡◌ {A = ℕ} (get_or (set a (state_place p j) 1) (state_place p j) 0) 1 = get_or-set_same a (state_place p j) 1 0 (omega arith) in
        only-apart (set (replicate 32 0) (state_place p i) 1) (set a (state_place p j) 1) (state_place p j) (pos 1) (let s = sizes in omega arith) (λ e'. absurd (omega (arith, e', x, y)))
    there false t =
        let e : length a ≢ 32 = eqb-false (length a) 32 t in
        only-length (set (replicate 32 0) (state_place p i) 1) (set a (state_place p j) 1) (pos 1) (λ q. e (sym (length-set a (state_place p j) 1) ∙ sym q ∙ sizes))

    case : (v : Bool) → cond v (only_at (set (replicate 32 0) (state_place p i) 1) (set a (state_place p j) 1) (pos 1)) (pos 0) ≡ pos 0
    case true = there (length a == 32) refl
    case false = refl

-- the product with the monomial without variables
pub conv-constant : (m : Powers) (n : ℕ) (g : Powers → ℤ) (c : ℤ) → length m ≡ n → split_sum m (λ a b. g a *ℤ only_at (replicate n 0) b c) ≡ g m *ℤ c
conv-constant [] zero g c e = refl
conv-constant [] (suc n) g c e = absurd (omega arith)
conv-constant (x ∷ xs) zero g c e = absurd (omega arith)
conv-constant (x ∷ xs) (suc n) g c e =
    int_sum-single x x (λ i. split_sum xs (λ a b. g (i ∷ a) *ℤ cond (0 == x - i) (only_at (replicate n 0) b c) (pos 0))) (omega arith)
    (λ i le ne. split_sum-zero xs (λ a b. g (i ∷ a) *ℤ cond (0 == x - i) (only_at (replicate n 0) b c) (pos 0))
    (λ a b. right_none (g (i ∷ a)) (cond (0 == x - i) (only_at (replicate n 0) b c) (pos 0)) (ap (λ (v : Bool). cond v (only_at (replicate n 0) b c) (pos 0)) (test_off 0 (x - i) (λ q. ne (omega arith))))))
    ∙ split_sum-cong xs (λ a b. g (x ∷ a) *ℤ cond (0 == x - x) (only_at (replicate n 0) b c) (pos 0)) (λ a b. g (x ∷ a) *ℤ only_at (replicate n 0) b c)
    (λ a b. ap (λ (v : Bool). g (x ∷ a) *ℤ cond v (only_at (replicate n 0) b c) (pos 0)) (eq-eqb 0 (x - x) (omega arith)))
    ∙ conv-constant xs n (λ a. g (x ∷ a)) c (omega arith)

constant-conv : (m : Powers) (g : Powers → ℤ) → ((a : Powers) → length a ≢ 32 → g a ≡ pos 0) → split_sum m (λ a b. only_at (replicate 32 0) a (pos 1) *ℤ g b) ≡ g m
constant-conv m g none = case (length m == 32) refl
  where
    case : (v : Bool) → (length m == 32) ≡ v → split_sum m (λ a b. only_at (replicate 32 0) a (pos 1) *ℤ g b) ≡ g m
    case true t =
        split_sum-turned m (λ a b. only_at (replicate 32 0) a (pos 1) *ℤ g b)
        ∙ split_sum-cong m (λ a b. only_at (replicate 32 0) b (pos 1) *ℤ g a) (λ a b. g a *ℤ only_at (replicate 32 0) b (pos 1)) (λ a b. mul_comm (only_at (replicate 32 0) b (pos 1)) (g a))
        ∙ conv-constant m 32 g (pos 1) (eqb-true (length m) 32 t)
        ∙ times_one (g m)
    case false t =
        let e : length m ≢ 32 = eqb-false (length m) 32 t in
        split_sum-on m (λ a b. only_at (replicate 32 0) a (pos 1) *ℤ g b) (λ a b. pos 0)
        (λ a b s. left_none (only_at (replicate 32 0) a (pos 1)) (g b) (only-length (replicate 32 0) a (pos 1) (λ q. e (sym (part_length m a b s) ∙ sym q))))
        ∙ split_sum-zero m (λ a b. pos 0) (λ a b. refl)
        ∙ sym (none m e)

-- the functions of right sides that are 0 at what is no monomial of 32 places
pub record AreRight (p : Places) (r : ℕ → Powers → ℤ) : Type 0 where
  pub few : p.params + p.states ≤ 32
  pub none : (i : ℕ) (a : Powers) → length a ≢ 32 → r i a ≡ pos 0

pub zlie-first : (p : Places) (r : ℕ → Powers → ℤ) (i : ℕ) → AreRight p r → i < p.states → (m : Powers) → zlie p r i 1 m ≡ r i m
zlie-first p r i right lt m =
    total-single p.states i (λ j. conv (zfactor p j (zlie p r i 0)) (r j) m) lt
    (λ j j_lt ne. split_sum-zero m (λ a b. zfactor p j (zlie p r i 0) a *ℤ r j b) (λ a b. left_none (zfactor p j (zlie p r i 0) a) (r j b) (other_factor p i j a lt j_lt right.few ne)))
    ∙ split_sum-cong m (λ a b. zfactor p i (zlie p r i 0) a *ℤ r i b) (λ a b. only_at (replicate 32 0) a (pos 1) *ℤ r i b) (λ a b. ap (λ (w : ℤ). w *ℤ r i b) (own_factor p i 32 a lt))
    ∙ constant-conv m (r i) (right.none i)

conv-total : (m : Powers) (n : ℕ) (f : Powers → ℤ) (g : ℕ → Powers → ℤ) → conv f (λ b. total n (λ l. g l b)) m ≡ total n (λ l. conv f (g l) m)
conv-total m n f g = split_sum-cong m (λ a b. f a *ℤ total n (λ l. g l b)) (λ a b. total n (λ l. f a *ℤ g l b)) (λ a b. times-total n (λ l. g l b) (f a)) ∙ split_sum-total m n (λ l a b. f a *ℤ g l b)

total-conv : (m : Powers) (n : ℕ) (f : ℕ → Powers → ℤ) (g : Powers → ℤ) → conv (λ a. total n (λ l. f l a)) g m ≡ total n (λ l. conv (f l) g m)
total-conv m n f g = split_sum-cong m (λ a b. total n (λ l. f l a) *ℤ g b) (λ a b. total n (λ l. f l a *ℤ g b)) (λ a b. total-times n (λ l. f l a) (g b)) ∙ split_sum-total m n (λ l a b. f l a *ℤ g b)

-- from the third on, the series is the right side with each state replaced by what came before
pub zlie-next : (p : Places) (r : ℕ → Powers → ℤ) (k i : ℕ) → AreRight p r → i < p.states → (m : Powers) → zlie p r i (suc (suc k)) m ≡ zstates p (λ j. zlie p r j (suc k)) (r i) m
zlie-next p r zero i right lt m =
    total-cong p.states (λ j. conv (zfactor p j (zlie p r i 1)) (r j) m) (λ j. conv (zfactor p j (r i)) (zlie p r j 1) m)
    (λ j j_lt. conv-cong m (zfactor p j (zlie p r i 1)) (zfactor p j (r i)) (r j) (zlie p r j 1) (zfactor-cong p j (zlie p r i 1) (r i) (zlie-first p r i right lt)) (λ b. sym (zlie-first p r j right j_lt b)))
zlie-next p r (suc k) i right lt m =
    total-cong p.states (λ l. conv (zfactor p l (zlie p r i (suc (suc k)))) (r l) m) (λ l. total p.states (λ j. conv (zfactor p j (r i)) (conv (zfactor p l (zlie p r j (suc k))) (r l)) m))
    (λ l l_lt.
    conv-cong m (zfactor p l (zlie p r i (suc (suc k)))) (λ a. total p.states (λ j. conv (zfactor p j (r i)) (zfactor p l (zlie p r j (suc k))) a)) (r l) (r l)
    (λ a.
    zfactor-cong p l (zlie p r i (suc (suc k))) (zstates p (λ j. zlie p r j (suc k)) (r i)) (zlie-next p r k i right lt) a
    ∙ zfactor-total p l p.states (λ j. conv (zfactor p j (r i)) (zlie p r j (suc k))) a
    ∙ total-cong p.states (λ j. zfactor p l (conv (zfactor p j (r i)) (zlie p r j (suc k))) a) (λ j. conv (zfactor p j (r i)) (zfactor p l (zlie p r j (suc k))) a)
    (λ j j_lt. zfactor-conv p l (zfactor p j (r i)) (zlie p r j (suc k)) l_lt (zfactor-off p j (r i)) a))
    (λ b. refl)
    ∙ total-conv m p.states (λ j. conv (zfactor p j (r i)) (zfactor p l (zlie p r j (suc k)))) (r l)
    ∙ total-cong p.states (λ j. conv (conv (zfactor p j (r i)) (zfactor p l (zlie p r j (suc k)))) (r l) m) (λ j. conv (zfactor p j (r i)) (conv (zfactor p l (zlie p r j (suc k))) (r l)) m)
    (λ j j_lt. conv-assoc m (zfactor p j (r i)) (zfactor p l (zlie p r j (suc k))) (r l)))
    ∙ total-swap p.states p.states (λ l j. conv (zfactor p j (r i)) (conv (zfactor p l (zlie p r j (suc k))) (r l)) m)
    ∙ total-cong p.states (λ j. total p.states (λ l. conv (zfactor p j (r i)) (conv (zfactor p l (zlie p r j (suc k))) (r l)) m)) (λ j. conv (zfactor p j (r i)) (zlie p r j (suc (suc k))) m)
    (λ j j_lt. sym (conv-total m p.states (zfactor p j (r i)) (λ l. conv (zfactor p l (zlie p r j (suc k))) (r l))))
