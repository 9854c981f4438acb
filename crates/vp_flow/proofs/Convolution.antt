-- Products of functions on monomials, over the whole numbers.
use Rattle.std.proofs.Common.{◌≡◌, ◌≢◌, ℕ, zero, suc, ◌+◌, ◌-◌, ◌<◌, Bool, true, false, ◌==◌, [], ◌∷◌, set, get_or, refl, sym, ap, ◌∙◌, arith, ℤ, pos, ◌+ℤ◌, ◌*ℤ◌}
use Rattle.std.proofs.Math.IntN.{*ℤ-zero, zero-*ℤ}
use Rattle.std.proofs.lemmas.Int.{ints}
use Rattle.std.proofs.lemmas.Bool.{eqb-true, eqb-false}
use Rattle.vp_poly.specs.Poly.{Powers}
use Rattle.vp_poly.specs.Product.{split_sum}
use Rattle.vp_poly.proofs.SplitLaws.{int_sum, int_sum-cong, int_sum-within, split_sum-cong, split_sum-plus, split_sum-zero}
use Rattle.vp_poly.proofs.Splitting.{split_sum-assoc, split_sum-by}
use Rattle.vp_poly.proofs.Ring.{add-mul, mul-add, mul_assoc, mul_comm}
use Rattle.vp_flow.specs.Whole.{total, conv}
use Rattle.vp_flow.proofs.Sums.{int_sum-single}

-- ---- sums over the numbers below n

pub total-cong : (n : ℕ) (f g : ℕ → ℤ) → ((j : ℕ) → j < n → f j ≡ g j) → total n f ≡ total n g
total-cong zero f g h = refl
total-cong (suc n) f g h = let a = total-cong n f g (λ j lt. h j (omega arith)) in let b = h n (omega arith) in omega (arith, ints)

pub total-zero : (n : ℕ) (f : ℕ → ℤ) → ((j : ℕ) → j < n → f j ≡ pos 0) → total n f ≡ pos 0
total-zero zero f h = refl
total-zero (suc n) f h = let a = total-zero n f (λ j lt. h j (omega arith)) in let b = h n (omega arith) in omega (arith, ints)

pub total-plus : (n : ℕ) (f g : ℕ → ℤ) → total n (λ j. f j +ℤ g j) ≡ total n f +ℤ total n g
total-plus zero f g = refl
total-plus (suc n) f g = let a = total-plus n f g in omega (arith, ints)

pub total-single : (n x : ℕ) (f : ℕ → ℤ) → x < n → ((j : ℕ) → j < n → j ≢ x → f j ≡ pos 0) → total n f ≡ f x
total-single zero x f lt h = absurd (omega arith)
total-single (suc n) x f lt h = case (x == n) refl (λ less. total-single n x f less (λ j j_lt ne. h j (omega arith) ne))
  where
    case : (v : Bool) → (x == n) ≡ v → (x < n → total n f ≡ f x) → total n f +ℤ f n ≡ f x
    case true t more =
        let e : x ≡ n = eqb-true x n t in
        let a = total-zero n f (λ j j_lt. h j (omega arith) (omega arith)) in
        let b = ap f e in
        omega (arith, ints)
    case false t more =
        let ne : x ≢ n = eqb-false x n t in
        let a = more (omega arith) in
        let b = h n (omega arith) (omega arith) in
        omega (arith, ints)

pub total-swap : (n k : ℕ) (f : ℕ → ℕ → ℤ) → total n (λ i. total k (λ j. f i j)) ≡ total k (λ j. total n (λ i. f i j))
total-swap zero k f = sym (total-zero k (λ j. pos 0) (λ j lt. refl))
total-swap (suc n) k f = ap (λ (w : ℤ). w +ℤ total k (f n)) (total-swap n k f) ∙ sym (total-plus k (λ j. total n (λ i. f i j)) (λ j. f n j))

pub total-times : (n : ℕ) (f : ℕ → ℤ) (z : ℤ) → total n f *ℤ z ≡ total n (λ j. f j *ℤ z)
total-times zero f z = zero-*ℤ z
total-times (suc n) f z = add-mul (total n f) (f n) z ∙ ap (λ (w : ℤ). w +ℤ f n *ℤ z) (total-times n f z)

pub times-total : (n : ℕ) (f : ℕ → ℤ) (z : ℤ) → z *ℤ total n f ≡ total n (λ j. z *ℤ f j)
times-total zero f z = *ℤ-zero z
times-total (suc n) f z = mul-add z (total n f) (f n) ∙ ap (λ (w : ℤ). w +ℤ z *ℤ f n) (times-total n f z)

-- ---- sums over splits

pub split_sum-total : (m : Powers) (n : ℕ) (f : ℕ → Powers → Powers → ℤ) → split_sum m (λ a b. total n (λ j. f j a b)) ≡ total n (λ j. split_sum m (f j))
split_sum-total m zero f = split_sum-zero m (λ a b. pos 0) (λ a b. refl)
split_sum-total m (suc n) f = split_sum-plus m (λ a b. total n (λ j. f j a b)) (f n) ∙ ap (λ (w : ℤ). w +ℤ split_sum m (f n)) (split_sum-total m n f)

pub by-split_sum : (m : Powers) (f : Powers → Powers → ℤ) (z : ℤ) → z *ℤ split_sum m f ≡ split_sum m (λ a b. z *ℤ f a b)
by-split_sum m f z = mul_comm z (split_sum m f) ∙ split_sum-by m f z ∙ split_sum-cong m (λ a b. f a b *ℤ z) (λ a b. z *ℤ f a b) (λ a b. mul_comm (f a b) z)

pub int_sum-split : (n : ℕ) (m : Powers) (f : ℕ → Powers → Powers → ℤ) → split_sum m (λ a b. int_sum n (λ j. f j a b)) ≡ int_sum n (λ j. split_sum m (f j))
int_sum-split zero m f = refl
int_sum-split (suc n) m f = split_sum-plus m (λ a b. int_sum n (λ j. f j a b)) (f (suc n)) ∙ ap (λ (w : ℤ). w +ℤ split_sum m (f (suc n))) (int_sum-split n m f)

pub conv-cong : (m : Powers) (f f' g g' : Powers → ℤ) → ((a : Powers) → f a ≡ f' a) → ((a : Powers) → g a ≡ g' a) → conv f g m ≡ conv f' g' m
conv-cong m f f' g g' h k = split_sum-cong m (λ a b. f a *ℤ g b) (λ a b. f' a *ℤ g' b) (λ a b. ap (λ (w : ℤ). w *ℤ g b) (h a) ∙ ap (λ (w : ℤ). f' a *ℤ w) (k b))

pub conv-assoc : (m : Powers) (f g h : Powers → ℤ) → conv (conv f g) h m ≡ conv f (conv g h) m
conv-assoc m f g h =
    split_sum-cong m (λ a c. split_sum a (λ b d. f b *ℤ g d) *ℤ h c) (λ a c. split_sum a (λ b d. f b *ℤ g d *ℤ h c)) (λ a c. split_sum-by a (λ b d. f b *ℤ g d) (h c))
    ∙ split_sum-assoc m (λ b d c. f b *ℤ g d *ℤ h c)
    ∙ split_sum-cong m (λ b x. split_sum x (λ d c. f b *ℤ g d *ℤ h c)) (λ b x. f b *ℤ split_sum x (λ d c. g d *ℤ h c))
    (λ b x. split_sum-cong x (λ d c. f b *ℤ g d *ℤ h c) (λ d c. f b *ℤ (g d *ℤ h c)) (λ d c. mul_assoc (f b) (g d) (h c)) ∙ sym (by-split_sum x (λ d c. g d *ℤ h c) (f b)))

-- ---- the parts of a split

-- a and b are the two parts of m
abbrev pub AreParts : Powers → Powers → Powers → Type 0
AreParts [] [] [] = Unit {0}
AreParts [] [] (y ∷ b) = ⊥
AreParts [] (x ∷ a) b = ⊥
AreParts (e ∷ m) [] b = ⊥
AreParts (e ∷ m) (x ∷ a) [] = ⊥
AreParts (e ∷ m) (x ∷ a) (y ∷ b) = (x + y ≡ e) × AreParts m a b

pub split_sum-on : (m : Powers) (f g : Powers → Powers → ℤ) → ((a b : Powers) → AreParts m a b → f a b ≡ g a b) → split_sum m f ≡ split_sum m g
split_sum-on [] f g h = h [] [] tt
split_sum-on (e ∷ es) f g h =
    int_sum-within e (λ i. split_sum es (λ a b. f (i ∷ a) ((e - i) ∷ b))) (λ i. split_sum es (λ a b. g (i ∷ a) ((e - i) ∷ b)))
    (λ i le. split_sum-on es (λ a b. f (i ∷ a) ((e - i) ∷ b)) (λ a b. g (i ∷ a) ((e - i) ∷ b)) (λ a b s. let q : i + (e - i) ≡ e = omega arith in h (i ∷ a) ((e - i) ∷ b) (q, s)))

-- ---- where the first part has no exponent at one place

-- the exponent at that place is the second part's
pub split_sum-pinned : (m : Powers) (t : ℕ) (f : Powers → Powers → ℤ) → ((a b : Powers) → get_or a t 0 ≢ 0 → f a b ≡ pos 0) → split_sum m f ≡ split_sum (set m t 0) (λ a b. f a (set b t (get_or m t 0)))
split_sum-pinned [] t f h = refl
split_sum-pinned (e ∷ es) zero f h =
    int_sum-single e 0 (λ i. split_sum es (λ a b. f (i ∷ a) ((e - i) ∷ b))) (omega arith) (λ i le ne. split_sum-zero es (λ a b. f (i ∷ a) ((e - i) ∷ b)) (λ a b. h (i ∷ a) ((e - i) ∷ b) ne))
    ∙ ap (λ (w : ℕ). split_sum es (λ a b. f (0 ∷ a) (w ∷ b))) (let s : e - 0 ≡ e = omega arith in s)
split_sum-pinned (e ∷ es) (suc t) f h =
    int_sum-cong e (λ i. split_sum es (λ a b. f (i ∷ a) ((e - i) ∷ b))) (λ i. split_sum (set es t 0) (λ a b. f (i ∷ a) ((e - i) ∷ set b t (get_or es t 0))))
    (λ i. split_sum-pinned es t (λ a b. f (i ∷ a) ((e - i) ∷ b)) (λ a b ne. h (i ∷ a) ((e - i) ∷ b) ne))

some_is_not_none : (n : ℕ) → n ≡ 1 → n ≢ 0
some_is_not_none n e = omega (arith, e)

kept : (x y : ℤ) → y ≡ pos 0 → x +ℤ y ≡ x
kept x y e = omega (arith, ints, e)

-- an exponent 1 there is the second part's
pub split_sum-raised : (m : Powers) (t : ℕ) (f : Powers → Powers → ℤ) → get_or m t 0 ≡ 0 → ((a b : Powers) → get_or a t 0 ≢ 0 → f a b ≡ pos 0) → split_sum (set m t 1) f ≡ split_sum m (λ a b. f a (set b t 1))
split_sum-raised [] t f z h = refl
split_sum-raised (e ∷ es) zero f z h =
    kept (split_sum es (λ a b. f (0 ∷ a) (1 ∷ b))) (split_sum es (λ a b. f (1 ∷ a) (0 ∷ b))) (split_sum-zero es (λ a b. f (1 ∷ a) (0 ∷ b)) (λ a b. h (1 ∷ a) (0 ∷ b) (some_is_not_none 1 refl)))
    ∙ ap (λ (w : ℕ). split_sum (w ∷ es) (λ a b. f a (set b 0 1))) (sym z)
split_sum-raised (e ∷ es) (suc t) f z h =
    int_sum-cong e (λ i. split_sum (set es t 1) (λ a b. f (i ∷ a) ((e - i) ∷ b))) (λ i. split_sum es (λ a b. f (i ∷ a) ((e - i) ∷ set b t 1)))
    (λ i. split_sum-raised es t (λ a b. f (i ∷ a) ((e - i) ∷ b)) z (λ a b ne. h (i ∷ a) ((e - i) ∷ b) ne))
