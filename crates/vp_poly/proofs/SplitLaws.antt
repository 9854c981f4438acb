-- Sums over all ways to split a monomial.
use Rattle.std.proofs.Common.{◌≡◌, ◌≢◌, ℕ, zero, suc, ◌+◌, ◌-◌, ◌≤◌, Bool, true, false, cond, [], ◌∷◌, length, refl, sym, ap, ◌∙◌, arith, ℤ, pos, ◌+ℤ◌, ◌*ℤ◌, ◌==◌}
use Rattle.std.proofs.Math.IntN.{*ℤ-zero, zero-*ℤ}
use Rattle.std.proofs.lemmas.Int.{ints}
use Rattle.std.proofs.lemmas.Bool.{eq-eqb, eqb-true, eqb-false}
use Rattle.std.proofs.lemmas.Bool.Decides.{nat_tests}
use Rattle.vp_poly.specs.Poly.{Powers, only_at}
use Rattle.vp_poly.specs.Product.{added, sum_to, split_sum}

abbrev pub int_sum : ℕ → (ℕ → ℤ) → ℤ
int_sum n f = sum_to (λ x y. x +ℤ y) n f

pub int_sum-cong : (n : ℕ) (f g : ℕ → ℤ) → ((i : ℕ) → f i ≡ g i) → int_sum n f ≡ int_sum n g
int_sum-cong zero f g h = h 0
int_sum-cong (suc n) f g h = let a = int_sum-cong n f g h in let b = h (suc n) in omega (arith, ints)

pub int_sum-plus : (n : ℕ) (f g : ℕ → ℤ) → int_sum n (λ i. f i +ℤ g i) ≡ int_sum n f +ℤ int_sum n g
int_sum-plus zero f g = refl
int_sum-plus (suc n) f g = let a = int_sum-plus n f g in omega (arith, ints)

int_sum-zero : (n : ℕ) (f : ℕ → ℤ) → ((i : ℕ) → i ≤ n → f i ≡ pos 0) → int_sum n f ≡ pos 0
int_sum-zero zero f h = h 0 (omega arith)
int_sum-zero (suc n) f h = let a = int_sum-zero n f (λ i le. h i (omega arith)) in let b = h (suc n) (omega arith) in omega (arith, ints)

test_off : (x y : ℕ) → x ≢ y → (x == y) ≡ false
test_off x y n = grind (arith, nat_tests)

int_sum-single : (n x : ℕ) (f : ℕ → ℤ) → x ≤ n → ((i : ℕ) → i ≤ n → i ≢ x → f i ≡ pos 0) → int_sum n f ≡ f x
int_sum-single zero x f le h = let e : 0 ≡ x = omega arith in ap f e
int_sum-single (suc n) x f le h = case (x == suc n) refl (λ lt. int_sum-single n x f lt (λ i i_le ne. h i (omega arith) ne))
  where
    case : (v : Bool) → (x == suc n) ≡ v → (x ≤ n → int_sum n f ≡ f x) → int_sum n f +ℤ f (suc n) ≡ f x
    case true t more =
        let e : x ≡ suc n = eqb-true x (suc n) t in
        let a = int_sum-zero n f (λ i i_le. h i (omega arith) (omega arith)) in
        let b = ap f e in
        omega (arith, ints)
    case false t more =
        let ne : x ≢ suc n = eqb-false x (suc n) t in
        let a = more (omega arith) in
        let b = h (suc n) (omega arith) (omega arith) in
        omega (arith, ints)

pub split_sum-cong : (m : Powers) (f g : Powers → Powers → ℤ) → ((a b : Powers) → f a b ≡ g a b) → split_sum m f ≡ split_sum m g
split_sum-cong [] f g h = h [] []
split_sum-cong (e ∷ es) f g h =
    int_sum-cong e (λ i. split_sum es (λ a b. f (i ∷ a) ((e - i) ∷ b))) (λ i. split_sum es (λ a b. g (i ∷ a) ((e - i) ∷ b)))
    (λ i. split_sum-cong es (λ a b. f (i ∷ a) ((e - i) ∷ b)) (λ a b. g (i ∷ a) ((e - i) ∷ b)) (λ a b. h (i ∷ a) ((e - i) ∷ b)))

pub split_sum-plus : (m : Powers) (f g : Powers → Powers → ℤ) → split_sum m (λ a b. f a b +ℤ g a b) ≡ split_sum m f +ℤ split_sum m g
split_sum-plus [] f g = refl
split_sum-plus (e ∷ es) f g =
    int_sum-cong e (λ i. split_sum es (λ a b. f (i ∷ a) ((e - i) ∷ b) +ℤ g (i ∷ a) ((e - i) ∷ b))) (λ i. split_sum es (λ a b. f (i ∷ a) ((e - i) ∷ b)) +ℤ split_sum es (λ a b. g (i ∷ a) ((e - i) ∷ b)))
    (λ i. split_sum-plus es (λ a b. f (i ∷ a) ((e - i) ∷ b)) (λ a b. g (i ∷ a) ((e - i) ∷ b)))
    ∙ int_sum-plus e (λ i. split_sum es (λ a b. f (i ∷ a) ((e - i) ∷ b))) (λ i. split_sum es (λ a b. g (i ∷ a) ((e - i) ∷ b)))

pub split_sum-zero : (m : Powers) (f : Powers → Powers → ℤ) → ((a b : Powers) → f a b ≡ pos 0) → split_sum m f ≡ pos 0
split_sum-zero [] f h = h [] []
split_sum-zero (e ∷ es) f h =
    int_sum-zero e (λ i. split_sum es (λ a b. f (i ∷ a) ((e - i) ∷ b)))
    (λ i le. split_sum-zero es (λ a b. f (i ∷ a) ((e - i) ∷ b)) (λ a b. h (i ∷ a) ((e - i) ∷ b)))

left_off : (v : Bool) (s t : ℤ) → v ≡ false → cond v s (pos 0) *ℤ t ≡ pos 0
left_off v s t e = rw e (zero-*ℤ t)

right_off : (v : Bool) (s t : ℤ) → v ≡ false → t *ℤ cond v s (pos 0) ≡ pos 0
right_off v s t e = rw e (*ℤ-zero t)

both_on : (v w : Bool) (s t : ℤ) → v ≡ true → w ≡ true → cond v s (pos 0) *ℤ cond w t (pos 0) ≡ s *ℤ t
both_on v w s t e f = rw (e, f) refl

-- one term times another stands at one place of the product
pub split_sum-only : (p q m : Powers) (c d : ℤ) → length p ≡ length q → split_sum m (λ a b. only_at p a c *ℤ only_at q b d) ≡ only_at (added p q) m (c *ℤ d)
split_sum-only [] [] [] c d n = refl
split_sum-only [] [] (e ∷ es) c d n = int_sum-zero e (λ i. split_sum es (λ a b. pos 0 *ℤ pos 0)) (λ i le. split_sum-zero es (λ a b. pos 0 *ℤ pos 0) (λ a b. refl))
split_sum-only [] (y ∷ q) m c d n = absurd (omega arith)
split_sum-only (x ∷ p) [] m c d n = absurd (omega arith)
split_sum-only (x ∷ p) (y ∷ q) [] c d n = refl
split_sum-only (x ∷ p) (y ∷ q) (e ∷ es) c d n = case (x + y == e) refl (split_sum-only p q es c d (omega arith))
  where
    case : (v : Bool) → (x + y == e) ≡ v → split_sum es (λ a b. only_at p a c *ℤ only_at q b d) ≡ only_at (added p q) es (c *ℤ d) →
        int_sum e (λ i. split_sum es (λ a b. cond (x == i) (only_at p a c) (pos 0) *ℤ cond (y == e - i) (only_at q b d) (pos 0))) ≡ cond v (only_at (added p q) es (c *ℤ d)) (pos 0)
    case true t rest =
        let s : x + y ≡ e = eqb-true (x + y) e t in
        let on : (x == x) ≡ true = eq-eqb x x refl in
        let on' : (y == e - x) ≡ true = eq-eqb y (e - x) (omega arith) in
        int_sum-single e x (λ i. split_sum es (λ a b. cond (x == i) (only_at p a c) (pos 0) *ℤ cond (y == e - i) (only_at q b d) (pos 0))) (omega arith)
        (λ i le ne. split_sum-zero es (λ a b. cond (x == i) (only_at p a c) (pos 0) *ℤ cond (y == e - i) (only_at q b d) (pos 0)) (λ a b. left_off (x == i) (only_at p a c) (cond (y == e - i) (only_at q b d) (pos 0)) (test_off x i (λ g. ne (sym g)))))
        ∙ split_sum-cong es (λ a b. cond (x == x) (only_at p a c) (pos 0) *ℤ cond (y == e - x) (only_at q b d) (pos 0)) (λ a b. only_at p a c *ℤ only_at q b d) (λ a b. both_on (x == x) (y == e - x) (only_at p a c) (only_at q b d) on on')
        ∙ rest
    case false t rest =
        let s : x + y ≢ e = eqb-false (x + y) e t in
        int_sum-zero e (λ i. split_sum es (λ a b. cond (x == i) (only_at p a c) (pos 0) *ℤ cond (y == e - i) (only_at q b d) (pos 0)))
        (λ i le. split_sum-zero es (λ a b. cond (x == i) (only_at p a c) (pos 0) *ℤ cond (y == e - i) (only_at q b d) (pos 0)) (λ a b. off s i le a b (x == i) refl))
      where
        off : x + y ≢ e → (i : ℕ) → i ≤ e → (a b : Powers) (v : Bool) → (x == i) ≡ v → cond (x == i) (only_at p a c) (pos 0) *ℤ cond (y == e - i) (only_at q b d) (pos 0) ≡ pos 0
        off s i le a b false g = left_off (x == i) (only_at p a c) (cond (y == e - i) (only_at q b d) (pos 0)) g
        off s i le a b true g =
            let same : x ≡ i = eqb-true x i g in
            right_off (y == e - i) (only_at q b d) (cond (x == i) (only_at p a c) (pos 0)) (test_off y (e - i) (omega arith))

-- ---- the two parts change places

int_sum-first : (n : ℕ) (g : ℕ → ℤ) → int_sum (suc n) g ≡ g 0 +ℤ int_sum n (λ i. g (suc i))
int_sum-first zero g = refl
int_sum-first (suc n) g = let a = int_sum-first n g in omega (arith, ints)

pub int_sum-within : (n : ℕ) (f g : ℕ → ℤ) → ((i : ℕ) → i ≤ n → f i ≡ g i) → int_sum n f ≡ int_sum n g
int_sum-within zero f g h = h 0 (omega arith)
int_sum-within (suc n) f g h = let a = int_sum-within n f g (λ i le. h i (omega arith)) in let b = h (suc n) (omega arith) in omega (arith, ints)

int_sum-turned : (n : ℕ) (f : ℕ → ℤ) → int_sum n f ≡ int_sum n (λ i. f (n - i))
int_sum-turned zero f = ap f (let e : 0 ≡ 0 - 0 = omega arith in e)
int_sum-turned (suc n) f =
    let rest = int_sum-turned n f in
    let first = int_sum-first n (λ i. f (suc n - i)) in
    let head : f (suc n) ≡ f (suc n - 0) = ap f (let e : suc n ≡ suc n - 0 = omega arith in e) in
    let tail = int_sum-cong n (λ i. f (n - i)) (λ i. f (suc n - suc i)) (λ i. ap f (let e : n - i ≡ suc n - suc i = omega arith in e)) in
    omega (arith, ints)

pub split_sum-turned : (m : Powers) (f : Powers → Powers → ℤ) → split_sum m f ≡ split_sum m (λ a b. f b a)
split_sum-turned [] f = refl
split_sum-turned (e ∷ es) f =
    int_sum-turned e (λ i. split_sum es (λ a b. f (i ∷ a) ((e - i) ∷ b)))
    ∙ int_sum-within e (λ i. split_sum es (λ a b. f ((e - i) ∷ a) ((e - (e - i)) ∷ b))) (λ i. split_sum es (λ a b. f ((e - i) ∷ b) (i ∷ a)))
    (λ i le.
    let back : e - (e - i) ≡ i = omega arith in
    ap (λ (k : ℕ). split_sum es (λ a b. f ((e - i) ∷ a) (k ∷ b))) back ∙ split_sum-turned es (λ a b. f ((e - i) ∷ a) (i ∷ b)))
