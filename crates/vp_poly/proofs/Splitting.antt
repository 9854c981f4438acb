-- Sums over the ways to split a monomial in three.
use Rattle.std.proofs.Common.{◌≡◌, ℕ, zero, suc, ◌-◌, ◌≤◌, [], ◌∷◌, refl, sym, ap, ◌∙◌, subst, arith, ℤ, ◌+ℤ◌, ◌*ℤ◌}
use Rattle.std.proofs.lemmas.Int.{ints}
use Rattle.vp_poly.specs.Poly.{Powers}
use Rattle.vp_poly.specs.Product.{split_sum}
use Rattle.vp_poly.proofs.Ring.{add-mul}
use Rattle.vp_poly.proofs.SplitLaws.{int_sum, int_sum-cong, int_sum-plus, int_sum-within, split_sum-plus}

int_sum-times : (n : ℕ) (f : ℕ → ℤ) (z : ℤ) → int_sum n f *ℤ z ≡ int_sum n (λ i. f i *ℤ z)
int_sum-times zero f z = refl
int_sum-times (suc n) f z = add-mul (int_sum n f) (f (suc n)) z ∙ ap (λ (w : ℤ). w +ℤ f (suc n) *ℤ z) (int_sum-times n f z)

pub split_sum-by : (m : Powers) (f : Powers → Powers → ℤ) (z : ℤ) → split_sum m f *ℤ z ≡ split_sum m (λ a b. f a b *ℤ z)
split_sum-by [] f z = refl
split_sum-by (e ∷ es) f z =
    int_sum-times e (λ i. split_sum es (λ a b. f (i ∷ a) ((e - i) ∷ b))) z
    ∙ int_sum-cong e (λ i. split_sum es (λ a b. f (i ∷ a) ((e - i) ∷ b)) *ℤ z) (λ i. split_sum es (λ a b. f (i ∷ a) ((e - i) ∷ b) *ℤ z)) (λ i. split_sum-by es (λ a b. f (i ∷ a) ((e - i) ∷ b)) z)

int_sum-split : (n : ℕ) (m : Powers) (f : ℕ → Powers → Powers → ℤ) → split_sum m (λ a b. int_sum n (λ j. f j a b)) ≡ int_sum n (λ j. split_sum m (f j))
int_sum-split zero m f = refl
int_sum-split (suc n) m f = split_sum-plus m (λ a b. int_sum n (λ j. f j a b)) (f (suc n)) ∙ ap (λ (w : ℤ). w +ℤ split_sum m (f (suc n))) (int_sum-split n m f)

last_apart : (n : ℕ) (h : ℕ → ℕ → ℤ) → int_sum (suc n) (λ k. h k (suc n - k)) ≡ int_sum n (λ k. h k (suc (n - k))) +ℤ h (suc n) 0
last_apart n h =
    let a = int_sum-within n (λ k. h k (suc n - k)) (λ k. h k (suc (n - k))) (λ k le. ap (h k) (let e : suc n - k ≡ suc (n - k) = omega arith in e)) in
    let b = ap (h (suc n)) (let e : suc n - suc n ≡ 0 = omega arith in e) in
    omega (arith, ints)

row_apart : (e j : ℕ) (h : ℕ → ℕ → ℤ) → j ≤ e → int_sum (suc e - j) (λ k. h k (suc e - j - k)) ≡ int_sum (e - j) (λ k. h k (suc (e - j - k))) +ℤ h (suc e - j) 0
row_apart e j h le =
    let s : suc (e - j) ≡ suc e - j = omega arith in
    subst (λ (w : ℕ). int_sum w (λ k. h k (w - k)) ≡ int_sum (e - j) (λ k. h k (suc (e - j - k))) +ℤ h w 0) s (last_apart (e - j) h)

-- three numbers with the sum e, by the first two or the last two
triangle : (e : ℕ) (h : ℕ → ℕ → ℕ → ℤ) → int_sum e (λ i. int_sum i (λ j. h j (i - j) (e - i))) ≡ int_sum e (λ j. int_sum (e - j) (λ k. h j k (e - j - k)))
triangle zero h = refl
triangle (suc e) h =
    let a = int_sum-within e (λ i. int_sum i (λ j. h j (i - j) (suc e - i))) (λ i. int_sum i (λ j. h j (i - j) (suc (e - i))))
    (λ i le. ap (λ (w : ℕ). int_sum i (λ j. h j (i - j) w)) (let s : suc e - i ≡ suc (e - i) = omega arith in s)) in
    let b = triangle e (λ j k l. h j k (suc l)) in
    let c = int_sum-within e (λ j. int_sum (suc e - j) (λ k. h j k (suc e - j - k))) (λ j. int_sum (e - j) (λ k. h j k (suc (e - j - k))) +ℤ h j (suc e - j) 0) (λ j le. row_apart e j (h j) le) in
    let d = int_sum-plus e (λ j. int_sum (e - j) (λ k. h j k (suc (e - j - k)))) (λ j. h j (suc e - j) 0) in
    let s : suc e - suc e ≡ 0 = omega arith in
    let f = ap (λ (w : ℕ). int_sum (suc e) (λ j. h j (suc e - j) w)) s in
    let g = ap (λ (w : ℕ). int_sum w (λ k. h (suc e) k (w - k))) s in
    let k = ap (λ (w : ℕ). h (suc e) w 0) s in
    omega (arith, ints)

-- the sum over the splits of one monomial, with the first exponents of its three parts given
abbrev corner : Powers → (Powers → Powers → Powers → ℤ) → ℕ → ℕ → ℕ → ℤ
corner es f j k l = split_sum es (λ b x. split_sum x (λ d c. f (j ∷ b) (k ∷ d) (l ∷ c)))

pub split_sum-assoc : (m : Powers) (f : Powers → Powers → Powers → ℤ) → split_sum m (λ a c. split_sum a (λ b d. f b d c)) ≡ split_sum m (λ b x. split_sum x (λ d c. f b d c))
split_sum-assoc [] f = refl
split_sum-assoc (e ∷ es) f =
    int_sum-cong e (λ i. split_sum es (λ a c. int_sum i (λ j. split_sum a (λ b d. f (j ∷ b) ((i - j) ∷ d) ((e - i) ∷ c))))) (λ i. int_sum i (λ j. corner es f j (i - j) (e - i)))
    (λ i. int_sum-split i es (λ j a c. split_sum a (λ b d. f (j ∷ b) ((i - j) ∷ d) ((e - i) ∷ c)))
    ∙ int_sum-cong i (λ j. split_sum es (λ a c. split_sum a (λ b d. f (j ∷ b) ((i - j) ∷ d) ((e - i) ∷ c)))) (λ j. corner es f j (i - j) (e - i)) (λ j. split_sum-assoc es (λ b d c. f (j ∷ b) ((i - j) ∷ d) ((e - i) ∷ c))))
    ∙ triangle e (corner es f)
    ∙ int_sum-cong e (λ j. int_sum (e - j) (λ k. corner es f j k (e - j - k))) (λ j. split_sum es (λ b x. int_sum (e - j) (λ k. split_sum x (λ d c. f (j ∷ b) (k ∷ d) ((e - j - k) ∷ c)))))
    (λ j. sym (int_sum-split (e - j) es (λ k b x. split_sum x (λ d c. f (j ∷ b) (k ∷ d) ((e - j - k) ∷ c)))))
