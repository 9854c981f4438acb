-- Polynomials with their places replaced by others: a sum over all monomials in a box, each times the product of the powers of what replaces its places.
use Rattle.std.proofs.Common.{◌≡◌, ℕ, zero, suc, ◌+◌, ◌-◌, ◌*◌, ◌^◌, ◌<◌, Bool, true, false, ◌&&◌, leb, [], ◌∷◌, length, sum, replicate, refl, sym, ap, ◌∙◌, arith, ℤ, pos, ◌+ℤ◌, ◌*ℤ◌}
use Rattle.std.proofs.lemmas.Int.{ints}
use Rattle.std.proofs.lemmas.Nat.{pow-add}
use Rattle.std.proofs.lemmas.Bool.{leb-true, leb-false}
use Rattle.vp_poly.specs.Poly.{Powers, only_at}
use Rattle.vp_poly.specs.Product.{added, split_sum}
use Rattle.vp_poly.proofs.SplitLaws.{int_sum, int_sum-cong, int_sum-within, split_sum-cong, split_sum-plus, split_sum-zero, split_sum-turned}
use Rattle.vp_poly.proofs.Splitting.{split_sum-assoc, split_sum-by}
use Rattle.vp_poly.proofs.Ring.{add-mul, mul_assoc, mul_comm}
use Rattle.vp_poly.proofs.RowLaws.{sum-cons}
use Rattle.vp_flow.specs.Whole.{conv}
use Rattle.vp_flow.proofs.Convolution.{AreParts, by-split_sum, conv-assoc, conv-cong, int_sum-split, split_sum-on}
use Rattle.vp_flow.proofs.Lie.{conv-constant, left_none, right_none, times_one}
use Rattle.vp_flow.proofs.Derivative.{part_length_right}

-- ---- products

pub conv-comm : (m : Powers) (f g : Powers → ℤ) → conv f g m ≡ conv g f m
conv-comm m f g = split_sum-turned m (λ a b. f a *ℤ g b) ∙ split_sum-cong m (λ a b. f b *ℤ g a) (λ a b. g a *ℤ f b) (λ a b. mul_comm (f b) (g a))

-- the constant 1
abbrev pub one : Powers → ℤ
one m = only_at (replicate 32 0) m (pos 1)

pub conv-one : (f : Powers → ℤ) (m : Powers) → length m ≡ 32 → conv f one m ≡ f m
conv-one f m e = conv-constant m 32 f (pos 1) e ∙ times_one (f m)

pub one-conv : (f : Powers → ℤ) (m : Powers) → length m ≡ 32 → conv one f m ≡ f m
one-conv f m e = conv-comm m one f ∙ conv-one f m e

pub part_length_left : (m a b : Powers) → AreParts m a b → length a ≡ length m
part_length_left [] [] [] s = refl
part_length_left [] [] (y ∷ b) s = absurd s
part_length_left [] (x ∷ a) b s = absurd s
part_length_left (e ∷ m) [] b s = absurd s
part_length_left (e ∷ m) (x ∷ a) [] s = absurd s
part_length_left (e ∷ m) (x ∷ a) (y ∷ b) s = ap suc (part_length_left m a b s.1)

-- equal at all monomials over 32 places
abbrev pub Same : (Powers → ℤ) → (Powers → ℤ) → Type 0
Same f g = (m : Powers) → length m ≡ 32 → f m ≡ g m

pub conv-same : (f f' g g' : Powers → ℤ) → Same f f' → Same g g' → Same (conv f g) (conv f' g')
conv-same f f' g g' h k m e =
    split_sum-on m (λ a b. f a *ℤ g b) (λ a b. f' a *ℤ g' b)
    (λ a b s. ap (λ (w : ℤ). w *ℤ g b) (h a (part_length_left m a b s ∙ e)) ∙ ap (λ (w : ℤ). f' a *ℤ w) (k b (part_length_right m a b s ∙ e)))

-- the product of four
pub shuffle : (f g h k : Powers → ℤ) (m : Powers) → conv (conv f g) (conv h k) m ≡ conv (conv f h) (conv g k) m
shuffle f g h k m =
    conv-assoc m f g (conv h k)
    ∙ conv-cong m f f (conv g (conv h k)) (conv h (conv g k)) (λ a. refl)
    (λ b. sym (conv-assoc b g h k) ∙ conv-cong b (conv g h) (conv h g) k k (λ c. conv-comm c g h) (λ c. refl) ∙ conv-assoc b h g k)
    ∙ sym (conv-assoc m f h (conv g k))

abbrev pub power_of : (Powers → ℤ) → ℕ → Powers → ℤ
power_of f zero = one
power_of f (suc n) = conv f (power_of f n)

pub power-plus : (f : Powers → ℤ) (n k : ℕ) → Same (power_of f (n + k)) (conv (power_of f n) (power_of f k))
power-plus f zero k m e = let z : 0 + k ≡ k = omega arith in ap (λ (w : ℕ). power_of f w m) z ∙ sym (one-conv (power_of f k) m e)
power-plus f (suc n) k m e =
    let z : suc n + k ≡ suc (n + k) = omega arith in
    ap (λ (w : ℕ). power_of f w m) z
    ∙ conv-same f f (power_of f (n + k)) (conv (power_of f n) (power_of f k)) (λ a q. refl) (power-plus f n k) m e
    ∙ sym (conv-assoc m f (power_of f n) (power_of f k))

-- the product of the powers of z k, z (k + 1) and so on
abbrev pub monomial : (ℕ → Powers → ℤ) → ℕ → Powers → Powers → ℤ
monomial z k [] = one
monomial z k (x ∷ a) = conv (power_of (z k) x) (monomial z (suc k) a)

pub monomial-added : (z : ℕ → Powers → ℤ) (k : ℕ) (a b : Powers) → length a ≡ length b → Same (monomial z k (added a b)) (conv (monomial z k a) (monomial z k b))
monomial-added z k [] [] l m e = sym (one-conv one m e)
monomial-added z k [] (y ∷ b) l m e = absurd (omega arith)
monomial-added z k (x ∷ a) [] l m e = absurd (omega arith)
monomial-added z k (x ∷ a) (y ∷ b) l m e =
    conv-same (power_of (z k) (x + y)) (conv (power_of (z k) x) (power_of (z k) y)) (monomial z (suc k) (added a b)) (conv (monomial z (suc k) a) (monomial z (suc k) b))
    (power-plus (z k) x y) (monomial-added z (suc k) a b (omega arith)) m e
    ∙ shuffle (power_of (z k) x) (power_of (z k) y) (monomial z (suc k) a) (monomial z (suc k) b) m

-- ---- boxes

-- no exponent of a passes that of the box
abbrev pub inside : Powers → Powers → Bool
inside [] [] = true
inside [] (e ∷ box) = false
inside (x ∷ a) [] = false
inside (x ∷ a) (e ∷ box) = leb x e && inside a box

-- f is 0 outside the box
pub record IsIn (box : Powers) (f : Powers → ℤ) : Type 0 where
  pub outside : (a : Powers) → inside a box ≡ false → f a ≡ pos 0

and_off : (v : Bool) → (v && false) ≡ false
and_off true = refl
and_off false = refl

off_left : (v w : Bool) → v ≡ false → (v && w) ≡ false
off_left true w e = absurd (cc)
off_left false w e = refl

off_right : (v w : Bool) → w ≡ false → (v && w) ≡ false
off_right v true e = absurd (cc)
off_right v false e = and_off v

more_terms : (n s : ℕ) (g : ℕ → ℤ) → ((i : ℕ) → n < i → g i ≡ pos 0) → int_sum (n + s) g ≡ int_sum n g
more_terms n zero g h = let z : n + 0 ≡ n = omega arith in ap (λ (w : ℕ). int_sum w g) z
more_terms n (suc s) g h =
    let z : n + suc s ≡ suc (n + s) = omega arith in
    ap (λ (w : ℕ). int_sum w g) z ∙ (let a = more_terms n s g h in let b = h (suc (n + s)) (omega arith) in let q : int_sum (n + s) g +ℤ g (suc (n + s)) ≡ int_sum n g = omega (arith, ints) in q)

test_off_le : (x y : ℕ) → y < x → leb x y ≡ false
test_off_le x y lt = at (leb x y) refl
  where
    at : (v : Bool) → leb x y ≡ v → v ≡ false
    at true t = let le = leb-true x y t in absurd (omega arith)
    at false t = refl

-- what is 0 outside the box is summed over the box alone
pub boxed : (box more : Powers) (g : Powers → Powers → ℤ) → length box ≡ length more → ((a b : Powers) → inside a box ≡ false → g a b ≡ pos 0) → split_sum (added box more) g ≡ split_sum box (λ a b. g a (added b more))
boxed [] [] g l h = refl
boxed [] (s ∷ more) g l h = absurd (omega arith)
boxed (e ∷ box) [] g l h = absurd (omega arith)
boxed (e ∷ box) (s ∷ more) g l h =
    more_terms e s (λ i. split_sum (added box more) (λ a b. g (i ∷ a) ((e + s - i) ∷ b)))
    (λ i gt. split_sum-zero (added box more) (λ a b. g (i ∷ a) ((e + s - i) ∷ b)) (λ a b. h (i ∷ a) ((e + s - i) ∷ b) (off_left (leb i e) (inside a box) (test_off_le i e gt))))
    ∙ int_sum-within e (λ i. split_sum (added box more) (λ a b. g (i ∷ a) ((e + s - i) ∷ b))) (λ i. split_sum box (λ a b. g (i ∷ a) ((e - i + s) ∷ added b more)))
    (λ i le.
    let q : e + s - i ≡ e - i + s = omega arith in
    ap (λ (w : ℕ). split_sum (added box more) (λ a b. g (i ∷ a) (w ∷ b))) q
    ∙ boxed box more (λ a b. g (i ∷ a) ((e - i + s) ∷ b)) (omega arith) (λ a b o. h (i ∷ a) ((e - i + s) ∷ b) (off_right (leb i e) (inside a box) o)))

pub split_sum-swap : (m n : Powers) (f : Powers → Powers → Powers → Powers → ℤ) → split_sum m (λ a b. split_sum n (λ c d. f a b c d)) ≡ split_sum n (λ c d. split_sum m (λ a b. f a b c d))
split_sum-swap [] n f = refl
split_sum-swap (e ∷ es) n f =
    int_sum-cong e (λ i. split_sum es (λ a b. split_sum n (λ c d. f (i ∷ a) ((e - i) ∷ b) c d))) (λ i. split_sum n (λ c d. split_sum es (λ a b. f (i ∷ a) ((e - i) ∷ b) c d))) (λ i. split_sum-swap es n (λ a b. f (i ∷ a) ((e - i) ∷ b)))
    ∙ sym (int_sum-split e n (λ i c d. split_sum es (λ a b. f (i ∷ a) ((e - i) ∷ b) c d)))

pub added-comm : (a b : Powers) → length a ≡ length b → added a b ≡ added b a
added-comm [] [] l = refl
added-comm [] (y ∷ b) l = absurd (omega arith)
added-comm (x ∷ a) [] l = absurd (omega arith)
added-comm (x ∷ a) (y ∷ b) l = ap (λ (w : ℕ). w ∷ added a b) (let q : x + y ≡ y + x = omega arith in q) ∙ ap (λ (w : Powers). (y + x) ∷ w) (added-comm a b (omega arith))

pub added-sum : (a b : Powers) → length a ≡ length b → sum (added a b) ≡ sum a + sum b
added-sum [] [] l = refl
added-sum [] (y ∷ b) l = absurd (omega arith)
added-sum (x ∷ a) [] l = absurd (omega arith)
added-sum (x ∷ a) (y ∷ b) l =
    let more = added-sum a b (omega arith) in
    omega (arith, sum-cons (x + y) (added a b), sum-cons x a, sum-cons y b)

pub added-length : (a b : Powers) → length a ≡ length b → length (added a b) ≡ length a
added-length [] [] l = refl
added-length [] (y ∷ b) l = absurd (omega arith)
added-length (x ∷ a) [] l = absurd (omega arith)
added-length (x ∷ a) (y ∷ b) l = ap suc (added-length a b (omega arith))

-- the parts of a monomial make it
pub parts-added : (m a b : Powers) → AreParts m a b → added a b ≡ m
parts-added [] [] [] s = refl
parts-added [] [] (y ∷ b) s = absurd s
parts-added [] (x ∷ a) b s = absurd s
parts-added (e ∷ m) [] b s = absurd s
parts-added (e ∷ m) (x ∷ a) [] s = absurd s
parts-added (e ∷ m) (x ∷ a) (y ∷ b) s = ap (λ (w : ℕ). w ∷ added a b) s.0 ∙ ap (λ (w : Powers). e ∷ w) (parts-added m a b s.1)

-- a part of one box and a part of another are inside both together
inside-added : (m a b box more : Powers) → AreParts m a b → inside a box ≡ true → inside b more ≡ true → inside m (added box more) ≡ true
inside-added [] [] [] [] [] s h k = refl
inside-added [] [] [] [] (y ∷ more) s h k = absurd (cc)
inside-added [] [] [] (x ∷ box) more s h k = absurd (cc)
inside-added [] [] (y ∷ b) box more s h k = absurd s
inside-added [] (x ∷ a) b box more s h k = absurd s
inside-added (e ∷ m) [] b box more s h k = absurd s
inside-added (e ∷ m) (x ∷ a) [] box more s h k = absurd s
inside-added (e ∷ m) (x ∷ a) (y ∷ b) [] more s h k = absurd (cc)
inside-added (e ∷ m) (x ∷ a) (y ∷ b) (u ∷ box) [] s h k = absurd (cc)
inside-added (e ∷ m) (x ∷ a) (y ∷ b) (u ∷ box) (v ∷ more) s h k = at (leb x u) refl (leb y v) refl (leb e (u + v)) refl h k (inside-added m a b box more s.1)
  where
    at : (p : Bool) → leb x u ≡ p → (q : Bool) → leb y v ≡ q → (r : Bool) → leb e (u + v) ≡ r → (p && inside a box) ≡ true → (q && inside b more) ≡ true → (inside a box ≡ true → inside b more ≡ true → inside m (added box more) ≡ true) → (r && inside m (added box more)) ≡ true
    at false i q j r l h k rest = absurd (cc)
    at true i false j r l h k rest = absurd (cc)
    at true i true j true l h k rest = rest h k
    at true i true j false l h k rest =
        let c = leb-true x u i in
        let d = leb-true y v j in
        let f = leb-false e (u + v) l in
        let g : x + y ≡ e = s.0 in
        absurd (omega arith)

pub in-conv : (box more : Powers) (f g : Powers → ℤ) → IsIn box f → IsIn more g → IsIn (added box more) (conv f g)
in-conv box more f g h k = record {
  outside = λ m o.
      split_sum-on m (λ a b. f a *ℤ g b) (λ a b. pos 0) (λ a b s. each m o a b s (inside a box) refl (inside b more) refl) ∙ split_sum-zero m (λ a b. pos 0) (λ a b. refl);
}
  where
    clash : (v : Bool) → v ≡ true → v ≡ false → ⊥
    clash v a b = cc

    each : (m : Powers) → inside m (added box more) ≡ false → (a b : Powers) → AreParts m a b → (v : Bool) → inside a box ≡ v → (w : Bool) → inside b more ≡ w → f a *ℤ g b ≡ pos 0
    each m o a b s false i w j = left_none (f a) (g b) (h.outside a i)
    each m o a b s true i false j = right_none (f a) (g b) (k.outside b j)
    each m o a b s true i true j = absurd (clash (inside m (added box more)) (inside-added m a b box more s i j) o)

-- ---- polynomials with their places replaced

-- f, of degree at most that of the box, with each place k replaced by z k over n, times n to the degree of the box
abbrev pub spread : (ℕ → Powers → ℤ) → ℕ → Powers → (Powers → ℤ) → Powers → ℤ
spread z n box f m = split_sum box (λ a b. f a *ℤ (pos (n ^ sum b) *ℤ monomial z 0 a m))

-- the product of two factors each
pub cross : (a x b y : ℤ) → (a *ℤ x) *ℤ (b *ℤ y) ≡ (a *ℤ b) *ℤ (x *ℤ y)
cross a x b y =
    mul_assoc a x (b *ℤ y)
    ∙ ap (λ (w : ℤ). a *ℤ w) (sym (mul_assoc x b y) ∙ ap (λ (w : ℤ). w *ℤ y) (mul_comm x b) ∙ mul_assoc b x y)
    ∙ sym (mul_assoc a b (x *ℤ y))

pos_times : (a b : ℕ) → pos a *ℤ pos b ≡ pos (a * b)
pos_times a b = refl

pub pos_power : (n a b c : ℕ) → c ≡ a + b → pos (n ^ c) ≡ pos (n ^ a) *ℤ pos (n ^ b)
pos_power n a b c e = ap (λ (w : ℕ). pos (n ^ w)) e ∙ ap pos (pow-add n a b) ∙ sym (pos_times (n ^ a) (n ^ b))

pub spread-conv : (z : ℕ → Powers → ℤ) (n : ℕ) (box more : Powers) (f g : Powers → ℤ) → length box ≡ 32 → length more ≡ 32 → IsIn box f → IsIn more g → Same (spread z n (added box more) (conv f g)) (conv (spread z n box f) (spread z n more g))
spread-conv z n box more f g lb lm h k m e = first ∙ middle ∙ sym last
  where
    -- the summand of three parts
    part : Powers → Powers → Powers → ℤ
    part a b w = (f a *ℤ g b) *ℤ (pos (n ^ sum w) *ℤ conv (monomial z 0 a) (monomial z 0 b) m)

    inner : Powers → Powers → ℤ
    inner a x = split_sum x (λ b w. part a b w)

    size : length (added box more) ≡ 32
    size = added-length box more (omega arith) ∙ lb

    first : spread z n (added box more) (conv f g) m ≡ split_sum (added box more) inner
    first =
        split_sum-on (added box more) (λ c w. conv f g c *ℤ (pos (n ^ sum w) *ℤ monomial z 0 c m)) (λ c w. split_sum c (λ a b. part a b w))
        (λ c w s.
        split_sum-by c (λ a b. f a *ℤ g b) (pos (n ^ sum w) *ℤ monomial z 0 c m)
        ∙ split_sum-on c (λ a b. (f a *ℤ g b) *ℤ (pos (n ^ sum w) *ℤ monomial z 0 c m)) (λ a b. part a b w)
        (λ a b t.
        ap (λ (v : Powers). (f a *ℤ g b) *ℤ (pos (n ^ sum w) *ℤ monomial z 0 v m)) (sym (parts-added c a b t))
        ∙ ap (λ (v : ℤ). (f a *ℤ g b) *ℤ (pos (n ^ sum w) *ℤ v)) (monomial-added z 0 a b (part_length_left c a b t ∙ sym (part_length_right c a b t)) m e)))
        ∙ split_sum-assoc (added box more) part

    outer_none : (a x : Powers) → inside a box ≡ false → inner a x ≡ pos 0
    outer_none a x o = split_sum-zero x (λ b w. part a b w) (λ b w. left_none (f a *ℤ g b) (pos (n ^ sum w) *ℤ conv (monomial z 0 a) (monomial z 0 b) m) (left_none (f a) (g b) (h.outside a o)))

    inner_none : (a b w : Powers) → inside b more ≡ false → part a b w ≡ pos 0
    inner_none a b w o = left_none (f a *ℤ g b) (pos (n ^ sum w) *ℤ conv (monomial z 0 a) (monomial z 0 b) m) (right_none (f a) (g b) (k.outside b o))

    middle : split_sum (added box more) inner ≡ split_sum box (λ a u. split_sum more (λ b w. part a b (added w u)))
    middle =
        boxed box more inner (omega arith) outer_none
        ∙ split_sum-on box (λ a u. inner a (added u more)) (λ a u. split_sum more (λ b w. part a b (added w u)))
        (λ a u s.
        let l = part_length_right box a u s in
        ap (inner a) (added-comm u more (omega arith)) ∙ boxed more u (part a) (omega arith) (inner_none a))

    pull : (a u b w : Powers) → split_sum m (λ c d. (f a *ℤ (pos (n ^ sum u) *ℤ monomial z 0 a c)) *ℤ (g b *ℤ (pos (n ^ sum w) *ℤ monomial z 0 b d))) ≡ (f a *ℤ g b) *ℤ ((pos (n ^ sum u) *ℤ pos (n ^ sum w)) *ℤ conv (monomial z 0 a) (monomial z 0 b) m)
    pull a u b w =
        split_sum-cong m (λ c d. (f a *ℤ (pos (n ^ sum u) *ℤ monomial z 0 a c)) *ℤ (g b *ℤ (pos (n ^ sum w) *ℤ monomial z 0 b d)))
        (λ c d. (f a *ℤ g b) *ℤ ((pos (n ^ sum u) *ℤ pos (n ^ sum w)) *ℤ (monomial z 0 a c *ℤ monomial z 0 b d)))
        (λ c d.
        cross (f a) (pos (n ^ sum u) *ℤ monomial z 0 a c) (g b) (pos (n ^ sum w) *ℤ monomial z 0 b d)
        ∙ ap (λ (v : ℤ). (f a *ℤ g b) *ℤ v) (cross (pos (n ^ sum u)) (monomial z 0 a c) (pos (n ^ sum w)) (monomial z 0 b d)))
        ∙ sym (by-split_sum m (λ c d. (pos (n ^ sum u) *ℤ pos (n ^ sum w)) *ℤ (monomial z 0 a c *ℤ monomial z 0 b d)) (f a *ℤ g b))
        ∙ ap (λ (v : ℤ). (f a *ℤ g b) *ℤ v) (sym (by-split_sum m (λ c d. monomial z 0 a c *ℤ monomial z 0 b d) (pos (n ^ sum u) *ℤ pos (n ^ sum w))))

    last : conv (spread z n box f) (spread z n more g) m ≡ split_sum box (λ a u. split_sum more (λ b w. part a b (added w u)))
    last =
        split_sum-cong m (λ c d. spread z n box f c *ℤ spread z n more g d)
        (λ c d. split_sum box (λ a u. split_sum more (λ b w. (f a *ℤ (pos (n ^ sum u) *ℤ monomial z 0 a c)) *ℤ (g b *ℤ (pos (n ^ sum w) *ℤ monomial z 0 b d)))))
        (λ c d.
        split_sum-by box (λ a u. f a *ℤ (pos (n ^ sum u) *ℤ monomial z 0 a c)) (spread z n more g d)
        ∙ split_sum-cong box (λ a u. (f a *ℤ (pos (n ^ sum u) *ℤ monomial z 0 a c)) *ℤ spread z n more g d) (λ a u. split_sum more (λ b w. (f a *ℤ (pos (n ^ sum u) *ℤ monomial z 0 a c)) *ℤ (g b *ℤ (pos (n ^ sum w) *ℤ monomial z 0 b d))))
        (λ a u. by-split_sum more (λ b w. g b *ℤ (pos (n ^ sum w) *ℤ monomial z 0 b d)) (f a *ℤ (pos (n ^ sum u) *ℤ monomial z 0 a c))))
        ∙ split_sum-swap m box (λ c d a u. split_sum more (λ b w. (f a *ℤ (pos (n ^ sum u) *ℤ monomial z 0 a c)) *ℤ (g b *ℤ (pos (n ^ sum w) *ℤ monomial z 0 b d))))
        ∙ split_sum-on box (λ a u. split_sum m (λ c d. split_sum more (λ b w. (f a *ℤ (pos (n ^ sum u) *ℤ monomial z 0 a c)) *ℤ (g b *ℤ (pos (n ^ sum w) *ℤ monomial z 0 b d))))) (λ a u. split_sum more (λ b w. part a b (added w u)))
        (λ a u s.
        split_sum-swap m more (λ c d b w. (f a *ℤ (pos (n ^ sum u) *ℤ monomial z 0 a c)) *ℤ (g b *ℤ (pos (n ^ sum w) *ℤ monomial z 0 b d)))
        ∙ split_sum-on more (λ b w. split_sum m (λ c d. (f a *ℤ (pos (n ^ sum u) *ℤ monomial z 0 a c)) *ℤ (g b *ℤ (pos (n ^ sum w) *ℤ monomial z 0 b d)))) (λ b w. part a b (added w u))
        (λ b w t.
        let l = part_length_right box a u s in
        let r = part_length_right more b w t in
        let c = added-sum w u (omega arith) in
        pull a u b w ∙ ap (λ (v : ℤ). (f a *ℤ g b) *ℤ (v *ℤ conv (monomial z 0 a) (monomial z 0 b) m)) (sym (pos_power n (sum u) (sum w) (sum (added w u)) (omega arith)))))

-- over a larger box
pub spread-more : (z : ℕ → Powers → ℤ) (n : ℕ) (box more : Powers) (f : Powers → ℤ) (m : Powers) → length box ≡ length more → IsIn box f → spread z n (added box more) f m ≡ pos (n ^ sum more) *ℤ spread z n box f m
spread-more z n box more f m l h =
    boxed box more (λ a b. f a *ℤ (pos (n ^ sum b) *ℤ monomial z 0 a m)) l (λ a b o. left_none (f a) (pos (n ^ sum b) *ℤ monomial z 0 a m) (h.outside a o))
    ∙ split_sum-on box (λ a b. f a *ℤ (pos (n ^ sum (added b more)) *ℤ monomial z 0 a m)) (λ a b. pos (n ^ sum more) *ℤ (f a *ℤ (pos (n ^ sum b) *ℤ monomial z 0 a m)))
    (λ a b s.
    let r = part_length_right box a b s in
    let c = added-sum b more (omega arith) in
    ap (λ (w : ℤ). f a *ℤ (w *ℤ monomial z 0 a m)) (pos_power n (sum more) (sum b) (sum (added b more)) (omega arith))
    ∙ ap (λ (w : ℤ). f a *ℤ w) (mul_assoc (pos (n ^ sum more)) (pos (n ^ sum b)) (monomial z 0 a m))
    ∙ sym (mul_assoc (f a) (pos (n ^ sum more)) (pos (n ^ sum b) *ℤ monomial z 0 a m))
    ∙ ap (λ (w : ℤ). w *ℤ (pos (n ^ sum b) *ℤ monomial z 0 a m)) (mul_comm (f a) (pos (n ^ sum more)))
    ∙ mul_assoc (pos (n ^ sum more)) (f a) (pos (n ^ sum b) *ℤ monomial z 0 a m))
    ∙ sym (by-split_sum box (λ a b. f a *ℤ (pos (n ^ sum b) *ℤ monomial z 0 a m)) (pos (n ^ sum more)))

pub spread-plus : (z : ℕ → Powers → ℤ) (n : ℕ) (box : Powers) (f g : Powers → ℤ) (m : Powers) → spread z n box (λ a. f a +ℤ g a) m ≡ spread z n box f m +ℤ spread z n box g m
spread-plus z n box f g m =
    split_sum-cong box (λ a b. (f a +ℤ g a) *ℤ (pos (n ^ sum b) *ℤ monomial z 0 a m)) (λ a b. f a *ℤ (pos (n ^ sum b) *ℤ monomial z 0 a m) +ℤ g a *ℤ (pos (n ^ sum b) *ℤ monomial z 0 a m))
    (λ a b. add-mul (f a) (g a) (pos (n ^ sum b) *ℤ monomial z 0 a m))
    ∙ split_sum-plus box (λ a b. f a *ℤ (pos (n ^ sum b) *ℤ monomial z 0 a m)) (λ a b. g a *ℤ (pos (n ^ sum b) *ℤ monomial z 0 a m))

pub spread-times : (z : ℕ → Powers → ℤ) (n : ℕ) (box : Powers) (c : ℤ) (f : Powers → ℤ) (m : Powers) → spread z n box (λ a. c *ℤ f a) m ≡ c *ℤ spread z n box f m
spread-times z n box c f m =
    split_sum-cong box (λ a b. (c *ℤ f a) *ℤ (pos (n ^ sum b) *ℤ monomial z 0 a m)) (λ a b. c *ℤ (f a *ℤ (pos (n ^ sum b) *ℤ monomial z 0 a m))) (λ a b. mul_assoc c (f a) (pos (n ^ sum b) *ℤ monomial z 0 a m))
    ∙ sym (by-split_sum box (λ a b. f a *ℤ (pos (n ^ sum b) *ℤ monomial z 0 a m)) c)

pub spread-same : (z : ℕ → Powers → ℤ) (n : ℕ) (box : Powers) (f g : Powers → ℤ) (m : Powers) → length box ≡ 32 → Same f g → spread z n box f m ≡ spread z n box g m
spread-same z n box f g m l h =
    split_sum-on box (λ a b. f a *ℤ (pos (n ^ sum b) *ℤ monomial z 0 a m)) (λ a b. g a *ℤ (pos (n ^ sum b) *ℤ monomial z 0 a m))
    (λ a b s. ap (λ (w : ℤ). w *ℤ (pos (n ^ sum b) *ℤ monomial z 0 a m)) (h a (part_length_left box a b s ∙ l)))
