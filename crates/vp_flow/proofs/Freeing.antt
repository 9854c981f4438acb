-- Polynomials without states keep what they are where the states are replaced.
use Rattle.std.proofs.Common.{◌≡◌, ◌≢◌, ◌⊎◌, inl, inr, ℕ, zero, suc, ◌+◌, ◌-◌, ◌*◌, ◌^◌, ◌<◌, Bool, true, false, cond, ◌==◌, ◌&&◌, leb, [], ◌∷◌, ◌++◌, length, sum, replicate, set, get_or, refl, sym, ap, ◌∙◌, subst, arith, ℤ, pos, ◌*ℤ◌, pow-suc}
use Rattle.std.proofs.Math.Nat.{pow-zero}
use Rattle.std.proofs.lemmas.Bool.{eq-eqb, eqb-true, eqb-false, leb-true, leb-false}
use Rattle.vp_poly.specs.Poly.{Powers, only_at}
use Rattle.vp_poly.specs.Product.{split_sum}
use Rattle.vp_poly.proofs.SplitLaws.{split_sum-cong, split_sum-zero}
use Rattle.vp_poly.proofs.Ring.{mul_assoc, mul_comm}
use Rattle.vp_poly.proofs.RowLaws.{sum-cons}
use Rattle.vp_flow.specs.Whole.{conv}
use Rattle.vp_flow.proofs.Sums.{int_sum-single, int_sum-zero, test_off}
use Rattle.vp_flow.proofs.Convolution.{AreParts, by-split_sum, split_sum-on}
use Rattle.vp_flow.proofs.Lie.{left_none, right_none, times_one}
use Rattle.vp_flow.proofs.Linear.{conv-unit}
use Rattle.vp_flow.proofs.Replacing.{only-none}
use Rattle.vp_flow.proofs.Tau.{conv-power}
use Rattle.vp_flow.proofs.Spreading.{IsIn, Same, conv-comm, conv-same, cross, inside, monomial, one-conv, part_length_left, pos_power, power_of, spread}

-- ---- one place at a time

turned : (x y : ℕ) → (x == y) ≡ (y == x)
turned x y = at (x == y) refl
  where
    at : (v : Bool) → (x == y) ≡ v → v ≡ (y == x)
    at true t = sym (eq-eqb y x (sym (eqb-true x y t)))
    at false t = sym (test_off y x (λ q. eqb-false x y t (sym q)))

-- a monomial whose exponent at the place k is x
at_place : (k x : ℕ) (a m : Powers) → k < length m → cond (get_or m k 0 == x) (only_at (replicate k 0 ++ 0 ∷ a) (set m k 0) (pos 1)) (pos 0) ≡ only_at (replicate k 0 ++ x ∷ a) m (pos 1)
at_place k x a [] lt = absurd (omega arith)
at_place zero x a (y ∷ m) lt = ap (λ (v : Bool). cond v (only_at a m (pos 1)) (pos 0)) (turned y x)
at_place (suc k) x a (y ∷ m) lt = at (0 == y) (at_place k x a m (omega arith)) (get_or m k 0 == x)
  where
    at : (v : Bool) → cond (get_or m k 0 == x) (only_at (replicate k 0 ++ 0 ∷ a) (set m k 0) (pos 1)) (pos 0) ≡ only_at (replicate k 0 ++ x ∷ a) m (pos 1) → (w : Bool) → cond (get_or m k 0 == x) (cond v (only_at (replicate k 0 ++ 0 ∷ a) (set m k 0) (pos 1)) (pos 0)) (pos 0) ≡ cond v (only_at (replicate k 0 ++ x ∷ a) m (pos 1)) (pos 0)
    at true h w = h
    at false h w = none (get_or m k 0 == x)
      where
        none : (w : Bool) → cond w (pos 0) (pos 0) ≡ pos 0
        none true = refl
        none false = refl

-- one exponent more at the place t
at_more : (j t x : ℕ) (m : Powers) → t < j → length m ≡ j → cond (get_or m t 0 == 0) (pos 0) (only_at (set (replicate j 0) t x) (set m t (get_or m t 0 - 1)) (pos 1)) ≡ only_at (set (replicate j 0) t (suc x)) m (pos 1)
at_more zero t x m lt l = absurd (omega arith)
at_more (suc j) t x [] lt l = absurd (omega arith)
at_more (suc j) zero x (zero ∷ m) lt l = sym (ap (λ (v : Bool). cond v (only_at (replicate j 0) m (pos 1)) (pos 0)) (test_off (suc x) 0 (omega arith)))
at_more (suc j) zero x (suc y ∷ m) lt l =
    let q : suc y - 1 ≡ y = omega arith in
    ap (λ (v : Bool). cond v (pos 0) (cond (x == suc y - 1) (only_at (replicate j 0) m (pos 1)) (pos 0))) (test_off (suc y) 0 (omega arith))
    ∙ ap (λ (k : ℕ). cond (x == k) (only_at (replicate j 0) m (pos 1)) (pos 0)) q
    ∙ ap (λ (v : Bool). cond v (only_at (replicate j 0) m (pos 1)) (pos 0)) (same x y)
  where
    same : (x y : ℕ) → (x == y) ≡ (suc x == suc y)
    same x y = at (x == y) refl
      where
        at : (v : Bool) → (x == y) ≡ v → v ≡ (suc x == suc y)
        at true t = sym (eq-eqb (suc x) (suc y) (ap suc (eqb-true x y t)))
        at false t = sym (test_off (suc x) (suc y) (λ q. eqb-false x y t (let r : x ≡ y = omega arith in r)))
at_more (suc j) (suc t) x (y ∷ m) lt l = at (0 == y) (at_more j t x m (omega arith) (omega arith))
  where
    none : (w : Bool) → cond w (pos 0) (pos 0) ≡ pos 0
    none true = refl
    none false = refl

    at : (v : Bool) → cond (get_or m t 0 == 0) (pos 0) (only_at (set (replicate j 0) t x) (set m t (get_or m t 0 - 1)) (pos 1)) ≡ only_at (set (replicate j 0) t (suc x)) m (pos 1) → cond (get_or m t 0 == 0) (pos 0) (cond v (only_at (set (replicate j 0) t x) (set m t (get_or m t 0 - 1)) (pos 1)) (pos 0)) ≡ cond v (only_at (set (replicate j 0) t (suc x)) m (pos 1)) (pos 0)
    at true h = h
    at false h = none (get_or m t 0 == 0)

-- the multiples of the variable at the place t
abbrev pub multiple : ℕ → ℕ → Powers → ℤ
multiple n t m = pos n *ℤ only_at (set (replicate 32 0) t 1) m (pos 1)

none_set : (j t : ℕ) → set {A = ℕ} (replicate j 0) t 0 ≡ replicate j 0
none_set zero t = refl
none_set (suc j) zero = refl
none_set (suc j) (suc t) = ap (λ (l : Powers). 0 ∷ l) (none_set j t)

scaled-conv : (c d : ℤ) (f g : Powers → ℤ) (m : Powers) → conv (λ a. c *ℤ f a) (λ b. d *ℤ g b) m ≡ (c *ℤ d) *ℤ conv f g m
scaled-conv c d f g m =
    split_sum-cong m (λ a b. (c *ℤ f a) *ℤ (d *ℤ g b)) (λ a b. (c *ℤ d) *ℤ (f a *ℤ g b)) (λ a b. cross c (f a) d (g b))
    ∙ sym (by-split_sum m (λ a b. f a *ℤ g b) (c *ℤ d))

power-unit : (n t x : ℕ) (z : Powers → ℤ) → t < 32 → Same z (multiple n t) → Same (power_of z x) (λ m. pos (n ^ x) *ℤ only_at (set (replicate 32 0) t x) m (pos 1))
power-unit n t zero z lt h m e =
    sym (ap (λ (l : Powers). pos (n ^ 0) *ℤ only_at l m (pos 1)) (none_set 32 t)
    ∙ ap (λ (k : ℕ). pos k *ℤ only_at (replicate 32 0) m (pos 1)) (pow-zero n)
    ∙ mul_comm (pos 1) (only_at (replicate 32 0) m (pos 1)) ∙ times_one (only_at (replicate 32 0) m (pos 1)))
power-unit n t (suc x) z lt h m e =
    conv-comm m z (power_of z x)
    ∙ conv-same (power_of z x) (λ m. pos (n ^ x) *ℤ only_at (set (replicate 32 0) t x) m (pos 1)) z (multiple n t) (power-unit n t x z lt h) h m e
    ∙ scaled-conv (pos (n ^ x)) (pos n) (λ a. only_at (set (replicate 32 0) t x) a (pos 1)) (λ b. only_at (set (replicate 32 0) t 1) b (pos 1)) m
    ∙ ap (λ (w : ℤ). (pos (n ^ x) *ℤ pos n) *ℤ w) (conv-unit m 32 t (λ a. only_at (set (replicate 32 0) t x) a (pos 1)) e lt ∙ at_more 32 t x m lt e)
    ∙ ap (λ (k : ℕ). pos k *ℤ only_at (set (replicate 32 0) t (suc x)) m (pos 1)) (let q : n ^ x * n ≡ n ^ suc x = sym (pow-suc n x) in q)

-- ---- monomials without states

shift : (k : ℕ) (a : Powers) → replicate k 0 ++ 0 ∷ a ≡ replicate (suc k) 0 ++ a
shift zero a = refl
shift (suc k) a = ap (λ (l : Powers). 0 ∷ l) (shift k a)

low_front : (k : ℕ) (a : Powers) → ◌≡◌ {A = ℕ} (get_or (replicate k 0 ++ 0 ∷ a) k 0) 0
low_front zero a = refl
low_front (suc k) a = low_front k a

pub monomial-free : (z : ℕ → Powers → ℤ) (n k : ℕ) (a : Powers) → k + length a ≡ 32 → ((t : ℕ) → t < length a → (get_or a t 0 ≡ 0) ⊎ Same (z (k + t)) (multiple n (k + t))) → Same (monomial z k a) (λ m. pos (n ^ sum a) *ℤ only_at (replicate k 0 ++ a) m (pos 1))
monomial-free z n k [] size h m e =
    sym (ap (λ (j : ℕ). pos (n ^ sum []) *ℤ only_at (replicate j 0 ++ []) m (pos 1)) (let q : k ≡ 32 = omega arith in q)
    ∙ ap (λ (j : ℕ). pos j *ℤ only_at (replicate 32 0) m (pos 1)) (pow-zero n)
    ∙ mul_comm (pos 1) (only_at (replicate 32 0) m (pos 1)) ∙ times_one (only_at (replicate 32 0) m (pos 1)))
monomial-free z n k (x ∷ a) size h m e = step (h 0 (omega arith)) (monomial-free z n (suc k) a (omega arith) (λ t lt. later t (h (suc t) (omega arith))))
  where
    later : (t : ℕ) → (get_or a t 0 ≡ 0) ⊎ Same (z (k + suc t)) (multiple n (k + suc t)) → (get_or a t 0 ≡ 0) ⊎ Same (z (suc k + t)) (multiple n (suc k + t))
    later t (inl q) = inl q
    later t (inr s) = let q : k + suc t ≡ suc k + t = omega arith in inr (subst (λ (i : ℕ). Same (z i) (multiple n i)) q s)

    rest : Powers → ℤ
    rest b = only_at (replicate k 0 ++ 0 ∷ a) b (pos 1)

    none : (b : Powers) → get_or b k 0 ≢ 0 → rest b ≡ pos 0
    none b ne = only-none (replicate k 0 ++ 0 ∷ a) b (pos 1) (λ q. ne (sym (ap (λ (l : Powers). get_or l k 0) q) ∙ low_front k a))

    step : (x ≡ 0) ⊎ Same (z (k + 0)) (multiple n (k + 0)) → Same (monomial z (suc k) a) (λ m. pos (n ^ sum a) *ℤ only_at (replicate (suc k) 0 ++ a) m (pos 1)) → monomial z k (x ∷ a) m ≡ pos (n ^ sum (x ∷ a)) *ℤ only_at (replicate k 0 ++ x ∷ a) m (pos 1)
    step (inl q) more =
        ap (λ (y : ℕ). monomial z k (y ∷ a) m) q
        ∙ one-conv (monomial z (suc k) a) m e ∙ more m e
        ∙ ap (λ (l : Powers). pos (n ^ sum a) *ℤ only_at l m (pos 1)) (sym (shift k a))
        ∙ ap (λ (j : ℕ). pos (n ^ j) *ℤ only_at (replicate k 0 ++ 0 ∷ a) m (pos 1)) (let s : sum a ≡ sum (0 ∷ a) = omega (arith, sum-cons 0 a) in s)
        ∙ ap (λ (y : ℕ). pos (n ^ sum (y ∷ a)) *ℤ only_at (replicate k 0 ++ y ∷ a) m (pos 1)) (sym q)
    step (inr s) more =
        let place : k + 0 ≡ k = omega arith in
        let own = power-unit n k x (z k) (omega arith) (subst (λ (i : ℕ). Same (z i) (multiple n i)) place s) in
        conv-comm m (power_of (z k) x) (monomial z (suc k) a)
        ∙ conv-same (monomial z (suc k) a) (λ b. pos (n ^ sum a) *ℤ rest b) (power_of (z k) x) (λ b. pos (n ^ x) *ℤ only_at (set (replicate 32 0) k x) b (pos 1))
        (λ b l. more b l ∙ ap (λ (w : Powers). pos (n ^ sum a) *ℤ only_at w b (pos 1)) (sym (shift k a))) own m e
        ∙ scaled-conv (pos (n ^ sum a)) (pos (n ^ x)) rest (λ b. only_at (set (replicate 32 0) k x) b (pos 1)) m
        ∙ ap (λ (w : ℤ). (pos (n ^ sum a) *ℤ pos (n ^ x)) *ℤ w) (conv-power m 32 k x rest (pos 1) e (omega arith) none ∙ drop_one (get_or m k 0 == x) ∙ at_place k x a m (omega arith))
        ∙ ap (λ (w : ℤ). w *ℤ only_at (replicate k 0 ++ x ∷ a) m (pos 1)) (sym (pos_power n (sum a) x (sum (x ∷ a)) (let q : sum (x ∷ a) ≡ sum a + x = omega (arith, sum-cons x a) in q)))
      where
        drop_one : (v : Bool) → cond v (rest (set m k 0) *ℤ pos 1) (pos 0) ≡ cond v (rest (set m k 0)) (pos 0)
        drop_one true = times_one (rest (set m k 0))
        drop_one false = refl

-- ---- functions without states

-- the sum over a box of what counts at one monomial alone
pub counted : (box : Powers) (f : Powers → ℤ) (m : Powers) → length m ≡ length box → (inside m box ≡ false → f m ≡ pos 0) → split_sum box (λ a b. f a *ℤ only_at a m (pos 1)) ≡ f m
counted [] f [] l h = times_one (f [])
counted [] f (y ∷ m) l h = absurd (omega arith)
counted (e ∷ box) f [] l h = absurd (omega arith)
counted (e ∷ box) f (y ∷ m) l h = at (leb y e) refl (λ k. counted box (λ a. f (y ∷ a)) m (omega arith) k)
  where
    off : (i : ℕ) → i ≢ y → split_sum box (λ a b. f (i ∷ a) *ℤ cond (i == y) (only_at a m (pos 1)) (pos 0)) ≡ pos 0
    off i ne = split_sum-zero box (λ a b. f (i ∷ a) *ℤ cond (i == y) (only_at a m (pos 1)) (pos 0)) (λ a b. right_none (f (i ∷ a)) (cond (i == y) (only_at a m (pos 1)) (pos 0)) (ap (λ (v : Bool). cond v (only_at a m (pos 1)) (pos 0)) (test_off i y ne)))

    at : (v : Bool) → leb y e ≡ v → ((inside m box ≡ false → f (y ∷ m) ≡ pos 0) → split_sum box (λ a b. f (y ∷ a) *ℤ only_at a m (pos 1)) ≡ f (y ∷ m)) → split_sum (e ∷ box) (λ a b. f a *ℤ only_at a (y ∷ m) (pos 1)) ≡ f (y ∷ m)
    at true t more =
        int_sum-single e y (λ i. split_sum box (λ a b. f (i ∷ a) *ℤ cond (i == y) (only_at a m (pos 1)) (pos 0))) (leb-true y e t) (λ i le ne. off i ne)
        ∙ split_sum-cong box (λ a b. f (y ∷ a) *ℤ cond (y == y) (only_at a m (pos 1)) (pos 0)) (λ a b. f (y ∷ a) *ℤ only_at a m (pos 1)) (λ a b. ap (λ (v : Bool). f (y ∷ a) *ℤ cond v (only_at a m (pos 1)) (pos 0)) (eq-eqb y y refl))
        ∙ more (λ o. h (ap (λ (v : Bool). v && inside m box) t ∙ o))
    at false t more =
        let lt = leb-false y e t in
        int_sum-zero e (λ i. split_sum box (λ a b. f (i ∷ a) *ℤ cond (i == y) (only_at a m (pos 1)) (pos 0))) (λ i le. off i (λ q. absurd (omega arith)))
        ∙ sym (h (ap (λ (v : Bool). v && inside m box) t))

-- where the places that f has keep their variables, f stays
pub spread-free : (z : ℕ → Powers → ℤ) (n : ℕ) (box : Powers) (f : Powers → ℤ) → length box ≡ 32 → IsIn box f → ((a : Powers) → length a ≡ 32 → (f a ≡ pos 0) ⊎ ((t : ℕ) → t < 32 → (get_or a t 0 ≡ 0) ⊎ Same (z t) (multiple n t))) → (m : Powers) → length m ≡ 32 → spread z n box f m ≡ pos (n ^ sum box) *ℤ f m
spread-free z n box f size within free m e =
    split_sum-on box (λ a b. f a *ℤ (pos (n ^ sum b) *ℤ monomial z 0 a m)) (λ a b. pos (n ^ sum box) *ℤ (f a *ℤ only_at a m (pos 1)))
    (λ a b s. each a b (part_length_left box a b s ∙ size) (parts-sum box a b s) (free a (part_length_left box a b s ∙ size)))
    ∙ sym (by-split_sum box (λ a b. f a *ℤ only_at a m (pos 1)) (pos (n ^ sum box)))
    ∙ ap (λ (w : ℤ). pos (n ^ sum box) *ℤ w) (counted box f m (e ∙ sym size) (within.outside m))
  where
    parts-sum : (m a b : Powers) → AreParts m a b → sum m ≡ sum b + sum a
    parts-sum [] [] [] s = refl
    parts-sum [] [] (y ∷ b) s = absurd s
    parts-sum [] (x ∷ a) b s = absurd s
    parts-sum (e ∷ m) [] b s = absurd s
    parts-sum (e ∷ m) (x ∷ a) [] s = absurd s
    parts-sum (e ∷ m) (x ∷ a) (y ∷ b) s =
        let more = parts-sum m a b s.1 in
        let q : x + y ≡ e = s.0 in
        omega (arith, sum-cons e m, sum-cons x a, sum-cons y b)

    each : (a b : Powers) → length a ≡ 32 → sum box ≡ sum b + sum a → (f a ≡ pos 0) ⊎ ((t : ℕ) → t < 32 → (get_or a t 0 ≡ 0) ⊎ Same (z t) (multiple n t)) → f a *ℤ (pos (n ^ sum b) *ℤ monomial z 0 a m) ≡ pos (n ^ sum box) *ℤ (f a *ℤ only_at a m (pos 1))
    each a b l s (inl q) = left_none (f a) (pos (n ^ sum b) *ℤ monomial z 0 a m) q ∙ sym (right_none (pos (n ^ sum box)) (f a *ℤ only_at a m (pos 1)) (left_none (f a) (only_at a m (pos 1)) q))
    each a b l s (inr h) =
        ap (λ (w : ℤ). f a *ℤ (pos (n ^ sum b) *ℤ w)) (monomial-free z n 0 a (omega arith) (λ t lt. moved t (h t (omega arith))) m e)
        ∙ ap (λ (w : ℤ). f a *ℤ w) (sym (mul_assoc (pos (n ^ sum b)) (pos (n ^ sum a)) (only_at a m (pos 1))) ∙ ap (λ (w : ℤ). w *ℤ only_at a m (pos 1)) (sym (pos_power n (sum b) (sum a) (sum box) s)))
        ∙ sym (mul_assoc (f a) (pos (n ^ sum box)) (only_at a m (pos 1)))
        ∙ ap (λ (w : ℤ). w *ℤ only_at a m (pos 1)) (mul_comm (f a) (pos (n ^ sum box)))
        ∙ mul_assoc (pos (n ^ sum box)) (f a) (only_at a m (pos 1))
      where
        moved : (t : ℕ) → (get_or a t 0 ≡ 0) ⊎ Same (z t) (multiple n t) → (get_or a t 0 ≡ 0) ⊎ Same (z (0 + t)) (multiple n (0 + t))
        moved t x = let q : t ≡ 0 + t = omega arith in subst (λ (i : ℕ). (get_or a t 0 ≡ 0) ⊎ Same (z i) (multiple n i)) q x
