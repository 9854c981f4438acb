-- A right side with its states replaced: as the expression that it is, and term by term.
use Rattle.std.proofs.Common.{◌≡◌, ◌≢◌, ◌⊎◌, inl, inr, ℕ, zero, suc, ◌+◌, ◌-◌, ◌*◌, ◌^◌, ◌≤◌, ◌<◌, Bool, true, false, cond, ◌==◌, ◌&&◌, leb, [], ◌∷◌, length, sum, replicate, set, get_or, refl, sym, ap, ◌∙◌, subst, arith, ℤ, pos, ◌*ℤ◌, mul-pos}
use Rattle.std.proofs.lemmas.Bool.{eqb-true, leb-true, leb-false}
use Rattle.vp_terms.specs.Rational.{Rational, Equals, whole}
use Rattle.vp_terms.specs.declared.expr.Places.{Places}
use Rattle.vp_terms.specs.declared.expr.Var.TheVariants.{State}
use Rattle.vp_terms.proofs.RationalLaws.{chain, Equals-product, Equals-refl, Equals-sym}
use Rattle.vp_poly.specs.Poly.{Powers}
use Rattle.vp_poly.specs.Product.{added}
use Rattle.vp_poly.specs.Coefficient.{Coefficients, times}
use Rattle.vp_poly.specs.Canonical.{variables}
use Rattle.vp_poly.specs.Times.{IsTimes}
use Rattle.vp_poly.proofs.ProductValues.{whole-product}
use Rattle.vp_poly.proofs.TimesLaws.{IsTimes-same, IsTimes-scaled}
use Rattle.vp_poly.proofs.Ring.{mul_assoc}
use Rattle.vp_poly.proofs.LcmLaws.{pow_positive}
use Rattle.vp_flow.specs.Series.{factor, state_degree, stateless, substituted, sum_below, with_states}
use Rattle.vp_flow.specs.Whole.{state_place, zfactor}
use Rattle.vp_flow.proofs.Bridge.{IsTimes-cond, IsTimes-factor, IsTimes-none}
use Rattle.vp_flow.proofs.Derivative.{IsTimes-equal}
use Rattle.vp_flow.proofs.Lie.{cond_none, state_exponent, times_one}
use Rattle.vp_flow.proofs.Linear.{zstateless}
use Rattle.vp_flow.proofs.Spreading.{IsIn, Same, added-comm, added-length, inside, spread, spread-more, spread-same, spread-times}
use Rattle.vp_flow.proofs.Standing.{Stands, stands-product, stands-sum}
use Rattle.vp_flow.proofs.Expressing.{stands-variable}
use Rattle.vp_flow.proofs.Freeing.{multiple, spread-free}

-- ---- a polynomial tells what replacing its places gives

one-value : (d : ℕ) (v w q : Rational) → IsTimes d v q → IsTimes d w q → Equals v w
one-value d v w q a b = chain a.same (Equals-sym _ _ b.same)

whole-same : (a b : ℤ) → Equals (whole a) (whole b) → a ≡ b
whole-same a b h = sym (times_one a) ∙ h.crossed ∙ times_one b

with-equal : (d : ℕ) (v q r : Rational) → Equals q r → IsTimes d v q → IsTimes d v r
with-equal d v q r h x = record { same = chain x.same (Equals-product _ _ _ _ (Equals-refl (whole (pos d))) h) }

pub whole-scaled : (k d : ℕ) (x : ℤ) (q : Rational) → IsTimes d (whole x) q → IsTimes (k * d) (whole (pos k *ℤ x)) q
whole-scaled k d x q h = IsTimes-same (k * d) _ _ _ (whole-product (pos k) x) (IsTimes-scaled k d (whole x) q h)

-- where the polynomials are the same, so is what replacing gives
pub unique : (z : ℕ → Powers → ℤ) (n : ℕ) (g h g' h' : Coefficients) → 0 < n → Stands z n g h → Stands z n g' h' → ((m : Powers) → length m ≡ 32 → Equals (g m) (g' m)) → (m : Powers) → length m ≡ 32 → Equals (h m) (h' m)
unique z n g h g' h' np x y same m e =
    IsTimes-equal ((y.den * n ^ sum y.box) * (x.den * n ^ sum x.box)) (whole (pos (y.den * n ^ sum y.box) *ℤ spread z n x.box x.f m)) (h m) (h' m)
    (mul-pos (mul-pos y.positive (pow_positive n (sum y.box) np)) (mul-pos x.positive (pow_positive n (sum x.box) np)))
    (whole-scaled (y.den * n ^ sum y.box) (x.den * n ^ sum x.box) (spread z n x.box x.f m) (h m) (x.replaced m e))
    (subst (λ (v : ℤ). IsTimes ((y.den * n ^ sum y.box) * (x.den * n ^ sum x.box)) (whole v) (h' m)) (sym both_spread)
    (subst (λ (d : ℕ). IsTimes d (whole (pos (x.den * n ^ sum x.box) *ℤ spread z n y.box y.f m)) (h' m)) (turned (x.den * n ^ sum x.box) (y.den * n ^ sum y.box))
    (whole-scaled (x.den * n ^ sum x.box) (y.den * n ^ sum y.box) (spread z n y.box y.f m) (h' m) (y.replaced m e))))
  where
    turned : (a b : ℕ) → a * b ≡ b * a
    turned a b = omega arith

    l : length x.box ≡ length y.box
    l = x.size ∙ sym y.size

    pointwise : (a : Powers) → length a ≡ 32 → pos y.den *ℤ x.f a ≡ pos x.den *ℤ y.f a
    pointwise a s =
        whole-same (pos y.den *ℤ x.f a) (pos x.den *ℤ y.f a)
        (one-value (y.den * x.den) (whole (pos y.den *ℤ x.f a)) (whole (pos x.den *ℤ y.f a)) (g a) (whole-scaled y.den x.den (x.f a) (g a) (x.own a))
        (subst (λ (d : ℕ). IsTimes d (whole (pos x.den *ℤ y.f a)) (g a)) (turned x.den y.den) (whole-scaled x.den y.den (y.f a) (g a) (with-equal y.den (whole (y.f a)) (g' a) (g a) (Equals-sym _ _ (same a s)) (y.own a)))))

    grown : (c k : ℕ) (v : ℤ) → pos c *ℤ (pos k *ℤ v) ≡ pos (c * k) *ℤ v
    grown c k v = sym (mul_assoc (pos c) (pos k) v)

    -- over both boxes
    both_spread : pos (y.den * n ^ sum y.box) *ℤ spread z n x.box x.f m ≡ pos (x.den * n ^ sum x.box) *ℤ spread z n y.box y.f m
    both_spread =
        sym (grown y.den (n ^ sum y.box) (spread z n x.box x.f m))
        ∙ ap (λ (w : ℤ). pos y.den *ℤ w) (sym (spread-more z n x.box y.box x.f m l x.within))
        ∙ sym (spread-times z n (added x.box y.box) (pos y.den) x.f m)
        ∙ spread-same z n (added x.box y.box) (λ a. pos y.den *ℤ x.f a) (λ a. pos x.den *ℤ y.f a) m (added-length x.box y.box l ∙ x.size) pointwise
        ∙ spread-times z n (added x.box y.box) (pos x.den) y.f m
        ∙ ap (λ (b : Powers). pos x.den *ℤ spread z n b y.f m) (added-comm x.box y.box l)
        ∙ ap (λ (w : ℤ). pos x.den *ℤ w) (spread-more z n y.box x.box y.f m (sym l) y.within)
        ∙ grown x.den (n ^ sum x.box) (spread z n y.box y.f m)

-- ---- what has no states

pub stands-free : (z : ℕ → Powers → ℤ) (n d : ℕ) (box : Powers) (f : Powers → ℤ) (g : Coefficients) → length box ≡ 32 → 0 < d → IsIn box f → ((a : Powers) → length a ≡ 32 → (f a ≡ pos 0) ⊎ ((t : ℕ) → t < 32 → (get_or a t 0 ≡ 0) ⊎ Same (z t) (multiple n t))) → ((m : Powers) → IsTimes d (whole (f m)) (g m)) → Stands z n g g
stands-free z n d box f g size dp within free own = record {
  box = box;
  den = d;
  f = f;
  size = size;
  positive = dp;
  within = within;
  own = own;
  replaced = λ m e.
      subst (λ (v : ℤ). IsTimes (d * n ^ sum box) (whole v) (g m)) (sym (spread-free z n box f size within free m e))
      (subst (λ (k : ℕ). IsTimes k (whole (pos (n ^ sum box) *ℤ f m)) (g m)) (turned (n ^ sum box) d) (whole-scaled (n ^ sum box) d (f m) (g m) (own m)));
}
  where
    turned : (a b : ℕ) → a * b ≡ b * a
    turned a b = omega arith

stands-zero : (z : ℕ → Powers → ℤ) (n : ℕ) → Stands z n (λ m. whole (pos 0)) (λ m. whole (pos 0))
stands-zero z n =
    stands-free z n 1 (replicate 32 0) (λ a. pos 0) (λ m. whole (pos 0)) refl (omega arith) (record { outside = λ a o. refl }) (λ a l. inl refl) (λ m. IsTimes-none 1)

pub stands-below : (z : ℕ → Powers → ℤ) (n k : ℕ) (u v : ℕ → Coefficients) → 0 < n → ((j : ℕ) → j < k → Stands z n (u j) (v j)) → Stands z n (λ m. sum_below k (λ j. u j m)) (λ m. sum_below k (λ j. v j m))
stands-below z n zero u v np h = stands-zero z n
stands-below z n (suc k) u v np h = stands-sum z n (λ m. sum_below k (λ j. u j m)) (λ m. sum_below k (λ j. v j m)) (u k) (v k) np (stands-below z n k u v np (λ j lt. h j (omega arith))) (h k (omega arith))

-- ---- a right side that is linear in the states, term by term

-- an exponent 1 in place of a 0 keeps outside of a box
lowered : (a box : Powers) (t : ℕ) → get_or a t 0 ≡ 0 → inside a box ≡ false → inside (set a t 1) box ≡ false
lowered [] box t z o = o
lowered (x ∷ a) [] zero z o = refl
lowered (x ∷ a) [] (suc t) z o = refl
lowered (x ∷ a) (e ∷ box) zero z o = at (leb 1 e) (inside a box) (rest x z o)
  where
    rest : (x : ℕ) → x ≡ 0 → (leb x e && inside a box) ≡ false → inside a box ≡ false
    rest x q h = with_test (leb x e) refl h
      where
        with_test : (v : Bool) → leb x e ≡ v → (v && inside a box) ≡ false → inside a box ≡ false
        with_test true t h = h
        with_test false t h = let l = leb-false x e t in absurd (omega arith)

    at : (v w : Bool) → w ≡ false → (v && w) ≡ false
    at true w q = q
    at false w q = refl
lowered (x ∷ a) (e ∷ box) (suc t) z o = at (leb x e) (inside a box) refl o (lowered a box t z)
  where
    at : (v : Bool) (w : Bool) → inside a box ≡ w → (v && w) ≡ false → (inside a box ≡ false → inside (set a t 1) box ≡ false) → (v && inside (set a t 1) box) ≡ false
    at true w q h more = more (q ∙ h)
    at false w q h more = refl

pub record IsKept (p : Places) (z : ℕ → Powers → ℤ) (n : ℕ) : Type 0 where
  pub kept : (t : ℕ) → t < 32 → ((j : ℕ) → j < p.states → t ≢ p.params + j) → Same (z t) (multiple n t)

-- the places of a monomial without states keep their variables
without-states : (p : Places) (z : ℕ → Powers → ℤ) (n : ℕ) → IsKept p z n → (a : Powers) → state_degree p a ≡ 0 → (t : ℕ) → t < 32 → (get_or a t 0 ≡ 0) ⊎ Same (z t) (multiple n t)
without-states p z n k a none t lt = at (leb p.params t) refl (leb (suc t) (p.params + p.states)) refl
  where
    at : (v : Bool) → leb p.params t ≡ v → (w : Bool) → leb (suc t) (p.params + p.states) ≡ w → (get_or a t 0 ≡ 0) ⊎ Same (z t) (multiple n t)
    at true u true w =
        let le = leb-true p.params t u in
        let less = leb-true (suc t) (p.params + p.states) w in
        let q : p.params + (t - p.params) ≡ t = omega arith in
        let x = state_exponent p (t - p.params) a (omega arith) in
        inl (subst (λ (i : ℕ). get_or a i 0 ≡ 0) q (let y : get_or a (p.params + (t - p.params)) 0 ≡ 0 = omega arith in y))
    at true u false w = let gt = leb-false (suc t) (p.params + p.states) w in inr (k.kept t lt (λ j j_lt q. absurd (omega arith)))
    at false u w s = let gt = leb-false p.params t u in inr (k.kept t lt (λ j j_lt q. absurd (omega arith)))

cond-free : (p : Places) (z : ℕ → Powers → ℤ) (n : ℕ) → IsKept p z n → (a : Powers) (x : ℤ) → (cond (state_degree p a == 0) x (pos 0) ≡ pos 0) ⊎ ((t : ℕ) → t < 32 → (get_or a t 0 ≡ 0) ⊎ Same (z t) (multiple n t))
cond-free p z n k a x = at (state_degree p a == 0) refl
  where
    at : (v : Bool) → (state_degree p a == 0) ≡ v → (cond v x (pos 0) ≡ pos 0) ⊎ ((t : ℕ) → t < 32 → (get_or a t 0 ≡ 0) ⊎ Same (z t) (multiple n t))
    at true t = inr (without-states p z n k a (eqb-true (state_degree p a) 0 t))
    at false t = inl refl

pub stands-linear : (p : Places) (z : ℕ → Powers → ℤ) (n d : ℕ) (box : Powers) (f : Powers → ℤ) (g : Coefficients) (v : ℕ → Coefficients) → 0 < n → p.params + p.states ≤ 32 → IsKept p z n → ((j : ℕ) → j < p.states → (m : Powers) → length m ≡ 32 → IsTimes n (whole (z (p.params + j) m)) (v j m)) → length box ≡ 32 → 0 < d → IsIn box f → ((m : Powers) → IsTimes d (whole (f m)) (g m)) → Stands z n (substituted p (λ j. variables p (State j)) g) (substituted p v g)
stands-linear p z n d box f g v np few k x size dp within own =
    stands-sum z n (stateless p g) (stateless p g) (with_states p (λ j. variables p (State j)) g) (with_states p v g) np
    (stands-free z n d box (zstateless p f) (stateless p g) size dp (record { outside = λ a o. cond_none (state_degree p a == 0) (f a) (within.outside a o) }) (λ a l. cond-free p z n k a (f a)) (λ m. IsTimes-cond d (state_degree p m == 0) (f m) (g m) (own m)))
    (stands-below z n p.states (λ j. times (factor p j g) (variables p (State j))) (λ j. times (factor p j g) (v j)) np
    (λ j lt.
    stands-product z n (factor p j g) (factor p j g) (variables p (State j)) (v j)
    (stands-free z n d box (zfactor p j f) (factor p j g) size dp (record { outside = λ a o. outside j lt a o (state_degree p a == 0) refl }) (λ a l. cond-free p z n k a (f (set a (state_place p j) 1))) (IsTimes-factor p j d f g own))
    (stands-variable z n p (State j) (v j) (omega arith) (x j lt))))
  where
    outside : (j : ℕ) → j < p.states → (a : Powers) → inside a box ≡ false → (w : Bool) → (state_degree p a == 0) ≡ w → cond w (f (set a (state_place p j) 1)) (pos 0) ≡ pos 0
    outside j lt a o true t =
        let z = eqb-true (state_degree p a) 0 t in
        let s = state_exponent p j a lt in
        within.outside (set a (state_place p j) 1) (lowered a box (state_place p j) (let q : get_or a (state_place p j) 0 ≡ 0 = omega arith in q) o)
    outside j lt a o false t = refl
