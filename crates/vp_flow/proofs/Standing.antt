-- What an expression is where its variables are replaced: the polynomial that it is, with its places replaced.
use Rattle.std.proofs.Common.{◌≡◌, ℕ, zero, suc, ◌+◌, ◌*◌, ◌^◌, ◌<◌, Bool, true, false, ◌&&◌, leb, [], ◌∷◌, length, sum, refl, sym, ap, ◌∙◌, subst, arith, ℤ, pos, neg_ℤ, ◌+ℤ◌, ◌*ℤ◌, mul-pos}
use Rattle.std.proofs.Math.IntN.{*ℤ-zero, zero-*ℤ}
use Rattle.std.proofs.lemmas.Int.{ints}
use Rattle.std.proofs.lemmas.Nat.{pow-add}
use Rattle.vp_terms.specs.Rational.{Equals, whole, sum as plus, difference, product}
use Rattle.vp_terms.proofs.RationalLaws.{chain, Equals-sum}
use Rattle.std.proofs.lemmas.Bool.{leb-true, leb-false}
use Rattle.vp_poly.specs.Poly.{Powers}
use Rattle.vp_poly.specs.Product.{added}
use Rattle.vp_poly.specs.Coefficient.{Coefficients, times}
use Rattle.vp_poly.specs.Times.{IsTimes}
use Rattle.vp_poly.proofs.ProductValues.{whole-product}
use Rattle.vp_poly.proofs.TimesLaws.{IsTimes-same, IsTimes-product, IsTimes-total, IsTimes-difference, whole-sum}
use Rattle.vp_poly.proofs.Ring.{mul_assoc}
use Rattle.vp_flow.specs.Whole.{conv}
use Rattle.vp_flow.proofs.Bridge.{IsTimes-conv}
use Rattle.vp_flow.proofs.Lie.{right_none}
use Rattle.vp_flow.proofs.Spreading.{IsIn, added-length, added-comm, added-sum, in-conv, inside, spread, spread-conv, spread-more, spread-plus, spread-times, part_length_left}
use Rattle.vp_flow.proofs.Derivative.{part_length_right, split_times-on}

-- the box and the multiple d of g, which is h where the places are replaced by z over n
pub record Stands (z : ℕ → Powers → ℤ) (n : ℕ) (g h : Coefficients) : Type 0 where
  pub box : Powers
  pub den : ℕ
  pub f : Powers → ℤ
  pub size : length box ≡ 32
  pub positive : 0 < den
  pub within : IsIn box f
  pub own : (m : Powers) → IsTimes den (whole (f m)) (g m)
  pub replaced : (m : Powers) → length m ≡ 32 → IsTimes (den * n ^ sum box) (whole (spread z n box f m)) (h m)

-- ---- sums and differences

opposite : ℤ → ℤ
opposite x = neg_ℤ x

-- a sum and a difference, by the sign of the second part
abbrev mixed : (ℤ → ℤ) → ℕ → (Powers → ℤ) → ℕ → (Powers → ℤ) → Powers → ℤ
mixed s d f e g m = pos e *ℤ f m +ℤ s (pos d) *ℤ g m

none-sum : (a b x y : ℤ) → x ≡ pos 0 → y ≡ pos 0 → a *ℤ x +ℤ b *ℤ y ≡ pos 0
none-sum a b x y h k = right_sum (a *ℤ x) (b *ℤ y) (right_none a x h) (right_none b y k)
  where
    right_sum : (x y : ℤ) → x ≡ pos 0 → y ≡ pos 0 → x +ℤ y ≡ pos 0
    right_sum x y e f = omega (arith, ints)

-- what lies outside the sum of two boxes lies outside each
outside-left : (a box more : Powers) → length box ≡ length more → inside a (added box more) ≡ false → inside a box ≡ false
outside-left [] [] [] l o = o
outside-left (x ∷ a) [] [] l o = o
outside-left a [] (y ∷ more) l o = absurd (omega arith)
outside-left a (y ∷ box) [] l o = absurd (omega arith)
outside-left [] (e ∷ box) (s ∷ more) l o = refl
outside-left (x ∷ a) (e ∷ box) (s ∷ more) l o = at (leb x (e + s)) refl (leb x e) refl o (outside-left a box more (omega arith))
  where
    on_of : leb x e ≡ true → leb x (e + s) ≡ false → ⊥
    on_of t u = let a = leb-true x e t in let b = leb-false x (e + s) u in absurd (omega arith)

    at : (v : Bool) → leb x (e + s) ≡ v → (w : Bool) → leb x e ≡ w → (v && inside a (added box more)) ≡ false → (inside a (added box more) ≡ false → inside a box ≡ false) → (w && inside a box) ≡ false
    at v t false u q k = refl
    at true t true u q k = k q
    at false t true u q k = absurd (on_of u t)

outside-right : (a box more : Powers) → length box ≡ length more → inside a (added box more) ≡ false → inside a more ≡ false
outside-right a box more l o = outside-left a more box (sym l) (ap (inside a) (sym (added-comm box more l)) ∙ o)

neg-is : (z : ℕ → Powers → ℤ) (n : ℕ) (box : Powers) (c : ℤ) (f : Powers → ℤ) (m : Powers) → spread z n box (λ a. c *ℤ f a) m ≡ c *ℤ spread z n box f m
neg-is z n box c f m = spread-times z n box c f m

-- the sum of two multiples, over both boxes
pub spread-two : (z : ℕ → Powers → ℤ) (n : ℕ) (box more : Powers) (c k : ℤ) (f g : Powers → ℤ) (m : Powers) → length box ≡ length more → IsIn box f → IsIn more g → spread z n (added box more) (λ a. c *ℤ f a +ℤ k *ℤ g a) m ≡ (c *ℤ pos (n ^ sum more)) *ℤ spread z n box f m +ℤ (k *ℤ pos (n ^ sum box)) *ℤ spread z n more g m
spread-two z n box more c k f g m l hf hg =
    spread-plus z n (added box more) (λ a. c *ℤ f a) (λ a. k *ℤ g a) m
    ∙ ap (λ (w : ℤ). w +ℤ spread z n (added box more) (λ a. k *ℤ g a) m) (spread-times z n (added box more) c f m ∙ ap (λ (w : ℤ). c *ℤ w) (spread-more z n box more f m l hf) ∙ sym (mul_assoc c (pos (n ^ sum more)) (spread z n box f m)))
    ∙ ap (λ (w : ℤ). (c *ℤ pos (n ^ sum more)) *ℤ spread z n box f m +ℤ w)
    (spread-times z n (added box more) k g m
    ∙ ap (λ (w : ℤ). k *ℤ w) (ap (λ (b : Powers). spread z n b g m) (added-comm box more l) ∙ spread-more z n more box g m (sym l) hg)
    ∙ sym (mul_assoc k (pos (n ^ sum box)) (spread z n more g m)))

pub in-two : (box more : Powers) (c k : ℤ) (f g : Powers → ℤ) → length box ≡ length more → IsIn box f → IsIn more g → IsIn (added box more) (λ a. c *ℤ f a +ℤ k *ℤ g a)
in-two box more c k f g l hf hg = record {
  outside = λ a o. none-sum c k (f a) (g a) (hf.outside a (outside-left a box more l o)) (hg.outside a (outside-right a box more l o));
}

-- the exponents of the denominators
dens-left : (n d e s t w : ℕ) → w ≡ s + t → (e * n ^ t) * (d * n ^ s) ≡ d * e * n ^ w
dens-left n d e s t w h =
    let p = ap (λ (k : ℕ). n ^ k) h ∙ pow-add n s t in
    shape d e (n ^ s) (n ^ t) ∙ ap (λ (k : ℕ). d * e * k) (sym p)
  where
    shape : (d e a b : ℕ) → (e * b) * (d * a) ≡ d * e * (a * b)
    shape d e a b = omega arith

two-whole : (c k x y : ℤ) → Equals (whole (c *ℤ x +ℤ k *ℤ y)) (plus (product (whole c) (whole x)) (product (whole k) (whole y)))
two-whole c k x y = chain (whole-sum (c *ℤ x) (k *ℤ y)) (Equals-sum _ _ _ _ (whole-product c x) (whole-product k y))

-- a sum, over the product of both denominators
pub stands-sum : (z : ℕ → Powers → ℤ) (n : ℕ) (g h g' h' : Coefficients) → 0 < n → Stands z n g h → Stands z n g' h' → Stands z n (λ m. plus (g m) (g' m)) (λ m. plus (h m) (h' m))
stands-sum z n g h g' h' np x y = record {
  box = added x.box y.box;
  den = x.den * y.den;
  f = λ a. pos y.den *ℤ x.f a +ℤ pos x.den *ℤ y.f a;
  size = added-length x.box y.box (x.size ∙ sym y.size) ∙ x.size;
  positive = mul-pos x.positive y.positive;
  within = in-two x.box y.box (pos y.den) (pos x.den) x.f y.f (x.size ∙ sym y.size) x.within y.within;
  own = λ m.
      IsTimes-same (x.den * y.den) _ _ _ (two-whole (pos y.den) (pos x.den) (x.f m) (y.f m))
      (IsTimes-total y.den x.den x.den y.den (x.den * y.den) _ _ _ _ (let e : y.den * x.den ≡ x.den * y.den = omega arith in e) refl (x.own m) (y.own m));
  replaced = λ m e.
      let l : length x.box ≡ length y.box = x.size ∙ sym y.size in
      let s = added-sum x.box y.box l in
      subst (λ (v : ℤ). IsTimes (x.den * y.den * n ^ sum (added x.box y.box)) (whole v) (plus (h m) (h' m))) (sym (spread-two z n x.box y.box (pos y.den) (pos x.den) x.f y.f m l x.within y.within))
      (IsTimes-same (x.den * y.den * n ^ sum (added x.box y.box)) _ _ _ (two-whole (pos (y.den * n ^ sum y.box)) (pos (x.den * n ^ sum x.box)) (spread z n x.box x.f m) (spread z n y.box y.f m))
      (IsTimes-total (y.den * n ^ sum y.box) (x.den * n ^ sum x.box) (x.den * n ^ sum x.box) (y.den * n ^ sum y.box) (x.den * y.den * n ^ sum (added x.box y.box)) _ _ _ _
      (dens-left n x.den y.den (sum x.box) (sum y.box) (sum (added x.box y.box)) s)
      (let e : (x.den * n ^ sum x.box) * (y.den * n ^ sum y.box) ≡ (y.den * n ^ sum y.box) * (x.den * n ^ sum x.box) = omega arith in e ∙ dens-left n x.den y.den (sum x.box) (sum y.box) (sum (added x.box y.box)) s)
      (x.replaced m e) (y.replaced m e)));
}

neg-times : (a b : ℕ) → neg_ℤ (pos a) *ℤ pos b ≡ neg_ℤ (pos (a * b))
neg-times zero b = zero-*ℤ (pos b) ∙ ap (λ (n : ℕ). neg_ℤ (pos n)) (let z : 0 ≡ 0 * b = omega arith in z)
neg-times (suc a) zero = *ℤ-zero (neg_ℤ (pos (suc a))) ∙ ap (λ (n : ℕ). neg_ℤ (pos n)) (let z : 0 ≡ suc a * 0 = omega arith in z)
neg-times (suc a) (suc b) = refl

pub stands-difference : (z : ℕ → Powers → ℤ) (n : ℕ) (g h g' h' : Coefficients) → 0 < n → Stands z n g h → Stands z n g' h' → Stands z n (λ m. difference (g m) (g' m)) (λ m. difference (h m) (h' m))
stands-difference z n g h g' h' np x y = record {
  box = added x.box y.box;
  den = x.den * y.den;
  f = λ a. pos y.den *ℤ x.f a +ℤ neg_ℤ (pos x.den) *ℤ y.f a;
  size = added-length x.box y.box (x.size ∙ sym y.size) ∙ x.size;
  positive = mul-pos x.positive y.positive;
  within = in-two x.box y.box (pos y.den) (neg_ℤ (pos x.den)) x.f y.f (x.size ∙ sym y.size) x.within y.within;
  own = λ m.
      IsTimes-same (x.den * y.den) _ _ _ (two-whole (pos y.den) (neg_ℤ (pos x.den)) (x.f m) (y.f m))
      (IsTimes-difference y.den x.den x.den y.den (x.den * y.den) _ _ _ _ (let e : y.den * x.den ≡ x.den * y.den = omega arith in e) refl (x.own m) (y.own m));
  replaced = λ m e.
      let l : length x.box ≡ length y.box = x.size ∙ sym y.size in
      let s = added-sum x.box y.box l in
      subst (λ (v : ℤ). IsTimes (x.den * y.den * n ^ sum (added x.box y.box)) (whole v) (difference (h m) (h' m)))
      (sym (spread-two z n x.box y.box (pos y.den) (neg_ℤ (pos x.den)) x.f y.f m l x.within y.within ∙ ap (λ (v : ℤ). (pos y.den *ℤ pos (n ^ sum y.box)) *ℤ spread z n x.box x.f m +ℤ v *ℤ spread z n y.box y.f m) (neg-times x.den (n ^ sum x.box))))
      (IsTimes-same (x.den * y.den * n ^ sum (added x.box y.box)) _ _ _ (two-whole (pos (y.den * n ^ sum y.box)) (neg_ℤ (pos (x.den * n ^ sum x.box))) (spread z n x.box x.f m) (spread z n y.box y.f m))
      (IsTimes-difference (y.den * n ^ sum y.box) (x.den * n ^ sum x.box) (x.den * n ^ sum x.box) (y.den * n ^ sum y.box) (x.den * y.den * n ^ sum (added x.box y.box)) _ _ _ _
      (dens-left n x.den y.den (sum x.box) (sum y.box) (sum (added x.box y.box)) s)
      (let e : (x.den * n ^ sum x.box) * (y.den * n ^ sum y.box) ≡ (y.den * n ^ sum y.box) * (x.den * n ^ sum x.box) = omega arith in e ∙ dens-left n x.den y.den (sum x.box) (sum y.box) (sum (added x.box y.box)) s)
      (x.replaced m e) (y.replaced m e)));
}

-- ---- products and powers

-- the product at one monomial over 32 places
times-on : (d e : ℕ) (f g : Powers → ℤ) (f' g' : Coefficients) (m : Powers) → length m ≡ 32 → ((a : Powers) → length a ≡ 32 → IsTimes d (whole (f a)) (f' a)) → ((b : Powers) → length b ≡ 32 → IsTimes e (whole (g b)) (g' b)) → IsTimes (d * e) (whole (conv f g m)) (times f' g' m)
times-on d e f g f' g' m l h k =
    split_times-on (d * e) m (λ a b. f a *ℤ g b) (λ a b. product (f' a) (g' b))
    (λ a b s. IsTimes-same (d * e) _ _ _ (whole-product (f a) (g b)) (IsTimes-product d e _ _ _ _ (h a (part_length_left m a b s ∙ l)) (k b (part_length_right m a b s ∙ l))))

dens-product : (n d e s t w : ℕ) → w ≡ s + t → (d * n ^ s) * (e * n ^ t) ≡ d * e * n ^ w
dens-product n d e s t w h =
    let p = ap (λ (k : ℕ). n ^ k) h ∙ pow-add n s t in
    shape d e (n ^ s) (n ^ t) ∙ ap (λ (k : ℕ). d * e * k) (sym p)
  where
    shape : (d e a b : ℕ) → (d * a) * (e * b) ≡ d * e * (a * b)
    shape d e a b = omega arith

pub stands-product : (z : ℕ → Powers → ℤ) (n : ℕ) (g h g' h' : Coefficients) → Stands z n g h → Stands z n g' h' → Stands z n (times g g') (times h h')
stands-product z n g h g' h' x y = record {
  box = added x.box y.box;
  den = x.den * y.den;
  f = conv x.f y.f;
  size = added-length x.box y.box (x.size ∙ sym y.size) ∙ x.size;
  positive = mul-pos x.positive y.positive;
  within = in-conv x.box y.box x.f y.f x.within y.within;
  own = IsTimes-conv x.den y.den x.f y.f g g' x.own y.own;
  replaced = λ m e.
      let l : length x.box ≡ length y.box = x.size ∙ sym y.size in
      let s = added-sum x.box y.box l in
      subst (λ (d : ℕ). IsTimes d (whole (spread z n (added x.box y.box) (conv x.f y.f) m)) (times h h' m)) (dens-product n x.den y.den (sum x.box) (sum y.box) (sum (added x.box y.box)) s)
      (subst (λ (v : ℤ). IsTimes ((x.den * n ^ sum x.box) * (y.den * n ^ sum y.box)) (whole v) (times h h' m)) (sym (spread-conv z n x.box y.box x.f y.f x.size y.size x.within y.within m e))
      (times-on (x.den * n ^ sum x.box) (y.den * n ^ sum y.box) (spread z n x.box x.f) (spread z n y.box y.f) h h' m e x.replaced y.replaced));
}
