-- The Lie series as whole multiples.
use Rattle.std.proofs.Common.{◌≡◌, ℕ, zero, suc, ◌*◌, ◌^◌, ◌<◌, Bool, true, false, cond, ◌==◌, replicate, set, sym, ap, subst, arith, ℤ, pos, ◌*ℤ◌, pow-suc}
use Rattle.std.proofs.Math.Nat.{pow-zero}
use Rattle.vp_terms.specs.declared.expr.Places.{Places}
use Rattle.vp_terms.specs.Rational.{Rational, whole, product}
use Rattle.vp_poly.specs.Poly.{Powers}
use Rattle.vp_poly.specs.Coefficient.{Coefficients, times}
use Rattle.vp_poly.specs.Times.{IsTimes}
use Rattle.vp_poly.proofs.ProductValues.{whole-product, product-one}
use Rattle.vp_poly.proofs.TimesLaws.{IsTimes-same, IsTimes-sum, IsTimes-product, IsTimes-only_at, split_sum-times, whole-sum}
use Rattle.vp_flow.specs.Series.{state_degree, factor, sum_below, with_states, lie}
use Rattle.vp_flow.specs.Whole.{total, conv, state_place, zfactor, zstates, zlie}

none_times : (d : ℕ) → pos 0 *ℤ pos (1 * 1) ≡ (pos d *ℤ pos 0) *ℤ pos 1
none_times d = let e : 0 ≡ d * 0 * 1 = omega arith in ap pos e

pub IsTimes-none : (d : ℕ) → IsTimes d (whole (pos 0)) (whole (pos 0))
IsTimes-none d = record { same = record { crossed = none_times d } }

pub IsTimes-below : (d n : ℕ) (f : ℕ → ℤ) (q : ℕ → Rational) → ((j : ℕ) → j < n → IsTimes d (whole (f j)) (q j)) → IsTimes d (whole (total n f)) (sum_below n q)
IsTimes-below d zero f q h = IsTimes-none d
IsTimes-below d (suc n) f q h =
    IsTimes-same d _ _ _ (whole-sum (total n f) (f n)) (IsTimes-sum d _ _ _ _ (IsTimes-below d n f q (λ j lt. h j (omega arith))) (h n (omega arith)))

pub IsTimes-cond : (d : ℕ) (v : Bool) (z : ℤ) (q : Rational) → IsTimes d (whole z) q → IsTimes d (whole (cond v z (pos 0))) (cond v q (whole (pos 0)))
IsTimes-cond d true z q h = h
IsTimes-cond d false z q h = IsTimes-none d

pub IsTimes-factor : (p : Places) (j d : ℕ) (f : Powers → ℤ) (g : Coefficients) → ((m : Powers) → IsTimes d (whole (f m)) (g m)) → (m : Powers) → IsTimes d (whole (zfactor p j f m)) (factor p j g m)
IsTimes-factor p j d f g h m = IsTimes-cond d (state_degree p m == 0) (f (set m (state_place p j) 1)) (g (set m (state_place p j) 1)) (h (set m (state_place p j) 1))

pub IsTimes-conv : (d e : ℕ) (f g : Powers → ℤ) (f' g' : Coefficients) → ((m : Powers) → IsTimes d (whole (f m)) (f' m)) → ((m : Powers) → IsTimes e (whole (g m)) (g' m)) → (m : Powers) → IsTimes (d * e) (whole (conv f g m)) (times f' g' m)
IsTimes-conv d e f g f' g' h k m =
    split_sum-times (d * e) m (λ a b. f a *ℤ g b) (λ a b. product (f' a) (g' b))
    (λ a b. IsTimes-same (d * e) _ _ _ (whole-product (f a) (g b)) (IsTimes-product d e _ _ _ _ (h a) (k b)))

pub IsTimes-states : (p : Places) (d e : ℕ) (f : Powers → ℤ) (g : ℕ → Powers → ℤ) (f' : Coefficients) (g' : ℕ → Coefficients) → ((m : Powers) → IsTimes d (whole (f m)) (f' m)) → ((j : ℕ) → j < p.states → (m : Powers) → IsTimes e (whole (g j m)) (g' j m)) → (m : Powers) → IsTimes (d * e) (whole (zstates p g f m)) (with_states p g' f' m)
IsTimes-states p d e f g f' g' h k m =
    IsTimes-below (d * e) p.states (λ j. conv (zfactor p j f) (g j) m) (λ j. times (factor p j f') (g' j) m)
    (λ j lt. IsTimes-conv d e (zfactor p j f) (g j) (factor p j f') (g' j) (IsTimes-factor p j d f f' h) (k j lt) m)

one_times : (d : ℕ) → d ≡ 1 → IsTimes d (whole (pos 1)) (whole (pos 1))
one_times d e = subst (λ (n : ℕ). IsTimes n (whole (pos 1)) (whole (pos 1))) (sym e) (record { same = product-one (whole (pos 1)) })

-- E^k times the k-th of the Lie series is the whole one
pub IsTimes-lie : (p : Places) (e : ℕ) (r : ℕ → Powers → ℤ) (rates : ℕ → Coefficients) → ((j : ℕ) → j < p.states → (m : Powers) → IsTimes e (whole (r j m)) (rates j m)) → (k i : ℕ) (m : Powers) → IsTimes (e ^ k) (whole (zlie p r i k m)) (lie p rates i k m)
IsTimes-lie p e r rates h zero i m =
    IsTimes-only_at (e ^ 0) (set (replicate 32 0) (state_place p i) 1) m (pos 1) (whole (pos 1)) (one_times (e ^ 0) (pow-zero e))
IsTimes-lie p e r rates h (suc k) i m =
    subst (λ (d : ℕ). IsTimes d (whole (zlie p r i (suc k) m)) (lie p rates i (suc k) m)) (sym (pow-suc e k))
    (IsTimes-states p (e ^ k) e (zlie p r i k) r (lie p rates i k) rates (λ n. IsTimes-lie p e r rates h k i n) h m)
