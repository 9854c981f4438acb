-- The flow is the state at `tau` = 0, and its derivative by `tau` is the right side with each state substituted by its flow.
use Rattle.std.proofs.Common.{◌≡◌, ◌≢◌, ℕ, zero, suc, ◌+◌, ◌-◌, ◌*◌, ◌^◌, ◌≤◌, ◌<◌, Bool, true, false, cond, ◌==◌, leb, List, [], ◌∷◌, length, set, get_or, refl, sym, ap, ◌∙◌, subst, arith, ℤ, pos, ◌+ℤ◌, ◌*ℤ◌, pow-suc, mul-pos, mul_assoc}
use Rattle.std.proofs.Math.Nat.{pow-zero}
use Rattle.std.proofs.Math.Seq.{get_or-set_same, set-set}
use Rattle.std.proofs.lemmas.List.{length-set}
use Rattle.std.proofs.lemmas.Int.{ints}
use Rattle.std.proofs.lemmas.Bool.{eq-eqb, eqb-true, eqb-false, leb-true, leb-false}
use Rattle.vp_terms.specs.declared.expr.Places.{Places}
use Rattle.vp_terms.specs.declared.expr.Var.TheVariants.{State}
use Rattle.vp_terms.specs.Rational.{Rational, whole, sum, product, Equals}
use Rattle.vp_terms.proofs.Gaps.{gap-of, gap-same, gaps}
use Rattle.vp_terms.proofs.RationalLaws.{chain, cancel, Equals-refl, Equals-sym, Equals-sum, Equals-product, sum-zero, sum-comm}
use Rattle.vp_poly.specs.Poly.{Powers, only_at}
use Rattle.vp_poly.specs.Product.{sum_to, over_splits, split_sum}
use Rattle.vp_poly.specs.Coefficient.{Coefficients, times}
use Rattle.vp_poly.specs.Canonical.{variables}
use Rattle.vp_poly.specs.Times.{IsTimes}
use Rattle.vp_poly.proofs.SplitLaws.{int_sum}
use Rattle.vp_poly.proofs.ProductValues.{whole-product, product-assoc, zero-product}
use Rattle.vp_poly.proofs.TimesLaws.{IsTimes-same, IsTimes-sum, IsTimes-product, IsTimes-only_at, whole-sum}
use Rattle.vp_flow.specs.Series.{state_degree, tau_place, tau_powers, tau_power, factor, factorial, factorial_positive, stateless, with_states, lie, flow_of, by_tau, at_start, substituted}
use Rattle.vp_flow.specs.Whole.{conv, zfactor, zstates, zlie}
use Rattle.vp_flow.proofs.Sums.{test_off}
use Rattle.vp_flow.proofs.Convolution.{AreParts}
use Rattle.vp_flow.proofs.Lie.{cond_none, left_none, times_one, zlie-first, zlie-next}
use Rattle.vp_flow.proofs.Bridge.{IsTimes-none, IsTimes-below, IsTimes-cond, IsTimes-factor, IsTimes-conv, IsTimes-lie}
use Rattle.vp_flow.proofs.Tau.{AreTimeless, part_exponent, set_own, zlie-no_tau, conv-power, conv-late, zfactor-no_tau}
use Rattle.vp_flow.proofs.Linear.{zstateless, decomposed}

-- ---- whole multiples

uncrossed : (n m : ℤ) (d i j : ℕ) → (pos d *ℤ n) *ℤ pos (1 * j) ≡ (n *ℤ pos j) *ℤ pos d
uncrossed n m d i j = rw (gap-of n) (simp gaps (gap-same _ _ _ _ (omega arith)))

product_cancel : (d : ℕ) (q r : Rational) → 0 < d → Equals (product (whole (pos d)) q) (product (whole (pos d)) r) → Equals q r
product_cancel d q r h e = record {
  crossed = cancel (q.num *ℤ pos r.den) (r.num *ℤ pos q.den) d h (sym (uncrossed q.num r.num d q.den r.den) ∙ e.crossed ∙ uncrossed r.num q.num d r.den q.den);
}

-- numbers with one multiple are equal
pub IsTimes-equal : (d : ℕ) (v q r : Rational) → 0 < d → IsTimes d v q → IsTimes d v r → Equals q r
IsTimes-equal d v q r h a b = product_cancel d q r h (chain (Equals-sym _ _ a.same) b.same)

pub IsTimes-zero : (d : ℕ) (z : ℤ) (q : Rational) → 0 < d → z ≡ pos 0 → IsTimes d (whole z) q → Equals q (whole (pos 0))
IsTimes-zero d z q h e a = IsTimes-equal d (whole (pos 0)) q (whole (pos 0)) h (subst (λ (w : ℤ). IsTimes d (whole w) q) e a) (IsTimes-none d)

pub IsTimes-of_zero : (d : ℕ) (z : ℤ) (q : Rational) → z ≡ pos 0 → Equals q (whole (pos 0)) → IsTimes d (whole z) q
IsTimes-of_zero d z q e h =
    subst (λ (w : ℤ). IsTimes d (whole w) q) (sym e)
    (record { same = chain (IsTimes-none d).same (Equals-product _ _ _ _ (Equals-refl (whole (pos d))) (Equals-sym _ _ h)) })

pub IsTimes-moved : (d k : ℕ) (v q : Rational) → IsTimes (d * k) v q → IsTimes d v (product (whole (pos k)) q)
IsTimes-moved d k v q h = record {
  same =
      chain h.same
      (chain (Equals-product _ _ _ _ (whole-product (pos d) (pos k)) (Equals-refl q)) (product-assoc (whole (pos d)) (whole (pos k)) q));
}

abbrev pub over : ℕ → Rational
over k = record { num = pos 1; den = factorial k; positive = factorial_positive k }

over_part : (n : ℕ) → pos 1 *ℤ pos (1 * n) ≡ (pos n *ℤ pos 1) *ℤ pos 1
over_part n = let e : 1 * (1 * n) ≡ n * 1 * 1 = omega arith in ap pos e

pub IsTimes-over : (k : ℕ) → IsTimes (factorial k) (whole (pos 1)) (over k)
IsTimes-over k = record { same = record { crossed = over_part (factorial k) } }

-- ---- sums

sum_to-zero : (n : ℕ) (q : ℕ → Rational) → ((k : ℕ) → k ≤ n → Equals (q k) (whole (pos 0))) → Equals (sum_to sum n q) (whole (pos 0))
sum_to-zero zero q h = h 0 (omega arith)
sum_to-zero (suc n) q h = chain (Equals-sum _ _ _ _ (sum_to-zero n q (λ k le. h k (omega arith))) (h (suc n) (omega arith))) (Equals-sym _ _ (sum-zero (whole (pos 0))))

sum_to-single : (n c : ℕ) (q : ℕ → Rational) → c ≤ n → ((k : ℕ) → k ≤ n → k ≢ c → Equals (q k) (whole (pos 0))) → Equals (sum_to sum n q) (q c)
sum_to-single zero c q le h = let e : 0 ≡ c = omega arith in subst (λ (k : ℕ). Equals (q 0) (q k)) e (Equals-refl (q 0))
sum_to-single (suc n) c q le h = case (c == suc n) refl (λ less. sum_to-single n c q less (λ k k_le ne. h k (omega arith) ne))
  where
    case : (v : Bool) → (c == suc n) ≡ v → (c ≤ n → Equals (sum_to sum n q) (q c)) → Equals (sum (sum_to sum n q) (q (suc n))) (q c)
    case true t more =
        let e : c ≡ suc n = eqb-true c (suc n) t in
        let rest = sum_to-zero n q (λ k k_le. h k (omega arith) (omega arith)) in
        subst (λ (k : ℕ). Equals (sum (sum_to sum n q) (q (suc n))) (q k)) (sym e)
        (chain (Equals-sum _ _ _ _ rest (Equals-refl (q (suc n)))) (chain (sum-comm (whole (pos 0)) (q (suc n))) (Equals-sym _ _ (sum-zero (q (suc n))))))
    case false t more =
        let ne : c ≢ suc n = eqb-false c (suc n) t in
        chain (Equals-sum _ _ _ _ (more (omega arith)) (h (suc n) (omega arith) (omega arith))) (Equals-sym _ _ (sum-zero (q c)))

int_times-within : (d n : ℕ) (f : ℕ → ℤ) (g : ℕ → Rational) → ((i : ℕ) → i ≤ n → IsTimes d (whole (f i)) (g i)) → IsTimes d (whole (int_sum n f)) (sum_to sum n g)
int_times-within d zero f g h = h 0 (omega arith)
int_times-within d (suc n) f g h =
    IsTimes-same d _ _ _ (whole-sum (int_sum n f) (f (suc n))) (IsTimes-sum d _ _ _ _ (int_times-within d n f g (λ i le. h i (omega arith))) (h (suc n) (omega arith)))

pub split_times-on : (d : ℕ) (m : Powers) (f : Powers → Powers → ℤ) (g : Powers → Powers → Rational) → ((a b : Powers) → AreParts m a b → IsTimes d (whole (f a b)) (g a b)) → IsTimes d (whole (split_sum m f)) (over_splits sum m g)
split_times-on d [] f g h = h [] [] tt
split_times-on d (e ∷ es) f g h =
    int_times-within d e (λ i. split_sum es (λ a b. f (i ∷ a) ((e - i) ∷ b))) (λ i. over_splits sum es (λ a b. g (i ∷ a) ((e - i) ∷ b)))
    (λ i le. split_times-on d es (λ a b. f (i ∷ a) ((e - i) ∷ b)) (λ a b. g (i ∷ a) ((e - i) ∷ b)) (λ a b s. let q : i + (e - i) ≡ e = omega arith in h (i ∷ a) ((e - i) ∷ b) (q, s)))

pub part_length_right : (m a b : Powers) → AreParts m a b → length b ≡ length m
part_length_right [] [] [] s = refl
part_length_right [] [] (y ∷ b) s = absurd s
part_length_right [] (x ∷ a) b s = absurd s
part_length_right (e ∷ m) [] b s = absurd s
part_length_right (e ∷ m) (x ∷ a) [] s = absurd s
part_length_right (e ∷ m) (x ∷ a) (y ∷ b) s = ap suc (part_length_right m a b s.1)

-- ---- the flow

-- right sides r, which are e times the rates, and the heights h
pub record AreRates (p : Places) (e : ℕ) (r : ℕ → Powers → ℤ) (rates : ℕ → Coefficients) (h : ℕ → ℕ) : Type 0 where
  pub positive : 0 < e
  pub multiples : (j : ℕ) → j < p.states → (m : Powers) → IsTimes e (whole (r j m)) (rates j m)
  pub timeless : AreTimeless p r
  pub linear : (j : ℕ) (a : Powers) → 2 ≤ state_degree p a → r j a ≡ pos 0
  pub beyond : (j k : ℕ) → j < p.states → h j < k → (m : Powers) → zlie p r j k m ≡ pos 0

pub pow_positive : (e k : ℕ) → 0 < e → 0 < e ^ k
pow_positive e zero h = omega (arith, pow-zero e)
pow_positive e (suc k) h = rw (pow-suc e k) (mul-pos (pow_positive e k h) h)

den_positive : (e k : ℕ) → 0 < e → 0 < e ^ k * factorial k
den_positive e k h = mul-pos (pow_positive e k h) (factorial_positive k)

-- the summand k has tau^k alone
summand : (p : Places) (e : ℕ) (r : ℕ → Powers → ℤ) (rates : ℕ → Coefficients) (h : ℕ → ℕ) → AreRates p e r rates h → (i k : ℕ) → i < p.states → (m : Powers) → length m ≡ 32 → IsTimes (e ^ k * factorial k) (whole (cond (get_or m (tau_place p) 0 == k) (zlie p r i k (set m (tau_place p) 0) *ℤ pos 1) (pos 0))) (times (lie p rates i k) (tau_power p k) m)
summand p e r rates h x i k lt m len =
    subst (λ (z : ℤ). IsTimes (e ^ k * factorial k) (whole z) (times (lie p rates i k) (tau_power p k) m))
    (conv-power m 32 (tau_place p) k (zlie p r i k) (pos 1) len x.timeless.places (zlie-no_tau p r k i x.timeless lt))
    (IsTimes-conv (e ^ k) (factorial k) (zlie p r i k) (λ b. only_at (tau_powers p k) b (pos 1)) (lie p rates i k) (tau_power p k) (IsTimes-lie p e r rates x.multiples k i)
    (λ b. IsTimes-only_at (factorial k) (tau_powers p k) b (pos 1) (over k) (IsTimes-over k)) m)

summand-on : (p : Places) (e : ℕ) (r : ℕ → Powers → ℤ) (rates : ℕ → Coefficients) (h : ℕ → ℕ) → AreRates p e r rates h → (i k : ℕ) → i < p.states → (m : Powers) → length m ≡ 32 → get_or m (tau_place p) 0 ≡ k → IsTimes (e ^ k * factorial k) (whole (zlie p r i k (set m (tau_place p) 0))) (times (lie p rates i k) (tau_power p k) m)
summand-on p e r rates h x i k lt m len c =
    subst (λ (z : ℤ). IsTimes (e ^ k * factorial k) (whole z) (times (lie p rates i k) (tau_power p k) m))
    (ap (λ (v : Bool). cond v (zlie p r i k (set m (tau_place p) 0) *ℤ pos 1) (pos 0)) (eq-eqb (get_or m (tau_place p) 0) k c) ∙ times_one (zlie p r i k (set m (tau_place p) 0)))
    (summand p e r rates h x i k lt m len)

summand-off : (p : Places) (e : ℕ) (r : ℕ → Powers → ℤ) (rates : ℕ → Coefficients) (h : ℕ → ℕ) → AreRates p e r rates h → (i k : ℕ) → i < p.states → (m : Powers) → length m ≡ 32 → get_or m (tau_place p) 0 ≢ k → Equals (times (lie p rates i k) (tau_power p k) m) (whole (pos 0))
summand-off p e r rates h x i k lt m len c =
    IsTimes-zero (e ^ k * factorial k) (cond (get_or m (tau_place p) 0 == k) (zlie p r i k (set m (tau_place p) 0) *ℤ pos 1) (pos 0)) (times (lie p rates i k) (tau_power p k) m) (den_positive e k x.positive)
    (ap (λ (v : Bool). cond v (zlie p r i k (set m (tau_place p) 0) *ℤ pos 1) (pos 0)) (test_off (get_or m (tau_place p) 0) k c))
    (summand p e r rates h x i k lt m len)

-- the coefficient of the flow at a monomial with tau^c
pub flow_at : (p : Places) (e : ℕ) (r : ℕ → Powers → ℤ) (rates : ℕ → Coefficients) (h : ℕ → ℕ) → AreRates p e r rates h → (i c : ℕ) → i < p.states → (m : Powers) → length m ≡ 32 → get_or m (tau_place p) 0 ≡ c → IsTimes (e ^ c * factorial c) (whole (zlie p r i c (set m (tau_place p) 0))) (flow_of p rates i (h i) m)
flow_at p e r rates h x i c lt m len at = case (leb c (h i)) refl
  where
    case : (v : Bool) → leb c (h i) ≡ v → IsTimes (e ^ c * factorial c) (whole (zlie p r i c (set m (tau_place p) 0))) (flow_of p rates i (h i) m)
    case true t =
        let le : c ≤ h i = leb-true c (h i) t in
        let s = sum_to-single (h i) c (λ k. times (lie p rates i k) (tau_power p k) m) le (λ k k_le ne. summand-off p e r rates h x i k lt m len (λ q. ne (sym q ∙ at))) in
        let on = summand-on p e r rates h x i c lt m len at in
        record { same = chain on.same (Equals-product _ _ _ _ (Equals-refl (whole (pos (e ^ c * factorial c)))) (Equals-sym _ _ s)) }
    case false t =
        let gt : h i < c = leb-false c (h i) t in
        let s = sum_to-zero (h i) (λ k. times (lie p rates i k) (tau_power p k) m) (λ k k_le. summand-off p e r rates h x i k lt m len (λ q. absurd (omega (arith, q, at)))) in
        IsTimes-of_zero (e ^ c * factorial c) (zlie p r i c (set m (tau_place p) 0)) (flow_of p rates i (h i) m) (x.beyond i c lt gt (set m (tau_place p) 0)) s

-- at `tau` = 0 the flow is the state
pub flow-start : (p : Places) (e : ℕ) (r : ℕ → Powers → ℤ) (rates : ℕ → Coefficients) (h : ℕ → ℕ) → AreRates p e r rates h → (i : ℕ) → i < p.states → (m : Powers) → length m ≡ 32 → Equals (at_start p (flow_of p rates i (h i)) m) (variables p (State i) m)
flow-start p e r rates h x i lt m len = case (get_or m (tau_place p) 0 == 0) refl
  where
    state : IsTimes (e ^ 0) (whole (zlie p r i 0 m)) (variables p (State i) m)
    state = IsTimes-lie p e r rates x.multiples 0 i m

    case : (v : Bool) → (get_or m (tau_place p) 0 == 0) ≡ v → Equals (cond v (flow_of p rates i (h i) m) (whole (pos 0))) (variables p (State i) m)
    case true t =
        let z : get_or m (tau_place p) 0 ≡ 0 = eqb-true (get_or m (tau_place p) 0) 0 t in
        let f = flow_at p e r rates h x i 0 lt m len z in
        let f' = subst (λ (n : List ℕ). IsTimes (e ^ 0 * 1) (whole (zlie p r i 0 n)) (flow_of p rates i (h i) m)) (set_own m (tau_place p) 0 z) f in
        let s' = subst (λ (d : ℕ). IsTimes d (whole (zlie p r i 0 m)) (variables p (State i) m)) (let one : e ^ 0 ≡ e ^ 0 * 1 = omega arith in one) state in
        IsTimes-equal (e ^ 0 * 1) (whole (zlie p r i 0 m)) (flow_of p rates i (h i) m) (variables p (State i) m) (den_positive e 0 x.positive) f' s'
    case false t =
        let ne = eqb-false (get_or m (tau_place p) 0) 0 t in
        Equals-sym _ _ (IsTimes-zero (e ^ 0) (zlie p r i 0 m) (variables p (State i) m) (pow_positive e 0 x.positive) (zlie-no_tau p r 0 i x.timeless lt m ne) state)

zero_plus : (z : ℤ) → pos 0 +ℤ z ≡ z
zero_plus z = omega (arith, ints)

-- ---- the derivative

-- with the other states' flows in their places
replaced_part : (p : Places) (e : ℕ) (r : ℕ → Powers → ℤ) (rates : ℕ → Coefficients) (h : ℕ → ℕ) → AreRates p e r rates h → (i j c : ℕ) → i < p.states → j < p.states → (m : Powers) → length m ≡ 32 → get_or m (tau_place p) 0 ≡ c → IsTimes (e * (e ^ c * factorial c)) (whole (conv (zfactor p j (r i)) (zlie p r j c) (set m (tau_place p) 0))) (times (factor p j (rates i)) (flow_of p rates j (h j)) m)
replaced_part p e r rates h x i j c lt j_lt m len at =
    subst (λ (z : ℤ). IsTimes (e * (e ^ c * factorial c)) (whole z) (times (factor p j (rates i)) (flow_of p rates j (h j)) m))
    (conv-late (tau_place p) (zfactor p j (r i)) (zlie p r j c) m none)
    (split_times-on (e * (e ^ c * factorial c)) m (λ a b. zfactor p j (r i) a *ℤ zlie p r j c (set b (tau_place p) 0)) (λ a b. product (factor p j (rates i) a) (flow_of p rates j (h j) b))
    (λ a b s. each a b s (get_or a (tau_place p) 0 == 0) refl))
  where
    none : (a : Powers) → get_or a (tau_place p) 0 ≢ 0 → zfactor p j (r i) a ≡ pos 0
    none a ne = zfactor-no_tau p j (r i) j_lt x.timeless.later (x.timeless.no_tau i) a ne

    left : (a : Powers) → IsTimes e (whole (zfactor p j (r i) a)) (factor p j (rates i) a)
    left a = IsTimes-factor p j e (r i) (rates i) (x.multiples i lt) a

    each : (a b : Powers) → AreParts m a b → (v : Bool) → (get_or a (tau_place p) 0 == 0) ≡ v → IsTimes (e * (e ^ c * factorial c)) (whole (zfactor p j (r i) a *ℤ zlie p r j c (set b (tau_place p) 0))) (product (factor p j (rates i) a) (flow_of p rates j (h j) b))
    each a b s true t =
        let z = eqb-true (get_or a (tau_place p) 0) 0 t in
        let q = part_exponent m a b (tau_place p) s in
        let here : get_or b (tau_place p) 0 ≡ c = omega (arith, at) in
        IsTimes-same (e * (e ^ c * factorial c)) _ _ _ (whole-product (zfactor p j (r i) a) (zlie p r j c (set b (tau_place p) 0)))
        (IsTimes-product e (e ^ c * factorial c) _ _ _ _ (left a) (flow_at p e r rates h x j c j_lt b (part_length_right m a b s ∙ len) here))
    each a b s false t =
        let ne = eqb-false (get_or a (tau_place p) 0) 0 t in
        let zero = IsTimes-zero e (zfactor p j (r i) a) (factor p j (rates i) a) x.positive (none a ne) (left a) in
        IsTimes-of_zero (e * (e ^ c * factorial c)) (zfactor p j (r i) a *ℤ zlie p r j c (set b (tau_place p) 0)) (product (factor p j (rates i) a) (flow_of p rates j (h j) b))
        (left_none (zfactor p j (r i) a) (zlie p r j c (set b (tau_place p) 0)) (none a ne))
        (chain (Equals-product _ _ _ _ zero (Equals-refl (flow_of p rates j (h j) b))) (zero-product (flow_of p rates j (h j) b)))

-- the whole right side
right_part : (p : Places) (e : ℕ) (r : ℕ → Powers → ℤ) (rates : ℕ → Coefficients) (h : ℕ → ℕ) → AreRates p e r rates h → (i c : ℕ) → i < p.states → (m : Powers) → length m ≡ 32 → get_or m (tau_place p) 0 ≡ c → IsTimes (e * (e ^ c * factorial c)) (whole (zlie p r i (suc c) (set m (tau_place p) 0))) (substituted p (λ j. flow_of p rates j (h j)) (rates i) m)
right_part p e r rates h x i c lt m len at = case c at
  where
    states : (c : ℕ) → get_or m (tau_place p) 0 ≡ c → IsTimes (e * (e ^ c * factorial c)) (whole (zstates p (λ j. zlie p r j c) (r i) (set m (tau_place p) 0))) (with_states p (λ j. flow_of p rates j (h j)) (rates i) m)
    states c at =
        IsTimes-below (e * (e ^ c * factorial c)) p.states (λ j. conv (zfactor p j (r i)) (zlie p r j c) (set m (tau_place p) 0)) (λ j. times (factor p j (rates i)) (flow_of p rates j (h j)) m)
        (λ j j_lt. replaced_part p e r rates h x i j c lt j_lt m len at)

    own : IsTimes e (whole (zstateless p (r i) m)) (stateless p (rates i) m)
    own = IsTimes-cond e (state_degree p m == 0) (r i m) (rates i m) (x.multiples i lt m)

    case : (c : ℕ) → get_or m (tau_place p) 0 ≡ c → IsTimes (e * (e ^ c * factorial c)) (whole (zlie p r i (suc c) (set m (tau_place p) 0))) (substituted p (λ j. flow_of p rates j (h j)) (rates i) m)
    case zero at =
        let one : e ≡ e * (e ^ 0 * 1) = omega (arith, pow-zero e, ap (λ (w : ℕ). e * (w * 1)) (pow-zero e)) in
        let same = set_own m (tau_place p) 0 at in
        let first = subst (λ (d : ℕ). IsTimes d (whole (zstateless p (r i) m)) (stateless p (rates i) m)) one own in
        let rest = subst (λ (n : List ℕ). IsTimes (e * (e ^ 0 * 1)) (whole (zstates p (λ j. zlie p r j 0) (r i) n)) (with_states p (λ j. flow_of p rates j (h j)) (rates i) m)) same (states 0 at) in
        let whole_value : zstateless p (r i) m +ℤ zstates p (λ j. zlie p r j 0) (r i) m ≡ zlie p r i 1 (set m (tau_place p) 0) =
        decomposed p r (r i) m x.timeless.right.few len (x.linear i) ∙ sym (zlie-first p r i x.timeless.right lt m) ∙ ap (zlie p r i 1) (sym same) in
        subst (λ (z : ℤ). IsTimes (e * (e ^ 0 * 1)) (whole z) (substituted p (λ j. flow_of p rates j (h j)) (rates i) m)) whole_value
        (IsTimes-same (e * (e ^ 0 * 1)) _ _ _ (whole-sum (zstateless p (r i) m) (zstates p (λ j. zlie p r j 0) (r i) m)) (IsTimes-sum (e * (e ^ 0 * 1)) _ _ _ _ first rest))
    case (suc c) at =
        let ne : get_or m (tau_place p) 0 ≢ 0 = λ q. absurd (omega (arith, q, at)) in
        let gone : zstateless p (r i) m ≡ pos 0 = cond_none (state_degree p m == 0) (r i m) (x.timeless.no_tau i m ne) in
        let first = IsTimes-of_zero (e * (e ^ suc c * factorial (suc c))) (pos 0) (stateless p (rates i) m) refl (IsTimes-zero e (zstateless p (r i) m) (stateless p (rates i) m) x.positive gone own) in
        let value : pos 0 +ℤ zstates p (λ j. zlie p r j (suc c)) (r i) (set m (tau_place p) 0) ≡ zlie p r i (suc (suc c)) (set m (tau_place p) 0) =
        zero_plus (zstates p (λ j. zlie p r j (suc c)) (r i) (set m (tau_place p) 0)) ∙ sym (zlie-next p r c i x.timeless.right lt (set m (tau_place p) 0)) in
        subst (λ (z : ℤ). IsTimes (e * (e ^ suc c * factorial (suc c))) (whole z) (substituted p (λ j. flow_of p rates j (h j)) (rates i) m)) value
        (IsTimes-same (e * (e ^ suc c * factorial (suc c))) _ _ _ (whole-sum (pos 0) (zstates p (λ j. zlie p r j (suc c)) (r i) (set m (tau_place p) 0)))
        (IsTimes-sum (e * (e ^ suc c * factorial (suc c))) _ _ _ _ first (states (suc c) at)))

dens : (e c n : ℕ) → e ^ suc c * (suc c * n) ≡ e * (e ^ c * n) * suc c
dens e c n = omega (arith, ap (λ (w : ℕ). w * (suc c * n)) (pow-suc e c), mul_assoc (e ^ c) e (suc c * n))

-- the derivative of the flow by `tau` is the right side with each state substituted by its flow
pub flow-derivative : (p : Places) (e : ℕ) (r : ℕ → Powers → ℤ) (rates : ℕ → Coefficients) (h : ℕ → ℕ) → AreRates p e r rates h → (i : ℕ) → i < p.states → (m : Powers) → length m ≡ 32 → Equals (by_tau p (flow_of p rates i (h i)) m) (substituted p (λ j. flow_of p rates j (h j)) (rates i) m)
flow-derivative p e r rates h x i lt m len =
    let c = get_or m (tau_place p) 0 in
    let raised = set m (tau_place p) (suc c) in
    let places = x.timeless.places in
    let at : get_or raised (tau_place p) 0 ≡ suc c = get_or-set_same m (tau_place p) (suc c) 0 (omega (arith, len)) in
    let size : length raised ≡ 32 = length-set m (tau_place p) (suc c) ∙ len in
    let f = flow_at p e r rates h x i (suc c) lt raised size at in
    let f' = subst (λ (n : List ℕ). IsTimes (e ^ suc c * factorial (suc c)) (whole (zlie p r i (suc c) n)) (flow_of p rates i (h i) raised)) (set-set m (tau_place p) (suc c) 0) f in
    let f'' = subst (λ (d : ℕ). IsTimes d (whole (zlie p r i (suc c) (set m (tau_place p) 0))) (flow_of p rates i (h i) raised)) (dens e c (factorial c)) f' in
    let left = IsTimes-moved (e * (e ^ c * factorial c)) (suc c) (whole (zlie p r i (suc c) (set m (tau_place p) 0))) (flow_of p rates i (h i) raised) f'' in
    IsTimes-equal (e * (e ^ c * factorial c)) (whole (zlie p r i (suc c) (set m (tau_place p) 0))) (by_tau p (flow_of p rates i (h i)) m) (substituted p (λ j. flow_of p rates j (h j)) (rates i) m)
    (mul-pos x.positive (den_positive e c x.positive)) left (right_part p e r rates h x i c lt m len refl)
