-- Variables that stand for themselves.
use Rattle.std.proofs.Common.{◌≡◌, ◌≢◌, ℕ, zero, suc, ◌+◌, ◌<◌, ◌≤◌, List, [], ◌∷◌, ◌++◌, map, sum, replicate, set, slice_get, slice_set, IfSome, IsTrue, Bool, refl, sym, ap, ◌∙◌, subst, arith, ℤ, pos, ◌+ℤ◌}
use Rattle.std.specs.List.{range_with_len, All}
use Rattle.std.proofs.lemmas.Int.{ints}
use Rattle.std.proofs.lemmas.List.{length-map, get_or-set_other}
use Rattle.std.proofs.lemmas.List.Elements.{All-cons}
use Rattle.std.proofs.lemmas.List.FromFn.{length-range_with_len, map-range_with_len_more}
use Rattle.vp_terms.specs.Meaning.{Assignment}
use Rattle.vp_terms.specs.Places.{place}
use Rattle.vp_terms.specs.declared.expr.Var.{Var}
use Rattle.vp_terms.specs.Rational.{Rational, whole, product, Equals}
use Rattle.vp_terms.proofs.RationalLaws.{chain, Equals-sym, Equals-product, sum-zero}
use Rattle.vp_terms.specs.declared.expr.Places.{Places}
use Rattle.vp_poly.specs.declared.scaled.Scaled.{Scaled}
use Rattle.vp_poly.specs.Poly.{only_at}
use Rattle.vp_poly.specs.Places.{IsBelow, HasOnly, HaveOnly}
use Rattle.vp_poly.specs.Points.{IsAt}
use Rattle.vp_poly.specs.Value.{Point, powers_value, value_at}
use Rattle.vp_poly.specs.Coefficient.{fraction_at}
use Rattle.vp_poly.specs.Times.{IsTimes, HasCoefficients}
use Rattle.vp_poly.specs.Canonical.{IsEntry, IsEnvironment, StandsFor, StandsAt, StandsWithin, unit, itself, variables}
use Rattle.vp_poly.proofs.PolyLaws.{norm-cons}
use Rattle.vp_poly.proofs.RowLaws.{sum-cons}
use Rattle.vp_poly.proofs.BelowLaws.{AreBelow-cons, AreBelow-nil, HaveOnly-cons, HaveOnly-nil}
use Rattle.vp_poly.proofs.ProductValues.{product-one, product-comm}
use Rattle.vp_poly.proofs.TimesLaws.{IsTimes-fraction, IsTimes-only_at}
use Rattle.vp_poly.proofs.NumberLaws.{powers_value-none}
use Rattle.vp_poly.proofs.PowerLaws.{get_or-same}

-- one in the place of a zero
abbrev mark : ℕ → ℕ → List ℕ
mark n k = set (replicate n 0) k 1

sum-zeros : (n : ℕ) → sum (replicate n 0) ≡ 0
sum-zeros zero = refl
sum-zeros (suc n) = omega (arith, sum-cons 0 (replicate n 0), sum-zeros n)

sum-mark : (n k : ℕ) → sum (mark n k) ≤ 1
sum-mark zero k = omega arith
sum-mark (suc n) zero = omega (arith, sum-cons 1 (replicate n 0), sum-zeros n)
sum-mark (suc n) (suc k) = omega (arith, sum-cons 0 (mark n k), sum-mark n k)

pub sum-unit : (k : ℕ) → sum (unit k) ≤ 1
sum-unit k = sum-mark 32 k

pub unit-low : (k : ℕ) → sum (slice_set (replicate 32 0) k 1) ≤ 48
unit-low k = omega (arith, sum-mark 32 k)

pub ruleset units = (unit-low)

powers_value-mark : (n k j : ℕ) (x : Point) → k < n → Equals (powers_value j (mark n k) x) (x (j + k))
powers_value-mark zero k j x h = absurd (omega arith)
powers_value-mark (suc n) zero j x h =
    let e : j + 0 ≡ j = omega arith in
    let one = powers_value-none n (suc j) x in
    let here : Equals (product (x j) (whole (pos 1))) (x j) = chain (product-comm (x j) (whole (pos 1))) (Equals-sym _ _ (product-one (x j))) in
    subst (λ (i : ℕ). Equals (product (product (x j) (whole (pos 1))) (powers_value (suc j) (replicate n 0) x)) (x i)) (sym e)
    (chain (Equals-product _ _ _ _ here one) here)
powers_value-mark (suc n) (suc k) j x h =
    let e : suc j + k ≡ j + suc k = omega arith in
    subst (λ (i : ℕ). Equals (product (whole (pos 1)) (powers_value (suc j) (mark n k) x)) (x i)) e
    (chain (Equals-sym _ _ (product-one (powers_value (suc j) (mark n k) x))) (powers_value-mark n k (suc j) x (omega arith)))

pub value_at-itself : (k : ℕ) (x : Point) → k < 32 → Equals (value_at (itself k).poly x) (x k)
value_at-itself k x h =
    let e : 0 + k ≡ k = omega arith in
    let here = subst (λ (i : ℕ). Equals (powers_value 0 (unit k) x) (x i)) e (powers_value-mark 32 k 0 x h) in
    chain (Equals-sym _ _ (sum-zero (product (whole (pos 1)) (powers_value 0 (unit k) x)))) (chain (Equals-sym _ _ (product-one (powers_value 0 (unit k) x))) here)

pub one_times : (v q : Rational) → Equals v q → IsTimes 1 v q
one_times v q e = record { same = chain e (product-one q) }

pub coefficients-itself : (k : ℕ) → HasCoefficients 1 (itself k).poly (λ m. fraction_at (unit k) m (whole (pos 1)))
coefficients-itself k = record {
  each = λ m.
      let e : only_at (unit k) m (pos 1) ≡ only_at (unit k) m (pos 1) +ℤ pos 0 = omega (arith, ints) in
      subst (λ (z : ℤ). IsTimes 1 (whole z) (fraction_at (unit k) m (whole (pos 1)))) e (IsTimes-only_at 1 (unit k) m (pos 1) (whole (pos 1)) (IsTimes-fraction 1 (whole (pos 1)) refl));
}

IsBelow-unit : (n k : ℕ) → k < n → IsBelow n (unit k)
IsBelow-unit n k h = record {
  none = λ j le.
      let apart : j ≢ k = λ e. absurd (omega arith) in
      get_or-set_other (replicate 32 0) k j 1 0 apart ∙ get_or-same 0 32 j;
}

pub IsEntry-itself : (n k : ℕ) → k < n → IsEntry n (itself k)
IsEntry-itself n k h = record {
  places = AreBelow-cons n (record { mono = record { powers = unit k }; coef = pos 1 }) [] (IsBelow-unit n k h) (AreBelow-nil n);
  within = record { norm_le = omega (arith, norm-cons (record { mono = record { powers = unit k }; coef = pos 1 }) []); degree_le = omega (arith, sum-unit k); length_le = omega arith };
}

All-range : (P : ℕ → Type 0) (n a : ℕ) → ((k : ℕ) → a ≤ k → k < a + n → P k) → All P (range_with_len a n)
All-range P zero a h = λ k d lt. absurd (omega arith)
All-range P (suc n) a h = All-cons P a (range_with_len (a + 1) n) (h a (omega arith) (omega arith)) (All-range P n (a + 1) (λ k le lt. h k (omega arith) (omega arith)))

All-map_itself : (n : ℕ) (ks : List ℕ) → All (λ k. k < n) ks → All (IsEntry n) (map itself ks)
All-map_itself n [] h = λ k d lt. absurd (omega arith)
All-map_itself n (k ∷ ks) h = All-cons (IsEntry n) (itself k) (map itself ks) (IsEntry-itself n k (h 0 k (omega arith))) (All-map_itself n ks (λ i d lt. h (suc i) d (omega arith)))

pub IsEnvironment-itself : (n : ℕ) → IsEnvironment n (map itself (range_with_len 0 n))
IsEnvironment-itself n = record {
  size = length-map (range_with_len 0 n) itself ∙ length-range_with_len 0 n;
  entries = All-map_itself n (range_with_len 0 n) (All-range (λ k. k < n) n 0 (λ k le lt. omega arith));
}

-- what stands at place i among n of them, from a on
at_place : (P : Scaled → Type 0) (n a i : ℕ) → (i < n → P (itself (a + i))) → IfSome (slice_get (map itself (range_with_len a n)) i) P
at_place P zero a i h = tt
at_place P (suc n) a zero h = let e : a + 0 ≡ a = omega arith in subst (λ (k : ℕ). P (itself k)) e (h (omega arith))
at_place P (suc n) a (suc i) h =
    let e : a + suc i ≡ a + 1 + i = omega arith in
    at_place P n (a + 1) i (λ lt. subst (λ (k : ℕ). P (itself k)) e (h (omega arith)))

pub StandsFor-itself : (p : Places) (n : ℕ) → StandsFor p (map itself (range_with_len 0 n)) (variables p)
StandsFor-itself p n = record {
  each = λ v g.
      let e : 0 + place p v ≡ place p v = omega arith in
      at_place (λ s. HasCoefficients s.weight.den s.poly (variables p v)) n 0 (place p v) (λ lt.
      subst (λ (k : ℕ). HasCoefficients 1 (itself k).poly (variables p v)) (sym e) (coefficients-itself (place p v)));
}

pub StandsAt-itself : (p : Places) (n : ℕ) (x : Point) (a : Assignment) → n ≤ 32 → IsAt p x a → StandsAt p (map itself (range_with_len 0 n)) x a
StandsAt-itself p n x a le h = record {
  each = λ v g.
      let e : 0 + place p v ≡ place p v = omega arith in
      at_place (λ s. IsTimes s.weight.den (value_at s.poly x) (a v)) n 0 (place p v) (λ lt.
      subst (λ (k : ℕ). IsTimes 1 (value_at (itself k).poly x) (a v)) (sym e) (one_times _ _ (chain (value_at-itself (place p v) x (omega arith)) (h.each v g))));
}

-- the variable at place k has that place alone
HasOnly-unit : (f : ℕ → Bool) (k : ℕ) → IsTrue (f k) → HasOnly f (unit k)
HasOnly-unit f k h = record {
  others = λ j e.
      let apart : j ≢ k = λ s. let t = ap f s in absurd (cc) in
      get_or-set_other (replicate 32 0) k j 1 0 apart ∙ get_or-same 0 32 j;
}

HaveOnly-itself : (f : ℕ → Bool) (k : ℕ) → IsTrue (f k) → HaveOnly f (itself k).poly
HaveOnly-itself f k h = HaveOnly-cons f (record { mono = record { powers = unit k }; coef = pos 1 }) [] (HasOnly-unit f k h) (HaveOnly-nil f)

StandsWithin-itself : (p : Places) (n : ℕ) (used : Var → Bool) (allowed : ℕ → Bool) → ((v : Var) → IsTrue (used v) → IsTrue (allowed (place p v))) → StandsWithin p (map itself (range_with_len 0 n)) used allowed
StandsWithin-itself p n used allowed h = record {
  each = λ v g.
      let e : 0 + place p v ≡ place p v = omega arith in
      at_place (λ s. HaveOnly allowed s.poly) n 0 (place p v) (λ lt.
      subst (λ (k : ℕ). HaveOnly allowed (itself k).poly) (sym e) (HaveOnly-itself allowed (place p v) (h v g)));
}

-- where `es` are those that were made, i of them
pub made-more : (es fs : List Scaled) (s : Scaled) (k : ℕ) → es ≡ map itself (range_with_len 0 k) → s ≡ itself k → fs ≡ es ++ s ∷ [] → fs ≡ map itself (range_with_len 0 (k + 1))
made-more es fs s k e f g = g ∙ ap (λ (l : List Scaled). l ++ s ∷ []) e ∙ ap (λ (t : Scaled). map itself (range_with_len 0 k) ++ t ∷ []) f ∙ sym (map-range_with_len_more itself 0 k k (omega arith))

pub IsEnvironment-made : (es : List Scaled) (i n : ℕ) → es ≡ map itself (range_with_len 0 i) → i ≡ n → IsEnvironment n es
IsEnvironment-made es i n e f = subst (IsEnvironment n) (sym (e ∙ ap (λ (k : ℕ). map itself (range_with_len 0 k)) f)) (IsEnvironment-itself n)

pub StandsFor-made : (p : Places) (es : List Scaled) (i : ℕ) → es ≡ map itself (range_with_len 0 i) → StandsFor p es (variables p)
StandsFor-made p es i e = subst (λ (l : List Scaled). StandsFor p l (variables p)) (sym e) (StandsFor-itself p i)

pub StandsAt-made : (p : Places) (es : List Scaled) (i : ℕ) (x : Point) (a : Assignment) → es ≡ map itself (range_with_len 0 i) → i ≤ 32 → IsAt p x a → StandsAt p es x a
StandsAt-made p es i x a e le h = subst (λ (l : List Scaled). StandsAt p l x a) (sym e) (StandsAt-itself p i x a le h)

pub StandsWithin-made : (p : Places) (es : List Scaled) (i : ℕ) (used : Var → Bool) (allowed : ℕ → Bool) → es ≡ map itself (range_with_len 0 i) → ((v : Var) → IsTrue (used v) → IsTrue (allowed (place p v))) → StandsWithin p es used allowed
StandsWithin-made p es i used allowed e h = subst (λ (l : List Scaled). StandsWithin p l used allowed) (sym e) (StandsWithin-itself p i used allowed h)
