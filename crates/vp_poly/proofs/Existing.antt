-- Each expression that isn't over has a polynomial, where variables stand for themselves.
use Rattle.std.proofs.Common.{◌≡◌, ◌≢◌, ℕ, zero, suc, ◌+◌, ◌*◌, ◌/◌, ◌<◌, ◌≤◌, ◌^◌, Bool, true, false, ◌&&◌, IsTrue, List, [], length, map, replicate, Some, slice_get, unwrap_or, refl, sym, ap, subst, arith, pos, neg_ℤ, unsigned_abs}
use Rattle.std.specs.List.{range_with_len}
use Rattle.std.proofs.lemmas.Int.{ints}
use Rattle.std.proofs.lemmas.List.{length-set}
use Rattle.std.proofs.Math.Nat.{mul-pos}
use Rattle.vp_terms.specs.Rational.{Rational, sum, difference, product, power, size_positive}
use Rattle.vp_terms.specs.Meaning.{Assignment, rational, value}
use Rattle.vp_terms.specs.Places.{place, place_count, has_variable}
use Rattle.vp_terms.specs.Variables.{all_variables}
use Rattle.vp_terms.specs.declared.expr.Places.{Places}
use Rattle.vp_terms.specs.declared.expr.Var.{Var}
use Rattle.vp_terms.specs.declared.expr.Expr.{Expr}
use Rattle.vp_terms.specs.declared.expr.Expr.TheVariants.{Num, Var as Variable, Add', Sub', Mul', Pow'}
use Rattle.vp_terms.proofs.Agreeing.{both}
use Rattle.vp_terms.proofs.RationalLaws.{chain}
use Rattle.vp_terms.proofs.Spots.{place_is_below}
use Rattle.vp_poly.specs.declared.mono.Term.{Term}
use Rattle.vp_poly.specs.Canonical.{IsCanonical, IsWeighed, itself, unit, own_weights, variables, weights_of}
use Rattle.vp_poly.specs.Coefficient.{Coefficients, coefficients, times, to_power}
use Rattle.vp_poly.specs.Lcm.{lcm, Shares}
use Rattle.vp_poly.specs.Merge.{merged}
use Rattle.vp_poly.specs.Points.{IsAt}
use Rattle.vp_poly.specs.Poly.{IsPoly, IsWithin, degree, norm, scaled, unless_zero}
use Rattle.vp_poly.specs.Product.{with_rows}
use Rattle.vp_poly.specs.Times.{HasCoefficients, IsTimes}
use Rattle.vp_poly.specs.Unity.{unity, HasPower}
use Rattle.vp_poly.specs.Value.{Point, value_at}
use Rattle.vp_poly.specs.Weights.{Weights, fits, norm_if, most, weight_at, weight_between, weight_in, weight_one, weight_zero, weight_sum, weight_product, weight_power}
use Rattle.vp_poly.proofs.Lawful.{IsCanonical-unique}
use Rattle.vp_poly.proofs.LcmLaws.{lcm-shares, min_positive, min_power_positive}
use Rattle.vp_poly.proofs.MergeLaws.{coef-merged, IsPoly-merged}
use Rattle.vp_poly.proofs.Multiplying.{IsProduct-rows}
use Rattle.vp_poly.proofs.NumberLaws.{IsWeighed-number, number-coefficients, number-values}
use Rattle.vp_poly.proofs.PlainLaws.{IsEntry-itself, coefficients-itself, one_times, unit-low, value_at-itself}
use Rattle.vp_poly.proofs.PolyLaws.{IsPoly-scaled, norm-cons}
use Rattle.vp_poly.proofs.PowerLaws.{HasPower-none, IsRaised-of, power_next, power-small, power-few, power-low}
use Rattle.vp_poly.proofs.ProductValues.{value_at-scaled}
use Rattle.vp_poly.proofs.ScaledLaws.{coefficients_product, product-values, total-small, total-weighed, total-coefficients, total-values, difference-coefficients, difference-values}
use Rattle.vp_poly.proofs.Singles.{IsPoly-unless_zero}
use Rattle.vp_poly.proofs.SizeLaws.{coef-scaled, IsWithin-merged, IsWithin-scaled}
use Rattle.vp_poly.proofs.ValueLaws.{value_at-merged}
use Rattle.vp_poly.proofs.WeighedLaws.{IsUnder-fits, IsRoomy-of, IsWeighed-product, product-small, product-few, product-low, scale-small}

-- ---- the parts of what isn't over

norm_parts : (b : Bool) (n : ℕ) → norm_if b n < 2 ^ 62 → b ≡ true
norm_parts true n h = refl
norm_parts false n h = absurd (omega arith)

sum_parts : (v w : Weights) → fits (weight_sum v w) ≡ true → IsTrue (fits v) × IsTrue (fits w)
sum_parts v w f = both (fits v) (fits w) (norm_parts (fits v && fits w) _ (IsUnder-fits (weight_sum v w) f).norm)

product_parts : (v w : Weights) → fits (weight_product v w) ≡ true → IsTrue (fits v) × IsTrue (fits w)
product_parts v w f = both (fits v) (fits w) (norm_parts (fits v && fits w) _ (IsUnder-fits (weight_product v w) f).norm)

power_part : (v : Weights) (n : ℕ) → fits (weight_power v n) ≡ true → fits v ≡ true
power_part v n f = norm_parts (fits v) _ (IsUnder-fits (weight_power v n) f).norm

-- ---- variables that stand for themselves

own_at : (n a i : ℕ) → i < n → slice_get (weights_of (map itself (range_with_len a n))) i ≡ Some weight_one
own_at zero a i h = absurd (omega arith)
own_at (suc n) a zero h = refl
own_at (suc n) a (suc i) h = own_at n (a + 1) i (omega arith)

self_poly : (k : ℕ) → IsPoly (itself k).poly
self_poly k = record {
  ordered = (record { not_zero = λ e. absurd (cc); low = unit-low k; places = length-set (replicate 32 0) k 1; before = tt }, tt);
  small = omega (arith, norm-cons (record { mono = record { powers = unit k }; coef = pos 1 }) []);
  few = omega arith;
}

-- the list is a polynomial with these coefficients and values, times the denominator of the weight
record IsMade (p : Places) (w : Weights) (f : Coefficients) (q : Assignment → Rational) (ts : List Term) : Type 0 where
  weighed : IsWeighed ts w
  positive : 0 < w.den
  poly : IsPoly ts
  coefs : HasCoefficients w.den ts f
  values : (x : Point) (a : Assignment) → IsAt p x a → IsTimes w.den (value_at ts x) (q a)

-- and so for an expression
abbrev IsBuilt : Places → Weights → Expr → List Term → Type 0
IsBuilt p w e ts = IsMade p w (coefficients (variables p) e) (value e) ts

minus_size : (l : ℕ) → unsigned_abs (neg_ℤ (pos l)) ≡ l
minus_size l = omega (arith, ints)

not_zero : (l : ℕ) → 0 < l → pos l ≢ pos 0
not_zero l h e = absurd (omega (arith, ints))

minus_not_zero : (l : ℕ) → 0 < l → neg_ℤ (pos l) ≢ pos 0
minus_not_zero l h e = absurd (omega (arith, ints))

unity_poly : IsPoly unity
unity_poly = record {
  ordered = (record { not_zero = λ e. absurd (cc); low = omega arith; places = refl; before = tt }, tt);
  small = omega (arith, norm-cons (record { mono = record { powers = replicate 32 0 }; coef = pos 1 }) []);
  few = omega arith;
}

powers_of : (ts : List Term) (w : Weights) (n : ℕ) → IsWeighed ts w → IsPoly ts → fits (weight_power w n) ≡ true → (i : ℕ) → i ≤ n → (ps : List Term) × HasPower ts w i ps
powers_of ts w n h q f zero le = (unity, HasPower-none ts unity w refl unity_poly)
powers_of ts w n h q f (suc i) le =
    let before = powers_of ts w n h q f i (omega arith) in
    let ps = before.0 in
    let made = IsProduct-rows ts ps (with_rows [] ts ps) refl q before.1.poly (power-small ts ps w i n h f before.1 (omega arith)) (power-few ts ps w i n h f before.1 (omega arith)) (power-low ts ps w i n h f before.1 (omega arith)) in
    (with_rows [] ts ps, power_next ts ps (with_rows [] ts ps) w i h before.1 made.poly made.coefficients made.values made.sizes made.places made.only)

module _ (p : Places) where
  summed : (v w : Weights) (f g : Coefficients) (q r : Assignment → Rational) (xs ys ls rs : List Term) (k m : ℕ) → fits (weight_sum v w) ≡ true → IsMade p v f q xs → IsMade p w g r ys → Shares v.den w.den k m →
      IsPoly ls → IsPoly rs → IsWithin ls (norm xs * k) (degree xs) (length xs) → IsWithin rs (norm ys * m) (degree ys) (length ys) → IsWeighed (merged ls rs) (weight_sum v w) × IsPoly (merged ls rs) × (0 < (weight_sum v w).den)
  summed v w f g q r xs ys ls rs k m ok h i s lp rp lw rw' =
      let room = IsRoomy-of v w k m h.positive i.positive s ok in
      let u = IsUnder-fits v h.weighed.fits in
      let t = IsUnder-fits w i.weighed.fits in
      let d = mul-pos s.left_positive h.positive in
      let small = total-small xs ys ls rs v w k m h.weighed i.weighed room lw rw' in
      let few : length ls + length rs < 2 ^ 32 = omega (arith, lw.length_le, rw'.length_le, h.weighed.within.length_le, i.weighed.within.length_le, u.terms, t.terms) in
      let some : 0 < lcm v.den w.den = omega (arith, s.left_whole) in
      let den : 0 < (weight_sum v w).den = omega arith in
      (total-weighed xs ys ls rs (merged ls rs) v w (weight_sum v w) k m refl ok h.weighed i.weighed room lw rw' (IsWithin-merged ls rs), IsPoly-merged ls rs lp rp small few, den)

  total_of : (v w : Weights) (f g : Coefficients) (q r : Assignment → Rational) (xs ys : List Term) → fits (weight_sum v w) ≡ true → IsMade p v f q xs → IsMade p w g r ys → (zs : List Term) × IsMade p (weight_sum v w) (λ n. sum (f n) (g n)) (λ a. sum (q a) (r a)) zs
  total_of v w f g q r xs ys ok h i =
      let k = lcm v.den w.den / v.den in
      let m = lcm v.den w.den / w.den in
      let s = lcm-shares v.den w.den h.positive i.positive in
      let room = IsRoomy-of v w k m h.positive i.positive s ok in
      let ls = scaled (pos k) xs in
      let rs = scaled (pos m) ys in
      let left_small : v.norm * k < 2 ^ 126 = omega (arith, room.norms) in
      let right_small : w.norm * m < 2 ^ 126 = omega (arith, room.norms) in
      let made = summed v w f g q r xs ys ls rs k m ok h i s
      (IsPoly-scaled (pos k) xs ls refl (not_zero k s.left_positive) (scale-small xs v v k (2 ^ 126) h.weighed left_small) h.poly)
      (IsPoly-scaled (pos m) ys rs refl (not_zero m s.right_positive) (scale-small ys w w m (2 ^ 126) i.weighed right_small) i.poly)
      (IsWithin-scaled (pos k) xs) (IsWithin-scaled (pos m) ys) in (
        merged ls rs,
        record {
          weighed = made.0;
          positive = made.2;
          poly = made.1;
          coefs = total-coefficients xs ys ls rs (merged ls rs) v w (weight_sum v w) k m refl ok s (coef-scaled (pos k) xs) (coef-scaled (pos m) ys) (coef-merged ls rs) f g h.coefs i.coefs;
          values = λ x a at. total-values xs ys ls rs (merged ls rs) v w (weight_sum v w) k m x (q a) (r a) refl ok s (value_at-scaled (pos k) xs x) (value_at-scaled (pos m) ys x) (value_at-merged ls rs x) (h.values x a at) (i.values x a at);
        },
      )

  rest_of : (v w : Weights) (f g : Coefficients) (q r : Assignment → Rational) (xs ys : List Term) → fits (weight_sum v w) ≡ true → IsMade p v f q xs → IsMade p w g r ys → (zs : List Term) × IsMade p (weight_sum v w) (λ n. difference (f n) (g n)) (λ a. difference (q a) (r a)) zs
  rest_of v w f g q r xs ys ok h i =
      let k = lcm v.den w.den / v.den in
      let m = lcm v.den w.den / w.den in
      let s = lcm-shares v.den w.den h.positive i.positive in
      let room = IsRoomy-of v w k m h.positive i.positive s ok in
      let ls = scaled (pos k) xs in
      let rs = scaled (neg_ℤ (pos m)) ys in
      let e = minus_size m in
      let left_small : v.norm * k < 2 ^ 126 = omega (arith, room.norms) in
      let right_small : w.norm * m < 2 ^ 126 = omega (arith, room.norms) in
      let within : IsWithin rs (norm ys * m) (degree ys) (length ys) = subst (λ (n : ℕ). IsWithin rs (norm ys * n) (degree ys) (length ys)) e (IsWithin-scaled (neg_ℤ (pos m)) ys) in
      let small : norm ys * unsigned_abs (neg_ℤ (pos m)) < 2 ^ 126 = subst (λ (n : ℕ). norm ys * n < 2 ^ 126) (sym e) (scale-small ys w w m (2 ^ 126) i.weighed right_small) in
      let made = summed v w f g q r xs ys ls rs k m ok h i s
      (IsPoly-scaled (pos k) xs ls refl (not_zero k s.left_positive) (scale-small xs v v k (2 ^ 126) h.weighed left_small) h.poly)
      (IsPoly-scaled (neg_ℤ (pos m)) ys rs refl (minus_not_zero m s.right_positive) small i.poly)
      (IsWithin-scaled (pos k) xs) within in (
        merged ls rs,
        record {
          weighed = made.0;
          positive = made.2;
          poly = made.1;
          coefs = difference-coefficients xs ys ls rs (merged ls rs) v w (weight_sum v w) k m refl ok s (coef-scaled (pos k) xs) (coef-scaled (neg_ℤ (pos m)) ys) (coef-merged ls rs) f g h.coefs i.coefs;
          values = λ x a at. difference-values xs ys ls rs (merged ls rs) v w (weight_sum v w) k m x (q a) (r a) refl ok s (value_at-scaled (pos k) xs x) (value_at-scaled (neg_ℤ (pos m)) ys x) (value_at-merged ls rs x) (h.values x a at) (i.values x a at);
        },
      )

  product_of : (v w : Weights) (f g : Coefficients) (q r : Assignment → Rational) (xs ys : List Term) → fits (weight_product v w) ≡ true → IsMade p v f q xs → IsMade p w g r ys → (zs : List Term) × IsMade p (weight_product v w) (times f g) (λ a. product (q a) (r a)) zs
  product_of v w f g q r xs ys ok h i =
      let zs = with_rows [] xs ys in
      let made = IsProduct-rows xs ys zs refl h.poly i.poly (product-small xs ys v w h.weighed i.weighed) (product-few xs ys v w h.weighed i.weighed) (product-low xs ys v w h.weighed i.weighed) in (
        zs,
        record {
          weighed = IsWeighed-product xs ys zs v w h.weighed i.weighed made.sizes ok;
          positive = min_positive v.den w.den most h.positive i.positive (omega arith);
          poly = made.poly;
          coefs = coefficients_product xs ys zs v w f g ok made.coefficients h.coefs i.coefs;
          values = λ x a at. product-values xs ys zs v w (weight_product v w) x (q a) (r a) refl ok (made.values x) (h.values x a at) (i.values x a at);
        },
      )

  power_of : (v : Weights) (f : Coefficients) (q : Assignment → Rational) (xs : List Term) (n : ℕ) → fits (weight_power v n) ≡ true → IsMade p v f q xs → (zs : List Term) × IsMade p (weight_power v n) (to_power f n) (λ a. power (q a) n) zs
  power_of v f q xs n ok h =
      let last = powers_of xs v n h.weighed h.poly ok n (omega arith) in
      let made = IsRaised-of xs last.0 v (weight_power v n) n n refl refl ok last.1 in (
        last.0,
        record {
          weighed = made.weighed;
          positive = min_power_positive v.den n most h.positive (omega arith);
          poly = made.canonical;
          coefs = made.coefficients f h.coefs;
          values = λ x a at. made.values x (q a) (h.values x a at);
        },
      )

  module _ (few : place_count p ≤ 32) where
    own : Expr → Weights
    own e = weight_in p (own_weights (place_count p)) e

    own_variable : (v : Var) → IsTrue (has_variable p v) → weight_at p (own_weights (place_count p)) v ≡ weight_one
    own_variable v g = ap (λ o. unwrap_or o weight_zero) (own_at (place_count p) 0 (place p v) (place_is_below p v g))

    variable_of : (v : Var) → IsTrue (has_variable p v) → IsBuilt p weight_one (Variable v) (itself (place p v)).poly
    variable_of v g =
        let lt = place_is_below p v g in
        record {
          weighed = record { fits = refl; within = (IsEntry-itself (place_count p) (place p v) lt).within };
          positive = omega arith;
          poly = self_poly (place p v);
          coefs = coefficients-itself (place p v);
          values = λ x a at. one_times _ _ (chain (value_at-itself (place p v) x (omega arith)) (at.each v g));
        }

    built : (e : Expr) → IsTrue (all_variables (has_variable p) e) → fits (own e) ≡ true → (ts : List Term) × IsBuilt p (own e) e ts
    unfolding own
    built (Num r) h f =
        let u = IsUnder-fits (own (Num r)) f in
        let t : Term = record { mono = record { powers = replicate 32 0 }; coef = r.num } in (
          unless_zero t,
          record {
            weighed = IsWeighed-number r.num r.den (unless_zero t) refl u.norm u.den;
            positive = size_positive r.den r.lowest.positive;
            poly = IsPoly-unless_zero t refl (omega arith) (omega (arith, u.norm));
            coefs = number-coefficients r.num r.den (unless_zero t) t (own (Num r)) (rational r) refl refl refl refl refl;
            values = λ x a at. number-values r.num r.den (unless_zero t) t (own (Num r)) (rational r) x refl refl refl refl refl;
          },
        )
    built (Variable v) h f = ((itself (place p v)).poly, subst (λ (w : Weights). IsBuilt p w (Variable v) (itself (place p v)).poly) (sym (own_variable v h)) (variable_of v h))
    built (Add' b l c r) h f =
        let g = both _ _ h in
        let q = sum_parts (own l) (own r) f in
        let one = built l g.0 q.0 in
        let two = built r g.1 q.1 in
        total_of (own l) (own r) _ _ _ _ one.0 two.0 f one.1 two.1
    built (Sub' b l c r) h f =
        let g = both _ _ h in
        let q = sum_parts (own l) (own r) f in
        let one = built l g.0 q.0 in
        let two = built r g.1 q.1 in
        rest_of (own l) (own r) _ _ _ _ one.0 two.0 f one.1 two.1
    built (Mul' b l c r) h f =
        let g = both _ _ h in
        let q = product_parts (own l) (own r) f in
        let one = built l g.0 q.0 in
        let two = built r g.1 q.1 in
        product_of (own l) (own r) _ _ _ _ one.0 two.0 f one.1 two.1
    built (Pow' b l n) h f =
        let one = built l h (power_part (own l) n f) in
        power_of (own l) _ _ one.0 n f one.1

    -- ---- what is canonical has the value

    pub some_polynomial : (e : Expr) → IsTrue (all_variables (has_variable p) e) → fits (weight_in p (own_weights (place_count p)) e) ≡ true → (ts : List Term) × IsCanonical (weight_in p (own_weights (place_count p)) e).den ts (coefficients (variables p) e)
    unfolding own
    some_polynomial e h f = let b = built e h f in (b.0, record { poly = b.1.poly; coefficients = b.1.coefs })

    pub value_of_canonical : (e : Expr) → IsTrue (all_variables (has_variable p) e) → fits (weight_in p (own_weights (place_count p)) e) ≡ true → (ts : List Term) → IsCanonical (weight_in p (own_weights (place_count p)) e).den ts (coefficients (variables p) e) →
        (x : Point) (a : Assignment) → IsAt p x a → (0 < (weight_in p (own_weights (place_count p)) e).den) × IsTimes (weight_in p (own_weights (place_count p)) e).den (value_at ts x) (value e a)
    unfolding own
    value_of_canonical e h f ts c x a at =
        let b = built e h f in
        let same = IsCanonical-unique (own e).den (coefficients (variables p) e) b.0 ts (record { poly = b.1.poly; coefficients = b.1.coefs }) c in
        (b.1.positive, subst (λ (l : List Term). IsTimes (own e).den (value_at l x) (value e a)) same (b.1.values x a at))

    pub canonical_is_weighed : (e : Expr) → IsTrue (all_variables (has_variable p) e) → fits (weight_in p (own_weights (place_count p)) e) ≡ true → (ts : List Term) → IsCanonical (weight_in p (own_weights (place_count p)) e).den ts (coefficients (variables p) e) →
        IsWeighed ts (weight_in p (own_weights (place_count p)) e)
    unfolding own
    canonical_is_weighed e h f ts c =
        let b = built e h f in
        let same = IsCanonical-unique (own e).den (coefficients (variables p) e) b.0 ts (record { poly = b.1.poly; coefficients = b.1.coefs }) c in
        subst (λ (l : List Term). IsWeighed l (own e)) same b.1.weighed

    pub value_of_difference : (l r : Expr) → IsTrue (all_variables (has_variable p) l) → IsTrue (all_variables (has_variable p) r) → fits (weight_between p (own_weights (place_count p)) l r) ≡ true →
        (ts : List Term) → IsCanonical (weight_between p (own_weights (place_count p)) l r).den ts (λ m. difference (coefficients (variables p) l m) (coefficients (variables p) r m)) →
        (x : Point) (a : Assignment) → IsAt p x a → (0 < (weight_between p (own_weights (place_count p)) l r).den) × IsTimes (weight_between p (own_weights (place_count p)) l r).den (value_at ts x) (difference (value l a) (value r a))
    unfolding own
    value_of_difference l r h k f ts c x a at =
        let q = sum_parts (own l) (own r) f in
        let one = built l h q.0 in
        let two = built r k q.1 in
        let b = rest_of (own l) (own r) (coefficients (variables p) l) (coefficients (variables p) r) (value l) (value r) one.0 two.0 f one.1 two.1 in
        let d = (weight_sum (own l) (own r)).den in
        let same = IsCanonical-unique d (λ m. difference (coefficients (variables p) l m) (coefficients (variables p) r m)) b.0 ts (record { poly = b.1.poly; coefficients = b.1.coefs }) c in
        (b.1.positive, subst (λ (t : List Term). IsTimes d (value_at t x) (difference (value l a) (value r a))) same (b.1.values x a at))
