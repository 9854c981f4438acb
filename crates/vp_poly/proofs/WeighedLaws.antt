-- Laws of weighed polynomials.
use Rattle.std.proofs.Common.{◌≡◌, ℕ, ◌+◌, ◌*◌, ◌/◌, ◌<◌, ◌≤◌, ◌^◌, Bool, true, false, ◌&&◌, nat_lt, min, max, List, length, refl, subst, arith}
use Rattle.std.proofs.lemmas.Bool.Decides.{nat_tests}
use Rattle.std.proofs.Math.Nat.{mul-le-mul_left, mul-le-mul_right}
use Rattle.vp_poly.specs.declared.mono.Term.{Term}
use Rattle.vp_poly.specs.Poly.{norm, degree, IsWithin}
use Rattle.vp_poly.specs.Lcm.{lcm, Shares}
use Rattle.vp_poly.specs.Weights.{Weights, fits, norm_if, most, weight_sum, weight_product}
use Rattle.vp_poly.specs.Canonical.{IsWeighed}
use Rattle.vp_poly.specs.Rooms.{IsRoomy}

-- the limits of a weight
pub record IsUnder (w : Weights) : Type 0 where
  pub norm : w.norm < 2 ^ 62
  pub den : w.den < 2 ^ 62
  pub degree : w.degree ≤ 12
  pub terms : w.terms ≤ 4096

under : (a b c d : Bool) → (a && b && c && d) ≡ true → (a ≡ true) × (b ≡ true) × (c ≡ true) × (d ≡ true)
under true true true true e = (refl, refl, refl, refl)
under true true true false e = cc
under true true false d e = cc
under true false c d e = cc
under false b c d e = cc

below : (a b : ℕ) → nat_lt a b ≡ true → a < b
below a b e = grind (arith, nat_tests)

pub IsUnder-fits : (w : Weights) → fits w ≡ true → IsUnder w
IsUnder-fits w e =
    let h = under (nat_lt w.norm (2 ^ 62)) (nat_lt w.den (2 ^ 62)) (nat_lt w.degree 13) (nat_lt w.terms 4097) e in
    record {
      norm = below _ _ h.0;
      den = below _ _ h.1;
      degree = (let k : w.degree < 13 = below _ _ h.2 in omega arith);
      terms = (let k : w.terms < 4097 = below _ _ h.3 in omega arith);
    }

pub times_le : (a b c d : ℕ) → a ≤ c → b ≤ d → a * b ≤ c * d
times_le a b c d h k = omega (arith, mul-le-mul_right b h, mul-le-mul_left c k)

-- ---- the conditions of the product of polynomials

pub product-small : (xs ys : List Term) (v w : Weights) → IsWeighed xs v → IsWeighed ys w → norm xs * norm ys < 2 ^ 126
product-small xs ys v w h k =
    let a = IsUnder-fits v h.fits in
    let b = IsUnder-fits w k.fits in
    let x : norm xs ≤ 2 ^ 62 = omega (arith, h.within.norm_le, a.norm) in
    let y : norm ys ≤ 2 ^ 62 = omega (arith, k.within.norm_le, b.norm) in
    omega (arith, times_le (norm xs) (norm ys) (2 ^ 62) (2 ^ 62) x y)

pub product-few : (xs ys : List Term) (v w : Weights) → IsWeighed xs v → IsWeighed ys w → length xs * length ys < 2 ^ 32
product-few xs ys v w h k =
    let a = IsUnder-fits v h.fits in
    let b = IsUnder-fits w k.fits in
    let x : length xs ≤ 4096 = omega (arith, h.within.length_le, a.terms) in
    let y : length ys ≤ 4096 = omega (arith, k.within.length_le, b.terms) in
    omega (arith, times_le (length xs) (length ys) 4096 4096 x y)

pub product-low : (xs ys : List Term) (v w : Weights) → IsWeighed xs v → IsWeighed ys w → degree xs + degree ys ≤ 48
product-low xs ys v w h k =
    let a = IsUnder-fits v h.fits in
    let b = IsUnder-fits w k.fits in
    omega (arith, h.within.degree_le, k.within.degree_le, a.degree, b.degree)

under_cap : (n m : ℕ) → min n most < m → m ≤ most → min n most ≡ n
under_cap n m h k = omega arith

pub norm_if-true : (b : Bool) (n : ℕ) → norm_if b n < 2 ^ 62 → n ≤ norm_if b n
norm_if-true true n h = omega arith
norm_if-true false n h = absurd (omega arith)

pub IsWeighed-product : (xs ys zs : List Term) (v w : Weights) → IsWeighed xs v → IsWeighed ys w → IsWithin zs (norm xs * norm ys) (degree xs + degree ys) (length xs * length ys) → fits (weight_product v w) ≡ true → IsWeighed zs (weight_product v w)
IsWeighed-product xs ys zs v w h k i f =
    let u = IsUnder-fits (weight_product v w) f in
    let n = norm_if-true (fits v && fits w) (v.norm * w.norm) u.norm in
    let t = u.terms in
    let n' = times_le (norm xs) (norm ys) v.norm w.norm h.within.norm_le k.within.norm_le in
    let t' = times_le (length xs) (length ys) v.terms w.terms h.within.length_le k.within.length_le in
    record {
      fits = f;
      within = record {
        norm_le = omega (arith, i.norm_le);
        degree_le = omega (arith, i.degree_le, h.within.degree_le, k.within.degree_le, u.degree);
        length_le = omega (arith, i.length_le);
      };
    }

-- ---- the conditions of the sum

share_le : (k a d : ℕ) → 0 < a → k * a ≡ d → k ≤ d
share_le k a d h e = omega (arith, mul-le-mul_left k h)

pub IsRoomy-of : (v w : Weights) (k l : ℕ) → 0 < v.den → 0 < w.den → Shares v.den w.den k l → fits (weight_sum v w) ≡ true → IsRoomy v w k l
IsRoomy-of v w k l hv hw s f =
    let u = IsUnder-fits (weight_sum v w) f in
    let n = norm_if-true (fits v && fits w) (v.norm * (lcm v.den w.den / v.den) + w.norm * (lcm v.den w.den / w.den)) u.norm in
    let same : v.norm * k + w.norm * l ≡ v.norm * (lcm v.den w.den / v.den) + w.norm * (lcm v.den w.den / w.den) = rw (s.left, s.right) refl in
    let d : lcm v.den w.den < 2 ^ 62 = omega (arith, u.den) in
    record {
      k_small = omega (arith, share_le k v.den (lcm v.den w.den) hv s.left_whole);
      l_small = omega (arith, share_le l w.den (lcm v.den w.den) hw s.right_whole);
      norms = omega (arith, u.norm);
      norm_is = omega arith;
    }

pub scale-small : (xs : List Term) (v w : Weights) (k : ℕ) (b : ℕ) → IsWeighed xs v → v.norm * k < b → norm xs * k < b
scale-small xs v w k b h r = omega (arith, mul-le-mul_right k h.within.norm_le)

pub IsWeighed-sum : (xs ys ls rs zs : List Term) (v w : Weights) (k l : ℕ) → IsWeighed xs v → IsWeighed ys w → IsRoomy v w k l →
    IsWithin ls (norm xs * k) (degree xs) (length xs) → IsWithin rs (norm ys * l) (degree ys) (length ys) →
    IsWithin zs (norm ls + norm rs) (max (degree ls) (degree rs)) (length ls + length rs) → fits (weight_sum v w) ≡ true → IsWeighed zs (weight_sum v w)
IsWeighed-sum xs ys ls rs zs v w k l h g r i j z f =
    let u = IsUnder-fits (weight_sum v w) f in
    let a = mul-le-mul_right k h.within.norm_le in
    let b = mul-le-mul_right l g.within.norm_le in
    record {
      fits = f;
      within = record {
        norm_le = omega (arith, i.norm_le, j.norm_le, z.norm_le, r.norm_is);
        degree_le = omega (arith, i.degree_le, j.degree_le, z.degree_le, h.within.degree_le, g.within.degree_le);
        length_le = omega (arith, i.length_le, j.length_le, z.length_le, h.within.length_le, g.within.length_le, u.terms);
      };
    }

pub ruleset rooming = (IsRoomy-of)

pub ruleset weighing = (product-small, product-few, product-low, IsWeighed-product)

-- where a and b are the dens
pub IsRoomy-found : (v w : Weights) (a b k l : ℕ) → a ≡ v.den → b ≡ w.den → 0 < a → 0 < b → Shares a b k l → fits (weight_sum v w) ≡ true → IsRoomy v w k l
IsRoomy-found v w a b k l e f h i s ok =
    let t = subst (λ (n : ℕ). Shares v.den n k l) f (subst (λ (n : ℕ). Shares n b k l) e s) in
    IsRoomy-of v w k l (omega arith) (omega arith) t ok
