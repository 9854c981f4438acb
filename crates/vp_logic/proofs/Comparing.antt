-- Comparisons as atoms over differences.
use Rattle.std.proofs.Common.{◌≡◌, ℕ, ◌+◌, ◌*◌, ◌/◌, ◌<◌, ◌⊎◌, inl, inr, Bool, true, false, not, ◌||◌, ◌&&◌, List, max, refl, sym, ap, subst, ◌∙◌, arith, ℤ, pos, ◌*ℤ◌, ◌-ℤ◌}
use Rattle.std.specs.Prelude.{int_le, int_lt, Result, IfOk}
use Rattle.std.specs.Ordering.{int_eq}
use Rattle.std.proofs.lemmas.Int.{ints}
use Rattle.std.proofs.Math.Nat.{mul_comm, zero-div}
use Rattle.vp_terms.specs.Rational.{Rational, difference}
use Rattle.vp_terms.specs.Meaning.{compares}
use Rattle.vp_terms.specs.declared.formula.Cmp.TheVariants as cmp
use Rattle.vp_terms.proofs.Lowest.{same_from_scaled}
use Rattle.vp_poly.proofs.Lawful.{IsTimes-sign}
use Rattle.vp_poly.specs.Lcm.{gcd, lcm}
use Rattle.vp_poly.specs.Times.{IsTimes}
use Rattle.vp_poly.specs.declared.mono.Term.{Term}
use Rattle.vp_poly.specs.Coefficient.{Coefficients}
use Rattle.vp_poly.specs.Canonical.{IsCanonical}
use Rattle.vp_poly.specs.Weights.{Weights, fits, weight_sum}
use Rattle.vp_poly.proofs.LcmLaws.{gcd-is, gcd-same, gcd-positive, lcm-product}
use Rattle.vp_logic.specs.declared.norm.Rel.{Rel}
use Rattle.vp_logic.specs.declared.norm.Rel.TheVariants.{Ge, Gt, Eq}
use Rattle.vp_poly.specs.Value.{Point}
use Rattle.vp_poly.specs.declared.canonical.PolyErr.{PolyErr}
use Rattle.vp_logic.specs.declared.norm.Norm.{Norm}
use Rattle.vp_logic.specs.Tree.{tree}
use Rattle.vp_logic.specs.Truth.{rel_holds, tree_holds}

-- ---- the weight of a difference is that of the opposite difference

gcd_turned : (a b : ℕ) → gcd a b ≡ gcd b a
gcd_turned a b = let d = gcd-is a b in gcd-same b a (gcd a b) (d.1, d.0, λ k p q. d.2 k q p)

lcm_of : (a b : ℕ) → 0 < a → 0 < b → lcm a b ≡ lcm b a
lcm_of a b h k =
    let g = gcd-positive a b k in
    let e : lcm a b * gcd a b ≡ lcm b a * gcd a b = lcm-product a b k ∙ mul_comm a b ∙ sym (lcm-product b a h) ∙ ap (λ (n : ℕ). lcm b a * n) (gcd_turned b a) in
    same_from_scaled (lcm a b) (lcm b a) (gcd a b) g e

some_or_none : (a : ℕ) → (a ≡ 0) ⊎ (0 < a)
some_or_none a = grind arith

zero_over : (g b : ℕ) → 0 / g * b ≡ 0
zero_over g b = rw (zero-div g) (omega arith)

times_zero : (x : ℕ) → x * 0 ≡ 0
times_zero x = omega arith

turned_at : (a b : ℕ) → (a ≡ 0) ⊎ (0 < a) → (b ≡ 0) ⊎ (0 < b) → lcm a b ≡ lcm b a
turned_at a b (inr h) (inr k) = lcm_of a b h k
turned_at a b (inl e) k = rw e (zero_over (gcd 0 b) b ∙ sym (times_zero (b / gcd b 0)))
turned_at a b (inr h) (inl e) = rw e (times_zero (a / gcd a 0) ∙ sym (zero_over (gcd 0 a) a))

pub lcm_turned : (a b : ℕ) → lcm a b ≡ lcm b a
lcm_turned a b = turned_at a b (some_or_none a) (some_or_none b)

and_turned : (a b : Bool) → (a && b) ≡ (b && a)
and_turned true true = refl
and_turned true false = refl
and_turned false true = refl
and_turned false false = refl

pub sum_turned : (v w : Weights) → weight_sum v w ≡ weight_sum w v
sum_turned v w =
    let e = lcm_turned v.den w.den in
    let f = and_turned (fits v) (fits w) in
    let g : (l : ℕ) → v.norm * (l / v.den) + w.norm * (l / w.den) ≡ w.norm * (l / w.den) + v.norm * (l / v.den) = λ l. omega arith in
    let h : max v.degree w.degree ≡ max w.degree v.degree = omega arith in
    let k : v.terms + w.terms ≡ w.terms + v.terms = omega arith in
    rw (e, f, g (lcm w.den v.den), h, k) refl

-- ---- comparisons with 0

at_least : (p q : ℤ) (d : ℕ) → int_le (pos 0 *ℤ pos d) ((p -ℤ q) *ℤ pos 1) ≡ int_le q p
at_least p q d = grind (arith, ints)

greater : (p q : ℤ) (d : ℕ) → int_lt (pos 0 *ℤ pos d) ((p -ℤ q) *ℤ pos 1) ≡ int_lt q p
greater p q d = grind (arith, ints)

equal : (p q : ℤ) (d : ℕ) → int_eq ((p -ℤ q) *ℤ pos 1) (pos 0 *ℤ pos d) ≡ int_eq p q
equal p q d = grind (arith, ints)

unequal : (p q : ℤ) (d e : ℕ) → (int_lt (pos 0 *ℤ pos d) ((p -ℤ q) *ℤ pos 1) || (int_lt (pos 0 *ℤ pos e) ((q -ℤ p) *ℤ pos 1) || false)) ≡ not (int_eq p q)
unequal p q d e = grind (arith, ints)

module _ (q r : Rational) where
  pub ge_is : rel_holds Ge (difference q r) ≡ compares cmp.Ge q r
  ge_is = at_least (q.num *ℤ pos r.den) (r.num *ℤ pos q.den) (q.den * r.den)

  pub le_is : rel_holds Ge (difference r q) ≡ compares cmp.Le q r
  le_is = at_least (r.num *ℤ pos q.den) (q.num *ℤ pos r.den) (r.den * q.den)

  pub gt_is : rel_holds Gt (difference q r) ≡ compares cmp.Gt q r
  gt_is = greater (q.num *ℤ pos r.den) (r.num *ℤ pos q.den) (q.den * r.den)

  pub lt_is : rel_holds Gt (difference r q) ≡ compares cmp.Lt q r
  lt_is = greater (r.num *ℤ pos q.den) (q.num *ℤ pos r.den) (r.den * q.den)

  pub eq_is : rel_holds Eq (difference q r) ≡ compares cmp.Eq q r
  eq_is = equal (q.num *ℤ pos r.den) (r.num *ℤ pos q.den) (q.den * r.den)

  pub ne_is : (rel_holds Gt (difference q r) || (rel_holds Gt (difference r q) || false)) ≡ compares cmp.Ne q r
  ne_is = unequal (q.num *ℤ pos r.den) (r.num *ℤ pos q.den) (q.den * r.den) (r.den * q.den)

-- a positive multiple has the relation to 0 that the number has
pub multiple_holds : (rel : Rel) (d : ℕ) (v q : Rational) → 0 < d → IsTimes d v q → rel_holds rel v ≡ rel_holds rel q
multiple_holds Ge d v q h t = IsTimes-sign cmp.Ge d v q h t
multiple_holds Gt d v q h t = IsTimes-sign cmp.Gt d v q h t
multiple_holds Eq d v q h t = IsTimes-sign cmp.Eq d v q h t

-- a truth that equals another
pub ok_holds : (r : Result Norm PolyErr) (x : Point) (p q : Bool) → p ≡ q → IfOk r (λ n. tree_holds (tree n) x ≡ p) → IfOk r (λ n. tree_holds (tree n) x ≡ q)
ok_holds r x p q e h = let P : Bool → Type 0 = λ b. IfOk r (λ n. tree_holds (tree n) x ≡ b) in subst P e h

pub canonical_over : (d e : ℕ) (ts : List Term) (f : Coefficients) → d ≡ e → IsCanonical d ts f → IsCanonical e ts f
canonical_over d e ts f p h = let P : ℕ → Type 0 = λ n. IsCanonical n ts f in subst P p h
