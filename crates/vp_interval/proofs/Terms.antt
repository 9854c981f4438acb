-- What the interval of a polynomial represents.
use Rattle.std.proofs.Common.{◌≡◌, refl, sym, subst, ℕ, zero, suc, ◌+◌, ◌<◌, ◌^◌, List, [], ◌∷◌, length, map, Option, None, Some, arith, ℤ, pos, negsuc, unsigned_abs}
use Rattle.std.proofs.lemmas.Int.{ints}
use Rattle.std.proofs.lemmas.List.{length-map}
use Rattle.std.proofs.lemmas.List.Elements.{All-nil, All-cons, All-head, All-tail}
use Rattle.std.specs.List.{fold, reduce, slice_get}
use Rattle.vp_terms.specs.Rational.{Rational, whole, sum as rational_sum, product as rational_product, power as rational_power, Equals}
use Rattle.vp_terms.proofs.RationalLaws.{chain, Equals-refl, Equals-sym, Equals-product, sum-zero, sum-assoc}
use Rattle.vp_poly.specs.declared.mono.Term.{Term}
use Rattle.vp_poly.specs.Places.{IsBelow, AreBelow}
use Rattle.vp_poly.specs.Value.{Point, powers_value, value_at}
use Rattle.vp_interval.specs.declared.interval.Interval.{Interval}
use Rattle.vp_interval.specs.Interval.{ends}
use Rattle.vp_interval.specs.Polynomial.{AreSmall, powers_of, joined, of_term, interval_of}
use Rattle.vp_interval.specs.Represents.{Represents, RepresentEach, AreValid}
use Rattle.vp_interval.specs.Rounding.{IsValid, Ends, point, sum, product, power}
use Rattle.vp_interval.proofs.Powers.{valid_power, represented_power}
use Rattle.vp_interval.proofs.Rationals.{product-one, one-product, product-comm, product-assoc}
use Rattle.vp_interval.proofs.Represented.{represented_sum, represented_product, represented_equal}
use Rattle.vp_interval.proofs.Validity.{valid_sum, valid_product}

-- valid boxes, each with the value of its place, from place k on
abbrev pub BoxesFrom : ℕ → List Ends → Point → Type 0
BoxesFrom k [] x = Unit {0}
BoxesFrom k (b ∷ bs) x = IsValid b.lo b.hi × Represents b (x k) × BoxesFrom (suc k) bs x

-- a valid interval with the rational
pub record Holds (v : Ends) (q : Rational) : Type 0 where
  pub valid : IsValid v.lo v.hi
  pub represents : Represents v q

holds_product : (v w : Ends) (q r : Rational) → Holds v q → Holds w r → Holds (product v w) (rational_product q r)
holds_product v w q r h k = record { valid = valid_product v w h.valid k.valid; represents = represented_product v w q r h.valid k.valid h.represents k.represents }

holds_sum : (v w : Ends) (q r : Rational) → Holds v q → Holds w r → Holds (sum v w) (rational_sum q r)
holds_sum v w q r h k = record { valid = valid_sum v w h.valid k.valid; represents = represented_sum v w q r h.valid k.valid h.represents k.represents }

holds_equal : (v : Ends) (q r : Rational) → Equals q r → Holds v q → Holds v r
holds_equal v q r e h = record { valid = h.valid; represents = represented_equal v q r e h.represents }

holds_power : (b : Ends) (q : Rational) (n : ℕ) → IsValid b.lo b.hi → Represents b q → Holds (power b (suc n)) (rational_power q (suc n))
holds_power b q n v r = record { valid = valid_power b (suc n) v; represents = represented_power b q (suc n) (omega arith) v r }

-- exponents that are all 0
below_tail : (v e : ℕ) (es : List ℕ) → IsBelow (suc v) (e ∷ es) → IsBelow v es
below_tail v e es h = record { none = λ k l. h.none (suc k) (omega arith) }

no_powers : (k : ℕ) (es : List ℕ) (x : Point) → IsBelow 0 es → Equals (powers_value k es x) (whole (pos 1))
no_powers k [] x h = Equals-refl (whole (pos 1))
no_powers k (zero ∷ es) x h = chain (one-product (powers_value (suc k) es x)) (no_powers (suc k) es x (record { none = λ i l. h.none (suc i) (omega arith) }))
no_powers k (suc n ∷ es) x h = let e = h.none 0 (omega arith) in absurd (omega arith)

-- powers as further factors
folded : (v : Ends) (q : Rational) (k : ℕ) (es : List ℕ) (bs : List Ends) (x : Point) → Holds v q → BoxesFrom k bs x → IsBelow (length bs) es →
    Holds (fold product v (powers_of es bs)) (rational_product q (powers_value k es x))
folded v q k [] bs x h b p = holds_equal v q (rational_product q (whole (pos 1))) (Equals-sym _ _ (product-one q)) h
folded v q k (e ∷ es) [] x h b p =
    let rest = no_powers k (e ∷ es) x p in
    holds_equal v q (rational_product q (powers_value k (e ∷ es) x)) (Equals-sym _ _ (chain (Equals-product q q _ _ (Equals-refl q) rest) (product-one q))) h
folded v q k (zero ∷ es) (b ∷ bs) x h (bv, br, more) p =
    let rest = powers_value (suc k) es x in
    holds_equal (fold product v (powers_of es bs)) (rational_product q rest) (rational_product q (rational_product (whole (pos 1)) rest))
    (Equals-product q q _ _ (Equals-refl q) (Equals-sym _ _ (one-product rest)))
    (folded v q (suc k) es bs x h more (below_tail (length bs) zero es p))
folded v q k (suc n ∷ es) (b ∷ bs) x h (bv, br, more) p =
    let one = rational_power (x k) (suc n) in
    let rest = powers_value (suc k) es x in
    holds_equal (fold product (product v (power b (suc n))) (powers_of es bs)) (rational_product (rational_product q one) rest) (rational_product q (rational_product one rest))
    (product-assoc q one rest)
    (folded (product v (power b (suc n))) (rational_product q one) (suc k) es bs x (holds_product v (power b (suc n)) q one h (holds_power b (x k) n bv br)) more (below_tail (length bs) (suc n) es p))

-- what stands for a product of powers: an interval, or nothing where it is 1
StandsFor : Option Ends → Rational → Type 0
StandsFor None q = Equals q (whole (pos 1))
StandsFor (Some v) q = Holds v q

stands_equal : (o : Option Ends) (q r : Rational) → Equals q r → StandsFor o q → StandsFor o r
unfolding StandsFor
stands_equal None q r e h = chain (Equals-sym q r e) h
stands_equal (Some v) q r e h = holds_equal v q r e h

powers_stand : (k : ℕ) (es : List ℕ) (bs : List Ends) (x : Point) → BoxesFrom k bs x → IsBelow (length bs) es → StandsFor (reduce product (powers_of es bs)) (powers_value k es x)
unfolding StandsFor
powers_stand k [] bs x b p = Equals-refl (whole (pos 1))
powers_stand k (e ∷ es) [] x b p = no_powers k (e ∷ es) x p
powers_stand k (zero ∷ es) (b ∷ bs) x (bv, br, more) p =
    stands_equal (reduce product (powers_of es bs)) (powers_value (suc k) es x) (rational_product (whole (pos 1)) (powers_value (suc k) es x)) (Equals-sym _ _ (one-product (powers_value (suc k) es x)))
    (powers_stand (suc k) es bs x more (below_tail (length bs) zero es p))
powers_stand k (suc n ∷ es) (b ∷ bs) x (bv, br, more) p =
    folded (power b (suc n)) (rational_power (x k) (suc n)) (suc k) es bs x (holds_power b (x k) n bv br) more (below_tail (length bs) (suc n) es p)

-- the point of a whole number
holds_point : (z : ℤ) → unsigned_abs z < 2 ^ 62 → Holds (point z) (whole z)
holds_point (pos n) h = record { valid = record { low_word = (omega (arith, ints), omega (arith, ints)); high_word = (omega (arith, ints), omega (arith, ints)); enclosed = grind (arith, ints) }; represents = record { low = λ _. omega (arith, ints); high = λ _. omega (arith, ints) } }
holds_point (negsuc n) h = record { valid = record { low_word = (omega (arith, ints), omega (arith, ints)); high_word = (omega (arith, ints), omega (arith, ints)); enclosed = grind (arith, ints) }; represents = record { low = λ _. omega (arith, ints); high = λ _. omega (arith, ints) } }

with_coefficient : (o : Option Ends) (q : Rational) (c : ℤ) → unsigned_abs c < 2 ^ 62 → StandsFor o q → Holds (joined product o (point c)) (rational_product (whole c) q)
unfolding StandsFor
with_coefficient None q c h s =
    holds_equal (point c) (whole c) (rational_product (whole c) q)
    (Equals-sym _ _ (chain (Equals-product (whole c) (whole c) q (whole (pos 1)) (Equals-refl (whole c)) s) (product-one (whole c)))) (holds_point c h)
with_coefficient (Some v) q c h s =
    holds_equal (product v (point c)) (rational_product q (whole c)) (rational_product (whole c) q) (product-comm q (whole c)) (holds_product v (point c) q (whole c) s (holds_point c h))

-- the value of a term
term_value : Term → Point → Rational
term_value t x = rational_product (whole t.coef) (powers_value 0 t.mono.powers x)

term_holds : (bs : List Ends) (t : Term) (x : Point) → BoxesFrom 0 bs x → IsBelow (length bs) t.mono.powers → unsigned_abs t.coef < 2 ^ 62 → Holds (of_term bs t) (term_value t x)
unfolding term_value
term_holds bs t x b p h = with_coefficient (reduce product (powers_of t.mono.powers bs)) (powers_value 0 t.mono.powers x) t.coef h (powers_stand 0 t.mono.powers bs x b p)

-- what each term keeps
below : List Ends → Term → Type 0
below bs t = IsBelow (length bs) t.mono.powers

is_small : Term → Type 0
is_small t = unsigned_abs t.coef < 2 ^ 62

-- terms added from left to right
terms_hold : (bs : List Ends) (ts : List Term) (v : Ends) (q : Rational) (x : Point) → BoxesFrom 0 bs x → AreBelow (length bs) ts → AreSmall ts → Holds v q → Holds (fold sum v (map (of_term bs) ts)) (rational_sum q (value_at ts x))
unfolding term_value below is_small
terms_hold bs [] v q x b p s h = holds_equal v q (rational_sum q (whole (pos 0))) (sum-zero q) h
terms_hold bs (t ∷ ts) v q x b p s h =
    let first = term_holds bs t x b (All-head (below bs) t ts p) (All-head is_small t ts s) in
    holds_equal (fold sum (sum v (of_term bs t)) (map (of_term bs) ts)) (rational_sum (rational_sum q (term_value t x)) (value_at ts x)) (rational_sum q (rational_sum (term_value t x) (value_at ts x)))
    (sum-assoc q (term_value t x) (value_at ts x))
    (terms_hold bs ts (sum v (of_term bs t)) (rational_sum q (term_value t x)) x b (All-tail (below bs) t ts p) (All-tail is_small t ts s) (holds_sum v (of_term bs t) q (term_value t x) h first))

from_boxes : (bs : List Ends) (ts : List Term) (x : Point) → BoxesFrom 0 bs x → AreBelow (length bs) ts → AreSmall ts → Holds (interval_of bs ts) (value_at ts x)
unfolding term_value below is_small
from_boxes bs [] x b p s = holds_point (pos 0) (omega arith)
from_boxes bs (t ∷ ts) x b p s =
    terms_hold bs ts (of_term bs t) (term_value t x) x b (All-tail (below bs) t ts p) (All-tail is_small t ts s) (term_holds bs t x b (All-head (below bs) t ts p) (All-head is_small t ts s))

-- from all places
is_valid : Ends → Type 0
is_valid v = IsValid v.lo v.hi

boxes_from : (k : ℕ) (bs : List Ends) (x : Point) → AreValid bs → ((i : ℕ) (v : Ends) → slice_get bs i ≡ Some v → Represents v (x (k + i))) → BoxesFrom k bs x
unfolding is_valid
boxes_from k [] x a h = tt
boxes_from k (b ∷ bs) x a h =
    let first : Represents b (x k) = subst (λ i. Represents b (x i)) (zero_more k) (h 0 b refl) in
    (All-head is_valid b bs a, first, boxes_from (suc k) bs x (All-tail is_valid b bs a) (λ i v e. subst (λ j. Represents v (x j)) (one_more k i) (h (suc i) v e)))
  where
    zero_more : (k : ℕ) → k + 0 ≡ k
    zero_more k = omega arith

    one_more : (k i : ℕ) → k + suc i ≡ suc k + i
    one_more k i = omega arith

pub polynomial_holds : (bs : List Ends) (ts : List Term) (x : Point) → AreValid bs → RepresentEach bs x → AreBelow (length bs) ts → AreSmall ts → Holds (interval_of bs ts) (value_at ts x)
polynomial_holds bs ts x a h p s = from_boxes bs ts x (boxes_from 0 bs x a (λ i v e. subst (λ j. Represents v (x j)) (none_more i) (h.each i v e))) p s
  where
    none_more : (i : ℕ) → i ≡ 0 + i
    none_more i = omega arith

-- the ends of intervals are valid
pub valid_ends : (bs : List Interval) → AreValid (map ends bs)
unfolding is_valid
valid_ends [] = All-nil is_valid
valid_ends (b ∷ bs) = All-cons is_valid (ends b) (map ends bs) b.valid (valid_ends bs)

pub represented_polynomial : (bs : List Interval) (ts : List Term) (x : Point) → RepresentEach (map ends bs) x → AreBelow (length bs) ts → AreSmall ts → Represents (interval_of (map ends bs) ts) (value_at ts x)
represented_polynomial bs ts x h p s = (polynomial_holds (map ends bs) ts x (valid_ends bs) h (subst (λ n. AreBelow n ts) (sym (length-map bs ends)) p) s).represents
