-- A fraction is its two parts, and a text writes one number.
use Rattle.std.proofs.Common.{◌≡◌, ℕ, ◌<◌, ◌^◌, Bool, true, false, ℤ, pos, ◌*ℤ◌, List, Option, None, Some, IsTrue, if◌then◌else◌, ap, subst, sym, ◌∙◌, arith, refl, rules}
use Rattle.std.specs.Str.Parse.{digits_value}
use Rattle.std.specs.Option.{IsSomeAnd}
use Rattle.std.proofs.Math.Bridge.{le_prop}
use Rattle.std.proofs.Math.Nat.{∣_prop, one-dvd}
use Rattle.std.proofs.lemmas.Bool.{ltb-true}
use Rattle.std.proofs.lemmas.Int.{ints}
use Rattle.std.proofs.Math.Dec.{T_prop}
use Rattle.vp_terms.specs.Lowest.{IsLowest}
use Rattle.vp_terms.specs.Rational.{Equals}
use Rattle.vp_terms.specs.Meaning.{rational}
use Rattle.vp_terms.specs.Number.{number, is_read, is_whole}
use Rattle.vp_terms.specs.Ratios.{IsNumber, IsQuotient}
use Rattle.vp_terms.specs.declared.ratio.Ratio.{Ratio}
use Rattle.vp_terms.proofs.RationalLaws.{cancel, swap_right}
use Rattle.vp_terms.proofs.Sizes.{size_is}
use Rattle.vp_terms.proofs.Unique.{same_num, same_den}
use Rattle.vp_terms.proofs.Written.{digits_are_read, read_is_written}

lowest_prop : (n d : ℤ) → IsProp (IsLowest n d)
lowest_prop n d = hlevel (∣_prop, le_prop, T_prop)

abbrev ratio_of : (n d : ℤ) → IsLowest n d → Ratio
ratio_of n d p = record { num = n; den = d; lowest = p }

pub same_parts_same : (a b : Ratio) → a.num ≡ b.num → a.den ≡ b.den → a ≡ b
same_parts_same a b n d =
    let same : (q : IsLowest a.num a.den) → a ≡ ratio_of a.num a.den q = λ q. ap (ratio_of a.num a.den) (lowest_prop a.num a.den a.lowest q) in
    let P : ℤ → Type 0 = λ m. (q : IsLowest m a.den) → a ≡ ratio_of m a.den q in
    let Q : ℤ → Type 0 = λ e. (q : IsLowest b.num e) → a ≡ ratio_of b.num e q in
    let first : P b.num = subst P n same in
    let second : Q b.den = subst Q d first in
    second b.lowest

-- the parts of the number 0
pub nought_lowest : IsLowest (pos 0) (pos 1)
nought_lowest = record { positive = omega (arith, ints); num_small = ltb-true 0 (2 ^ 62) refl; den_small = ltb-true 1 (2 ^ 62) refl; coprime = (one-dvd 0, one-dvd 1, λ d h k. k) }

-- two fractions that are equal to n over d have crossed products that are equal
crossed : (a b : Ratio) (n : ℤ) (d : ℕ) → 0 < d → IsQuotient n (pos d) a → IsQuotient n (pos d) b → a.num *ℤ b.den ≡ b.num *ℤ a.den
crossed a b n d h p q = cancel (a.num *ℤ b.den) (b.num *ℤ a.den) d h (swap_right a.num b.den (pos d) ∙ ap (λ (z : ℤ). z *ℤ b.den) p ∙ swap_right n a.den b.den ∙ ap (λ (z : ℤ). z *ℤ a.den) (sym q) ∙ swap_right b.num (pos d) a.den)

same_quotient : (a b : Ratio) (n : ℤ) (d : ℕ) → 0 < d → IsQuotient n (pos d) a → IsQuotient n (pos d) b → a ≡ b
same_quotient a b n d h p q =
    let e : Equals (rational a) (rational b) = record { crossed = ap (λ (z : ℤ). a.num *ℤ z) (size_is b.den b.lowest.positive) ∙ crossed a b n d h p q ∙ ap (λ (z : ℤ). b.num *ℤ z) (sym (size_is a.den a.lowest.positive)) } in
    same_parts_same a b (same_num a b e) (same_den a b e)

read_positive : (n d : ℕ) → IsTrue (is_read (n, d)) → 0 < d
read_positive n d h = search rules

pub one_number : (text : List ℕ) (a b : Ratio) → IsNumber text a → IsNumber text b → a ≡ b
one_number text a b p q = from (number text) refl p q
  where
    from : (o : Option (ℕ × ℕ)) → number text ≡ o → IsSomeAnd o (λ f. IsQuotient (pos f.0) (pos f.1) a) → IsSomeAnd o (λ f. IsQuotient (pos f.0) (pos f.1) b) → a ≡ b
    from None e p q = absurd p
    from (Some f) e p q = same_quotient a b (pos f.0) f.1 (read_positive f.0 f.1 (read_is_written text f.0 f.1 e).1) p q

whole_lowest : (n : ℕ) → n < 2 ^ 62 → IsLowest (pos n) (pos 1)
whole_lowest n h = record { positive = omega (arith, ints); num_small = h; den_small = ltb-true 1 (2 ^ 62) refl; coprime = (one-dvd n, one-dvd 1, λ d h k. k) }

read_small : (n d : ℕ) → IsTrue (is_read (n, d)) → n < 2 ^ 62
read_small n d h = search rules

-- digits alone write a whole number
pub whole_number : (text : List ℕ) (r : Ratio) → IsTrue (is_whole text) → IsNumber text r → r.den ≡ pos 1
whole_number text r h p = of (is_read (digits_value 10 text, 1)) refl (subst (λ (o : Option (ℕ × ℕ)). IsSomeAnd o (λ f. IsQuotient (pos f.0) (pos f.1) r)) (digits_are_read text h) p)
  where
    of : (b : Bool) → is_read (digits_value 10 text, 1) ≡ b → IsSomeAnd {T = ℕ × ℕ} (if b then Some (digits_value 10 text, 1) else None) (λ f. IsQuotient (pos f.0) (pos f.1) r) → r.den ≡ pos 1
    of true e q =
        let m : ℕ = digits_value 10 text in
        let w : Ratio = ratio_of (pos m) (pos 1) (whole_lowest m (read_small m 1 e)) in
        let same : r ≡ w = same_quotient r w (pos m) 1 (omega arith) q refl in
        ap (λ (x : Ratio). x.den) same
    of false e q = absurd q
