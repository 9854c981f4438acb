-- What reading gives is what the text spells.
use Rattle.std.proofs.Common.{◌≡◌, ◌≢◌, ℕ, ◌<◌, ◌≤◌, Bool, true, false, ◌&&◌, inl, inr, List, length, ℤ, pos, negsuc, unsigned_abs, codes, nat_lt, if◌then◌else◌, refl, ap, arith, Result, Ok, Err}
use Rattle.std.proofs.lemmas.Int.{ints}
use Rattle.std.proofs.lemmas.Slice.Eq.{bytes_eq-Decides}
use Rattle.std.proofs.lemmas.Str.Parse.{numerals_by_value, tells_all_ascii_digits}
use Rattle.std.specs.Str.{all_ascii_digits, bytes_eq}
use Rattle.std.specs.Str.Parse.{AllDigits}
use Rattle.vp_words.specs.declared.text.WordErr.{WordErr}
use Rattle.vp_words.specs.declared.text.WordErr.TheVariants.{Spelling, Range}
use Rattle.vp_words.specs.Number.{IsWord, inf, minus_inf, is_finite}
use Rattle.vp_words.specs.Text.{IsNumber, ReadsWord, greatest_size, is_number, number_of, spelled, unsigned_part}
use Rattle.vp_words.proofs.Spelling.{not_inf, not_minus_inf}

flag_false : (r : Bool) → ¬ (r ≡ true) → r ≡ false
flag_false true h = absurd (h refl)
flag_false false h = refl

pub both : (p q : Bool) → (p && q) ≡ true → (p ≡ true) × (q ≡ true)
both true true h = (refl, refl)
both true false h = absurd (cc)
both false q h = absurd (cc)

other_bytes : (t u : List ℕ) → t ≢ u → bytes_eq t u ≡ false
other_bytes t u apart = flag_false (bytes_eq t u) (λ e. apart ((bytes_eq-Decides t u).0 e))

-- the test of a number's spelling
digits_tested : (ds : List ℕ) → AllDigits 10 ds → all_ascii_digits ds ≡ true
digits_tested ds h = (numerals_by_value _ tells_all_ascii_digits).from ds h

tested_digits : (ds : List ℕ) → all_ascii_digits ds ≡ true → AllDigits 10 ds
tested_digits ds h = (numerals_by_value _ tells_all_ascii_digits).to ds h

some : (n : ℕ) → 0 < n → nat_lt 0 n ≡ true
some n h = grind arith

tested_some : (n : ℕ) → nat_lt 0 n ≡ true → 0 < n
tested_some n h = grind arith

number_tested : (t : List ℕ) → IsNumber t → is_number t ≡ true
number_tested t h = rw (some (length (unsigned_part t)) h.0) (digits_tested (unsigned_part t) h.1)

no_number : (t : List ℕ) → ¬ (IsNumber t) → is_number t ≡ false
no_number t wrong =
    flag_false (is_number t) (λ e.
    let p = both (nat_lt 0 (length (unsigned_part t))) (all_ascii_digits (unsigned_part t)) e in
    wrong (tested_some (length (unsigned_part t)) p.0, tested_digits (unsigned_part t) p.1))

in_range : (z : ℤ) → unsigned_abs z ≤ greatest_size → is_finite z ≡ true
in_range (pos n) h = grind (arith, ints)
in_range (negsuc n) h = grind (arith, ints)

out_of_range : (z : ℤ) → greatest_size < unsigned_abs z → is_finite z ≡ false
out_of_range (pos n) h = grind (arith, ints)
out_of_range (negsuc n) h = grind (arith, ints)

-- a number's text is no infinity's
number_not_inf : (t : List ℕ) → IsNumber t → bytes_eq t (codes "inf") ≡ false
number_not_inf t n = other_bytes t (codes "inf") (λ e. not_inf (rw e at n))

number_not_minus_inf : (t : List ℕ) → IsNumber t → bytes_eq t (codes "-inf") ≡ false
number_not_minus_inf t n = other_bytes t (codes "-inf") (λ e. not_minus_inf (rw e at n))

pub reading_is_spelled : (t : List ℕ) (r : Result ℤ WordErr) → ReadsWord t r → r ≡ spelled t
unfolding spelled
reading_is_spelled t (Ok z) (inl h) = rw h.0 (ap Ok h.1)
reading_is_spelled t (Ok z) (inr (inl h)) = rw h.0 (ap Ok h.1)
reading_is_spelled t (Ok z) (inr (inr h)) =
    let f = in_range (number_of t) (rw h.1 at h.2) in
    rw (number_not_inf t h.0, number_not_minus_inf t h.0, number_tested t h.0, f) (ap Ok h.1)
reading_is_spelled t (Err Spelling) h =
    let p = other_bytes t (codes "inf") (λ e. h (inl e)) in
    let q = other_bytes t (codes "-inf") (λ e. h (inr (inl e))) in
    rw (p, q, no_number t (λ n. h (inr (inr n)))) refl
reading_is_spelled t (Err Range) h =
    rw (number_not_inf t h.0, number_not_minus_inf t h.0, number_tested t h.0, out_of_range (number_of t) h.1) refl

-- what is spelled is a word
finite_word : (z : ℤ) → is_finite z ≡ true → IsWord z
finite_word z h = (grind (arith, ints), grind (arith, ints))

word_of_choice : (p q n f : Bool) (v z : ℤ) → (f ≡ true → IsWord v) →
    (if p then Ok inf else (if q then Ok minus_inf else (if n then (if f then Ok v else Err Range) else Err Spelling))) ≡ Ok z → IsWord z
word_of_choice true q n f v z h e = let k : inf ≡ z = cc in rw (← k) (omega (arith, ints), omega (arith, ints))
word_of_choice false true n f v z h e = let k : minus_inf ≡ z = cc in rw (← k) (omega (arith, ints), omega (arith, ints))
word_of_choice false false true true v z h e = let k : v ≡ z = cc in rw (← k) (h refl)
word_of_choice false false true false v z h e = absurd (cc)
word_of_choice false false false f v z h e = absurd (cc)

pub spelled_word : (t : List ℕ) (z : ℤ) → spelled t ≡ Ok z → IsWord z
unfolding spelled
spelled_word t z e = word_of_choice (bytes_eq t (codes "inf")) (bytes_eq t (codes "-inf")) (is_number t) (is_finite (number_of t)) (number_of t) z (finite_word (number_of t)) e
