-- The text of a word is read as that word.
use Rattle.std.proofs.Common.{◌≡◌, ℕ, suc, ◌≤◌, false, ◌⊎◌, inl, inr, List, ℤ, pos, negsuc, neg_ℤ, unsigned_abs, codes, refl, ap, sym, ◌∙◌, arith, Result, Ok, Err}
use Rattle.std.proofs.lemmas.Fmt.{decimal_is_IsNumeral}
use Rattle.std.proofs.lemmas.Int.{ints}
use Rattle.std.proofs.lemmas.Str.Parse.{digit_at}
use Rattle.std.specs.Fmt.{decimal, signed_decimal}
use Rattle.std.specs.Ordering.{int_eq}
use Rattle.vp_words.specs.declared.text.WordErr.{WordErr}
use Rattle.vp_words.specs.declared.text.WordErr.TheVariants.{Spelling, Range}
use Rattle.vp_words.specs.Number.{IsWord, inf, minus_inf}
use Rattle.vp_words.specs.Text.{IsNumber, IsSpelling, ReadsWord, Spells, greatest_size, number_of, word_text}
use Rattle.std.specs.Str.Parse.{starts_with_minus}

-- a number's text writes the number
number_spelled : (z : ℤ) → unsigned_abs z ≤ greatest_size → IsNumber (signed_decimal z) × (number_of (signed_decimal z) ≡ z)
number_spelled (pos n) h =
    let p = decimal_is_IsNumeral n (omega arith) in
    let first = digit_at (decimal n) 0 p.0.1 p.0.0 in
    let plain : starts_with_minus (decimal n) ≡ false = grind arith in
    rw plain (p.0, ap pos p.1)
number_spelled (negsuc n) h =
    let p = decimal_is_IsNumeral (suc n) (omega arith) in
    (p.0, ap (λ (k : ℕ). neg_ℤ (pos k)) p.1)

-- the infinities' texts are no numbers
pub not_inf : ¬ (IsNumber (codes "inf"))
not_inf h = absurd (omega (arith, h.1.0))

pub not_minus_inf : ¬ (IsNumber (codes "-inf"))
not_minus_inf h = absurd (omega (arith, h.1.0))

-- a word is one of the infinities, or finite
pub word_cases : (z : ℤ) → IsWord z → (z ≡ inf) ⊎ ((z ≡ minus_inf) ⊎ ((int_eq z inf ≡ false) × (int_eq z minus_inf ≡ false) × (unsigned_abs z ≤ greatest_size)))
word_cases z h = grind (arith, ints)

-- a word's text spells the word
pub word_spelled : (z : ℤ) → IsWord z → Spells (word_text z) z
word_spelled z h =
    elim (word_cases z h) [
      | inl e ↦ rw e (inl (refl, refl))
      | inr f ↦ elim f [
        | inl e ↦ rw e (inr (inl (refl, refl)))
        | inr p ↦ let n = number_spelled z p.2 in rw (p.0, p.1) (inr (inr (n.0, sym n.1, p.2)))
      ]
    ]

-- a text spells one word at most
pub spelled_once : (t : List ℕ) (y z : ℤ) → Spells t y → Spells t z → y ≡ z
spelled_once t y z (inl a) (inl b) = a.1 ∙ sym b.1
spelled_once t y z (inl a) (inr (inl b)) = let e : codes "inf" ≡ codes "-inf" = sym a.0 ∙ b.0 in cc
spelled_once t y z (inl a) (inr (inr b)) = absurd (not_inf (rw a.0 at b.0))
spelled_once t y z (inr (inl a)) (inl b) = let e : codes "inf" ≡ codes "-inf" = sym b.0 ∙ a.0 in cc
spelled_once t y z (inr (inl a)) (inr (inl b)) = a.1 ∙ sym b.1
spelled_once t y z (inr (inl a)) (inr (inr b)) = absurd (not_minus_inf (rw a.0 at b.0))
spelled_once t y z (inr (inr a)) (inl b) = absurd (not_inf (rw b.0 at a.0))
spelled_once t y z (inr (inr a)) (inr (inl b)) = absurd (not_minus_inf (rw b.0 at a.0))
spelled_once t y z (inr (inr a)) (inr (inr b)) = a.1 ∙ sym b.1

-- what is spelled has a spelling, and is not out of range
spelled_is_spelling : (t : List ℕ) (z : ℤ) → Spells t z → IsSpelling t
spelled_is_spelling t z (inl a) = inl a.0
spelled_is_spelling t z (inr (inl a)) = inr (inl a.0)
spelled_is_spelling t z (inr (inr a)) = inr (inr a.0)

spelled_in_range : (t : List ℕ) (z : ℤ) → Spells t z → IsNumber t → unsigned_abs (number_of t) ≤ greatest_size
spelled_in_range t z (inl a) n = absurd (not_inf (rw a.0 at n))
spelled_in_range t z (inr (inl a)) n = absurd (not_minus_inf (rw a.0 at n))
spelled_in_range t z (inr (inr a)) n = rw (← a.1) a.2

pub read_back : (z : ℤ) (r : Result ℤ WordErr) → IsWord z → ReadsWord (word_text z) r → r ≡ Ok z
read_back z (Ok y) w h = ap Ok (spelled_once (word_text z) y z h (word_spelled z w))
read_back z (Err Spelling) w h = absurd (h (spelled_is_spelling (word_text z) z (word_spelled z w)))
read_back z (Err Range) w h = let le = spelled_in_range (word_text z) z (word_spelled z w) h.0 in absurd (omega (arith, h.1))
