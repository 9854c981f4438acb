-- The text of a word: it is read back, it is short, and its bytes are visible.
use Rattle.std.proofs.Common.{◌≡◌, ℕ, suc, ◌≤◌, inl, inr, List, [], ◌∷◌, length, ℤ, pos, negsuc, unsigned_abs, codes, sym, arith, Ok, All}
use Rattle.std.proofs.lemmas.Fmt.{decimal_is_IsNumeral, length_signed_le}
use Rattle.std.proofs.lemmas.List.Elements.{All-nil, All-cons, All-from_recursion}
use Rattle.std.proofs.lemmas.Str.Parse.{digit_from_value}
use Rattle.std.specs.Fmt.{decimal, signed_decimal}
use Rattle.std.specs.Str.Parse.{AllDigits}
use Rattle.vp_words.specs.Number.{IsWord}
use Rattle.vp_words.specs.Text.{IsVisible, greatest_size, spelled, word_text}
use Rattle.vp_words.proofs.Spelled.{reading_is_spelled}
use Rattle.vp_words.proofs.Spelling.{spelled_once, word_cases, word_spelled}

pub text_read_back : (z : ℤ) → IsWord z → spelled (word_text z) ≡ Ok z
text_read_back z w = sym (reading_is_spelled (word_text z) (Ok z) (word_spelled z w))

pub text_tells : (y z : ℤ) → IsWord y → IsWord z → word_text y ≡ word_text z → y ≡ z
text_tells y z wy wz e = spelled_once (word_text z) y z (rw e at (word_spelled y wy)) (word_spelled z wz)

-- a text of digits is visible
digits_visible : (ds : List ℕ) → AllDigits 10 ds → All IsVisible ds
digits_visible [] h = All-nil IsVisible
digits_visible (c ∷ cs) h =
    let r = digit_from_value c h.0 in
    All-cons IsVisible c cs (omega arith, omega arith) (digits_visible cs h.1)

number_visible : (z : ℤ) → unsigned_abs z ≤ greatest_size → All IsVisible (signed_decimal z)
number_visible (pos n) h = digits_visible (decimal n) ((decimal_is_IsNumeral n (omega arith)).0.1)
number_visible (negsuc n) h =
    All-cons IsVisible 45 (decimal (suc n)) (omega arith, omega arith)
    (digits_visible (decimal (suc n)) ((decimal_is_IsNumeral (suc n) (omega arith)).0.1))

number_some : (z : ℤ) → unsigned_abs z ≤ greatest_size → 1 ≤ length (signed_decimal z)
number_some (pos n) h = let p = decimal_is_IsNumeral n (omega arith) in omega (arith, p.0.0)
number_some (negsuc n) h = omega arith

number_room : (z : ℤ) → unsigned_abs z ≤ greatest_size → length (signed_decimal z) ≤ 20
number_room (pos n) h = length_signed_le 19 (pos n) (omega arith) (omega arith)
number_room (negsuc n) h = length_signed_le 19 (negsuc n) (omega arith) (omega arith)

visible_inf : All IsVisible (codes "inf")
visible_inf = All-from_recursion IsVisible (codes "inf") ((omega arith, omega arith), ((omega arith, omega arith), ((omega arith, omega arith), tt)))

visible_minus_inf : All IsVisible (codes "-inf")
visible_minus_inf = All-from_recursion IsVisible (codes "-inf") ((omega arith, omega arith), ((omega arith, omega arith), ((omega arith, omega arith), ((omega arith, omega arith), tt))))

pub text_visible : (z : ℤ) → IsWord z → All IsVisible (word_text z)
text_visible z w =
    elim (word_cases z w) [
      | inl e ↦ rw e visible_inf
      | inr f ↦ elim f [ inl e ↦ rw e visible_minus_inf | inr p ↦ rw (p.0, p.1) (number_visible z p.2) ]
    ]

pub text_some : (z : ℤ) → IsWord z → 1 ≤ length (word_text z)
text_some z w =
    elim (word_cases z w) [
      | inl e ↦ rw e (omega arith)
      | inr f ↦ elim f [ inl e ↦ rw e (omega arith) | inr p ↦ rw (p.0, p.1) (number_some z p.2) ]
    ]

pub text_room : (z : ℤ) → IsWord z → length (word_text z) ≤ 20
text_room z w =
    elim (word_cases z w) [
      | inl e ↦ rw e (omega arith)
      | inr f ↦ elim f [ inl e ↦ rw e (omega arith) | inr p ↦ rw (p.0, p.1) (number_room z p.2) ]
    ]
