-- The spelling of a word in text.
use Rattle.std.specs.Prelude.{◌≡◌, ℕ, ◌<◌, ◌≤◌, ◌⊎◌, ◌&&◌, List, All, length, drop, codes, ℤ, pos, neg_ℤ, Result, Ok, Err, unsigned_abs, Bool, nat_lt, if◌then◌else◌, bytes_eq}
use Rattle.std.specs.Fmt.{signed_decimal}
use Rattle.std.specs.Ordering.{int_eq}
use Rattle.std.specs.Str.{all_ascii_digits}
use Rattle.std.specs.Str.Parse.{IsNumeral, digits_value, starts_with_minus}
use Rattle.vp_words.specs.declared.text.WordErr.{WordErr}
use Rattle.vp_words.specs.declared.text.WordErr.TheVariants.{Spelling, Range}
use Rattle.vp_words.specs.Number.{IsWord, inf, minus_inf, is_finite}

-- a text without its leading `-`, if it has one
abbrev pub unsigned_part : List ℕ → List ℕ
unsigned_part text = if starts_with_minus text then drop 1 text else text

-- an optional `-`, and one decimal digit or more
abbrev pub is_number : List ℕ → Bool
is_number text = nat_lt 0 (length (unsigned_part text)) && all_ascii_digits (unsigned_part text)

-- the number that such a text writes
abbrev pub number_of : List ℕ → ℤ
number_of text =
    if starts_with_minus text then neg_ℤ (pos (digits_value 10 (drop 1 text)))
    else pos (digits_value 10 text)

-- the word that a text spells: `inf`, `-inf`, or a number that is a finite word
unfoldable pub spelled : List ℕ → Result ℤ WordErr
spelled text =
    if bytes_eq text (codes "inf") then Ok inf
    else (if bytes_eq text (codes "-inf") then Ok minus_inf
    else (if is_number text then (if is_finite (number_of text) then Ok (number_of text) else Err Range)
    else Err Spelling))

-- the shortest text that spells the word
abbrev pub word_text : ℤ → List ℕ
word_text z =
    if int_eq z inf then codes "inf"
    else (if int_eq z minus_inf then codes "-inf" else signed_decimal z)

-- a visible ASCII character: no space, tab, CR or LF
abbrev pub IsVisible : ℕ → Type 0
IsVisible byte = (33 ≤ byte) × (byte ≤ 126)

-- what texts say of words: each text is one word's, and has visible characters alone
pub record TellsWords : Type 0 where
  pub told : (y z : ℤ) → IsWord y → IsWord z → word_text y ≡ word_text z → y ≡ z
  pub visible : (z : ℤ) → IsWord z → All IsVisible (word_text z)

-- the greatest finite number, as a size
abbrev pub greatest_size : ℕ
greatest_size = 9_223_372_036_854_775_806

-- what reading digits gives: their number, or the error
abbrev pub ReadsDigits : List ℕ → Result ℕ WordErr → Type 0
ReadsDigits ds (Ok n) = IsNumeral 10 ds × (n ≡ digits_value 10 ds) × (n ≤ greatest_size)
ReadsDigits ds (Err Spelling) = ¬ (IsNumeral 10 ds)
ReadsDigits ds (Err Range) = IsNumeral 10 ds × (greatest_size < digits_value 10 ds)

-- an optional `-`, and one digit or more
abbrev pub IsNumber : List ℕ → Type 0
IsNumber text = IsNumeral 10 (unsigned_part text)

-- a number, or one of the two infinities
abbrev pub IsSpelling : List ℕ → Type 0
IsSpelling text = (text ≡ codes "inf") ⊎ ((text ≡ codes "-inf") ⊎ IsNumber text)

-- the text is a spelling of z
abbrev pub Spells : List ℕ → ℤ → Type 0
Spells text z =
    ((text ≡ codes "inf") × (z ≡ inf))
    ⊎ (((text ≡ codes "-inf") × (z ≡ minus_inf))
    ⊎ (IsNumber text × (z ≡ number_of text) × (unsigned_abs z ≤ greatest_size)))

-- what reading a word gives: the word that is spelled, or the error
abbrev pub ReadsWord : List ℕ → Result ℤ WordErr → Type 0
ReadsWord text (Ok z) = Spells text z
ReadsWord text (Err Spelling) = ¬ (IsSpelling text)
ReadsWord text (Err Range) = IsNumber text × (greatest_size < unsigned_abs (number_of text))
