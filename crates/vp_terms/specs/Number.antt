-- Number tokens: digits, digits `/` digits, or digits `.` digits.
use Rattle.std.specs.Prelude.{ℕ, ◌^◌, Bool, ◌&&◌, nat_lt, ◌==◌, IsTrue, List, [], ◌∷◌, ◌++◌, length, drop, Option, None, Some, option_and_then, if◌then◌else◌}
use Rattle.std.specs.Char.{is_ascii_digit}
use Rattle.std.specs.List.{prefix_len, take_while}
use Rattle.std.specs.Str.{all_ascii_digits}
use Rattle.std.specs.Str.Parse.{digits_value, digits_value_after}

-- one decimal digit or more, and nothing else
abbrev pub is_whole : List ℕ → Bool
is_whole ds = nat_lt 0 (length ds) && all_ascii_digits ds

-- the digits that a text begins with, and what follows them
abbrev pub front_digits : List ℕ → List ℕ
front_digits text = take_while is_ascii_digit text

abbrev pub behind_digits : List ℕ → List ℕ
behind_digits text = drop (prefix_len is_ascii_digit text) text

-- the digits ds with what follows them, as a numerator and a denominator: nothing, `/` (47) and
-- digits, or `.` (46) and digits, which all together write the numerator of a decimal
abbrev pub with_rest : List ℕ → List ℕ → Option (ℕ × ℕ)
with_rest ds [] = Some (digits_value 10 ds, 1)
with_rest ds (mark ∷ es) =
    if mark == 47 && is_whole es then Some (digits_value 10 ds, digits_value 10 es)
    else (if mark == 46 && is_whole es then Some (digits_value 10 (ds ++ es), 10 ^ length es) else None)

-- the number that the digits ds write behind those of n, where it is below 2^62
abbrev pub read_on : ℕ → List ℕ → Option ℕ
read_on n ds = if is_whole ds && nat_lt (digits_value_after 10 n ds) (2 ^ 62) then Some (digits_value_after 10 n ds) else None

-- the power of ten, where it is below 2^62
abbrev pub small_power : ℕ → Option ℕ
small_power n = if nat_lt (10 ^ n) (2 ^ 62) then Some (10 ^ n) else None

-- a fraction that is not refused: both parts below 2^62, and the denominator not 0
abbrev pub is_read : ℕ × ℕ → Bool
is_read f = nat_lt f.0 (2 ^ 62) && (nat_lt f.1 (2 ^ 62) && nat_lt 0 f.1)

-- the fraction of a decimal with the digits es behind the `.`, where those before it write n
abbrev pub decimal_from : ℕ → List ℕ → Option (ℕ × ℕ)
decimal_from n es =
    option_and_then (λ f. if is_read f then Some f else None) (if is_whole es then Some (digits_value_after 10 n es, 10 ^ length es) else None)

-- the fraction that digits ds with what follows them write; None also for a refused number
abbrev pub number_from : List ℕ → List ℕ → Option (ℕ × ℕ)
number_from ds rest = option_and_then (λ f. if is_read f then Some f else None) (if is_whole ds then with_rest ds rest else None)

-- the fraction that a number token writes, as it stands; None for any other text and for a refused number
abbrev pub number : List ℕ → Option (ℕ × ℕ)
number text = number_from (front_digits text) (behind_digits text)

-- the text writes the fraction n / d: digits alone, two runs of digits with a `/` between, or two
-- with a `.` between, which together write the numerator over a power of ten
pub data Writes : List ℕ → ℕ → ℕ → Type 0 where
  Whole : (ds : List ℕ) → IsTrue (is_whole ds) → Writes ds (digits_value 10 ds) 1
  Quotient : (ds es : List ℕ) → IsTrue (is_whole ds) → IsTrue (is_whole es) → Writes (ds ++ 47 ∷ es) (digits_value 10 ds) (digits_value 10 es)
  Decimal : (ds es : List ℕ) → IsTrue (is_whole ds) → IsTrue (is_whole es) → Writes (ds ++ 46 ∷ es) (digits_value 10 (ds ++ es)) (10 ^ length es)
