-- Kinds of bytes, and how far bytes of a kind go on.
use Rattle.std.specs.Prelude.{ℕ, ◌≡◌, ◌≢◌, ◌<◌, ◌≤◌, Bool, true, false, ◌||◌, ◌&&◌, nat_eq, nat_le, List, length, slice_index}

-- `A` to `Z` or `a` to `z`
abbrev pub is_letter : ℕ → Bool
is_letter b = (nat_le 65 b && nat_le b 90) || (nat_le 97 b && nat_le b 122)

-- `0` to `9`
abbrev pub is_digit : ℕ → Bool
is_digit b = nat_le 48 b && nat_le b 57

-- what a name goes on with: a letter, a digit or `_`
abbrev pub is_word_byte : ℕ → Bool
is_word_byte b = is_letter b || is_digit b || nat_eq b 95

-- a space, a tab, CR or LF
abbrev pub is_space : ℕ → Bool
is_space b = nat_eq b 32 || nat_eq b 9 || nat_eq b 13 || nat_eq b 10

-- the symbols of one byte: `;` `,` `(` `)` `[` `]` `{` `}` `+` `-` `*` `^` `'` `<` `>` `=` `?` `!` `&` `|`
abbrev pub is_symbol : ℕ → Bool
is_symbol b = nat_eq b 59 || nat_eq b 44 || nat_eq b 40 || nat_eq b 41 || nat_eq b 91 || nat_eq b 93 || nat_eq b 123 || nat_eq b 125 || nat_eq b 43 || nat_eq b 45 || nat_eq b 42 || nat_eq b 94 || nat_eq b 39 || nat_eq b 60 || nat_eq b 62 || nat_eq b 61 || nat_eq b 63 || nat_eq b 33 || nat_eq b 38 || nat_eq b 124

-- the symbols of two bytes: `++` `<=` `>=` `!=` `:=`
abbrev pub is_pair : ℕ → ℕ → Bool
is_pair a b = (nat_eq a 43 && nat_eq b 43) || (nat_eq a 60 && nat_eq b 61) || (nat_eq a 62 && nat_eq b 61) || (nat_eq a 33 && nat_eq b 61) || (nat_eq a 58 && nat_eq b 61)

-- the bytes from one place up to another pass a test, and the byte behind them, where there is one, does not
pub record IsRun (test : ℕ → Bool) (text : List ℕ) (from to : ℕ) : Type 0 where
  pub forward : from ≤ to
  pub within : to ≤ length text
  pub each : (k : ℕ) → from ≤ k → k < to → test (slice_index text k) ≡ true
  pub ends : to < length text → test (slice_index text to) ≡ false

-- a comment that begins at one place goes up to another: the next LF, or the end of the text
pub record IsCommentEnd (text : List ℕ) (from to : ℕ) : Type 0 where
  pub forward : from < to
  pub within : to ≤ length text
  pub each : (k : ℕ) → from < k → k < to → slice_index text k ≢ 10
  pub ends : to < length text → slice_index text to ≡ 10
