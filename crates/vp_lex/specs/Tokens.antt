-- The tokens of a text: each as long as possible, with spaces and comments between.
use Rattle.std.specs.Prelude.{ℕ, ◌+◌, ◌-◌, ◌≡◌, ◌≢◌, ◌<◌, ◌≤◌, ◌⊎◌, true, false, List, [], ◌∷◌, length, drop, take, slice_index, Result, Ok, Err, Option, Some, None}
use Rattle.vp_lex.specs.declared.token.TokenKind.{TokenKind}
use Rattle.vp_lex.specs.declared.token.TokenKind.TheVariants.{Name, Next, Number, Word, Symbol}
use Rattle.vp_lex.specs.declared.token.Token.{Token}
use Rattle.vp_lex.specs.declared.token.LexErr.{LexErr}
use Rattle.vp_lex.specs.declared.token.LexErr.TheVariants.{Byte, Memory}
use Rattle.vp_lex.specs.Reserved.{IsReserved}
use Rattle.vp_lex.specs.Bytes.{is_letter, is_digit, is_word_byte, is_space, is_symbol, is_pair, IsCommentEnd}

-- the first n bytes are a letter, then letters, digits and `_`
pub record IsWordlike (bytes : List ℕ) (n : ℕ) : Type 0 where
  pub some : 0 < n
  pub within : n ≤ length bytes
  pub letter : is_letter (slice_index bytes 0) ≡ true
  pub each : (k : ℕ) → k < n → is_word_byte (slice_index bytes k) ≡ true

-- the first n bytes are such a word, and it is not reserved
abbrev pub IsName : List ℕ → ℕ → Type 0
IsName bytes n = IsWordlike bytes n × (IsReserved (take n bytes) → ⊥)

-- the bytes from one place up to another are one digit or more
pub record AreDigits (bytes : List ℕ) (from to : ℕ) : Type 0 where
  pub some : from < to
  pub within : to ≤ length bytes
  pub each : (k : ℕ) → from ≤ k → k < to → is_digit (slice_index bytes k) ≡ true

-- digits up to a mark, the mark `/` (47) or `.` (46), and digits behind it
pub record IsFraction (bytes : List ℕ) (mark to : ℕ) : Type 0 where
  pub whole : AreDigits bytes 0 mark
  pub marked : (slice_index bytes mark ≡ 47) ⊎ (slice_index bytes mark ≡ 46)
  pub part : AreDigits bytes (mark + 1) to

-- the first n bytes spell a token of the kind; what a next name has behind its name is `@` (64)
abbrev pub Spells : TokenKind → List ℕ → ℕ → Type 0
Spells Name bytes n = IsName bytes n
Spells Next bytes n = (m : ℕ) × (n ≡ m + 1) × IsName bytes m × (n ≤ length bytes) × (slice_index bytes m ≡ 64)
Spells Number bytes n = AreDigits bytes 0 n ⊎ ((mark : ℕ) × IsFraction bytes mark n)
Spells Word bytes n = IsWordlike bytes n × IsReserved (take n bytes)
Spells Symbol bytes n = ((n ≡ 1) × (1 ≤ length bytes) × (is_symbol (slice_index bytes 0) ≡ true)) ⊎ ((n ≡ 2) × (2 ≤ length bytes) × (is_pair (slice_index bytes 0) (slice_index bytes 1) ≡ true))

-- no spelling of any kind in front is longer than n bytes
abbrev pub HasNoLonger : List ℕ → ℕ → Type 0
HasNoLonger bytes n = (k : TokenKind) (m : ℕ) → Spells k bytes m → m ≤ n

-- the first n bytes spell a token of the kind, and as long a one as possible
abbrev pub IsLongest : List ℕ → TokenKind → ℕ → Type 0
IsLongest bytes kind n = Spells kind bytes n × HasNoLonger bytes n

-- no token is spelled in front
abbrev pub HasNone : List ℕ → Type 0
HasNone bytes = (k : TokenKind) (m : ℕ) → Spells k bytes m → ⊥

-- the longest token in front, or that there is none
abbrev pub IsFound : List ℕ → Option (TokenKind × ℕ) → Type 0
IsFound bytes (Some x) = IsLongest bytes x.0 x.1
IsFound bytes None = HasNone bytes

-- the bytes from one place up to another are spaces and whole comments, which begin with `#` (35)
pub data IsGap (text : List ℕ) : ℕ → ℕ → Type 0 where
  nothing : (i : ℕ) → IsGap text i i
  spaced : (i to : ℕ) → i < length text → is_space (slice_index text i) ≡ true → IsGap text (i + 1) to → IsGap text i to
  commented : (i end to : ℕ) → i < length text → slice_index text i ≡ 35 → IsCommentEnd text i end → IsGap text end to → IsGap text i to

-- a token is the longest one that is spelled at its place
pub record IsToken (text : List ℕ) (t : Token) : Type 0 where
  pub some : t.from < t.to
  pub within : t.to ≤ length text
  pub longest : IsLongest (drop t.from text) t.kind (t.to - t.from)

-- from one place up to another stand these tokens in order, with nothing but gaps between and around them
abbrev pub Fills : List ℕ → ℕ → List Token → ℕ → Type 0
Fills text i [] to = IsGap text i to
Fills text i (t ∷ ts) to = IsGap text i t.from × IsToken text t × Fills text t.to ts to

-- the byte at a place is in no gap, and no token begins there
pub record IsStray (text : List ℕ) (at : ℕ) : Type 0 where
  pub within : at < length text
  pub no_space : is_space (slice_index text at) ≡ false
  pub no_comment : slice_index text at ≢ 35
  pub no_token : HasNone (drop at text)

-- from a place on a text is filled by these tokens; or by some tokens up to the first byte that is in none
abbrev pub TokenizesFrom : List ℕ → ℕ → Result (List Token) ℕ → Type 0
TokenizesFrom text i (Ok tokens) = Fills text i tokens (length text)
TokenizesFrom text i (Err at) = (tokens : List Token) × Fills text i tokens at × IsStray text at

-- the whole text has these tokens, or this first byte that is in none
abbrev pub Tokenizes : List ℕ → Result (List Token) ℕ → Type 0
Tokenizes text outcome = TokenizesFrom text 0 outcome

-- a byte is refused where it is the first in no token; want of memory says nothing of the text
abbrev pub Refuses : List ℕ → LexErr → Type 0
Refuses text (Byte at) = Tokenizes text (Err at)
Refuses text Memory = Unit {0}
