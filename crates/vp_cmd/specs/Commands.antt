-- The commands, and what each of them loads and reads.
use Rattle.std.specs.Prelude.{ℕ, ◌&&◌, nat_le, nat_lt, Bool, true, false, List, [], ◌∷◌, length, map, Option, None, Some, if◌then◌else◌, String, string_bytes, codes}
use Rattle.std.specs.Str.{all_ascii_digits, bytes_eq}
use Rattle.std.specs.Str.Parse.{digits_value}
use Rattle.std.specs.declared.alloc.Global.{Global}

-- a command, with the names of its files and its numbers
pub data Command : Type 0 where
  Check : List ℕ → Command
  Compile : List ℕ → Command
  Exec : List ℕ → Command
  Run : List ℕ → Command
  Listing : List ℕ → Command
  Log : List ℕ → List ℕ → Command
  SelfTest : ℕ → ℕ → Command
  Demo : Command

-- the words as texts
abbrev pub texts : List (String Global) → List (List ℕ)
texts words = map string_bytes words

-- the number that a text of 1 to so many decimal digits writes
abbrev pub number_within : ℕ → List ℕ → Option ℕ
number_within most text =
    if nat_lt 0 (length text) && (nat_le (length text) most && all_ascii_digits text) then Some (digits_value 10 text) else None

-- the number where it is from `low` to `high`
abbrev pub from_to : ℕ → ℕ → Option ℕ → Option ℕ
from_to low high None = None
from_to low high (Some n) = if nat_le low n && nat_le n high then Some n else None

-- a seed has 1 to 20 digits and is below 2^64
abbrev pub seed_of : List ℕ → Option ℕ
seed_of text = from_to 0 18_446_744_073_709_551_615 (number_within 20 text)

-- a number of rounds has 1 to 6 digits and is from 1 to 100,000
abbrev pub rounds_of : List ℕ → Option ℕ
rounds_of text = from_to 1 100_000 (number_within 6 text)

abbrev pub self_test : Option ℕ → Option ℕ → Option Command
self_test None rounds = None
self_test (Some seed) None = None
self_test (Some seed) (Some rounds) = Some (SelfTest seed rounds)

abbrev pub one_word : List ℕ → Option Command
one_word word = if bytes_eq word (codes "demo") then Some Demo else None

abbrev pub two_words : List ℕ → List ℕ → Option Command
two_words word name =
    if bytes_eq word (codes "check") then Some (Check name)
    else if bytes_eq word (codes "compile") then Some (Compile name)
    else if bytes_eq word (codes "exec") then Some (Exec name)
    else if bytes_eq word (codes "run") then Some (Run name)
    else if bytes_eq word (codes "list") then Some (Listing name)
    else None

abbrev pub three_words : List ℕ → List ℕ → List ℕ → Option Command
three_words word first second =
    if bytes_eq word (codes "log") then Some (Log first second)
    else if bytes_eq word (codes "selftest") then self_test (seed_of first) (rounds_of second)
    else None

-- the command that words are, if they are one
abbrev pub command_of : List (List ℕ) → Option Command
command_of (word ∷ []) = one_word word
command_of (word ∷ first ∷ []) = two_words word first
command_of (word ∷ first ∷ second ∷ []) = three_words word first second
command_of words = None

-- the command, unless it is not built yet: its words are then as good as none
abbrev pub built : Option Command → Option Command
built (Some (Check p)) = Some (Check p)
built (Some (Log p c)) = None
built (Some (SelfTest seed rounds)) = None
built command = command

-- the command that is done for words, if one is
abbrev pub chosen : List (List ℕ) → Option Command
chosen words = built (command_of words)

-- the command answers an input
abbrev pub reads_input : Option Command → Bool
reads_input (Some (Exec i)) = true
reads_input (Some (Run p)) = true
reads_input command = false

-- the file that it loads first
abbrev pub first_file : Option Command → Option (List ℕ)
first_file None = None
first_file (Some (Check p)) = Some p
first_file (Some (Compile p)) = Some p
first_file (Some (Exec i)) = Some i
first_file (Some (Run p)) = Some p
first_file (Some (Listing p)) = Some p
first_file (Some (Log p c)) = Some p
first_file (Some (SelfTest seed rounds)) = None
first_file (Some Demo) = None

-- and the one that it loads next
abbrev pub second_file : Option Command → Option (List ℕ)
second_file (Some (Log p c)) = Some c
second_file command = None

-- it writes an image
abbrev pub writes_image : Option Command → Bool
writes_image (Some (Compile p)) = true
writes_image (Some Demo) = true
writes_image command = false
