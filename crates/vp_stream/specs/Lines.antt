-- The rules on lines: what of a line is read, which lines are skipped, and how fields are separated.
use Rattle.std.specs.Prelude.{ℕ, ◌-◌, ◌==◌, ◌||◌, Bool, true, false, List, [], ◌∷◌, filter, length, slice_index, take, if◌then◌else◌}
use Rattle.std.specs.List.{slice_split}

-- a space or a tab
abbrev pub is_blank : ℕ → Bool
is_blank b = (b == 32) || (b == 9)

-- the line without one CR at its end
abbrev pub without_return : List ℕ → List ℕ
without_return line = if slice_index line (length line - 1) == 13 then take (length line - 1) line else line

-- the bytes from the first one on that is no blank
abbrev pub behind_blanks : List ℕ → List ℕ
behind_blanks [] = []
behind_blanks (b ∷ line) = if is_blank b then behind_blanks line else b ∷ line

-- nothing, or a first byte `#`
abbrev pub is_comment : List ℕ → Bool
is_comment [] = true
is_comment (b ∷ line) = b == 35

-- spaces and tabs only, or `#` as the first other byte
abbrev pub is_skipped : List ℕ → Bool
is_skipped line = is_comment (behind_blanks line)

-- a part of a line that is a field
abbrev pub has_bytes : List ℕ → Bool
has_bytes [] = false
has_bytes (b ∷ part) = true

-- the fields of a line: the parts between spaces and tabs that have bytes
abbrev pub fields_of : List ℕ → List (List ℕ)
fields_of line = filter has_bytes (slice_split is_blank line)
