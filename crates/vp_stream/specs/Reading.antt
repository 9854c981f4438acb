-- Lines as records: the words of the due record, or the first refusal.
use Rattle.std.specs.Prelude.{ℕ, ◌+◌, ◌==◌, zero, suc, not, ℤ, List, [], ◌∷◌, length, Option, None, Some, Result, Ok, Err, if◌then◌else◌, codes}
use Rattle.std.specs.Str.{bytes_eq}
use Rattle.vp_words.specs.declared.record.Counts.{Counts}
use Rattle.vp_words.specs.declared.record.Kind.{Kind}
use Rattle.vp_words.specs.declared.record.Kind.TheVariants.{Init, Choice, Sense}
use Rattle.vp_words.specs.declared.text.WordErr.{WordErr}
use Rattle.vp_words.specs.Ends.{encloses}
use Rattle.vp_words.specs.Number.{is_finite}
use Rattle.vp_words.specs.Record.{field_count, pair_count}
use Rattle.vp_words.specs.Text.{spelled}
use Rattle.vp_stream.specs.declared.record.LineErr.{LineErr}
use Rattle.vp_stream.specs.declared.record.LineErr.TheVariants.{Tag, Count, Word, Empty}
use Rattle.vp_stream.specs.Lines.{fields_of}

-- the first field of a line names its kind
abbrev pub tag_of : Kind → List ℕ
tag_of Init = codes "i"
tag_of Choice = codes "c"
tag_of Sense = codes "s"

-- the word of field k, or that it spells none
abbrev pub word_of : ℕ → Result ℤ WordErr → Result ℤ LineErr
word_of k (Err e) = Err (Word k)
word_of k (Ok word) = Ok word

-- a word before the words of the later fields; the first refusal counts
abbrev pub with_word : Result ℤ LineErr → Result (List ℤ) LineErr → Result (List ℤ) LineErr
with_word (Err e) words = Err e
with_word (Ok word) (Err e) = Err e
with_word (Ok word) (Ok words) = Ok (word ∷ words)

-- the words of the fields from number k on, or the first field that spells no word
abbrev pub words_of : ℕ → List (List ℕ) → Result (List ℤ) LineErr
words_of k [] = Ok []
words_of k (field ∷ fields) = with_word (word_of k (spelled field)) (words_of (k + 1) fields)

-- the first field that is not valid, where the first word is that of field k: the low end of a pair that
-- encloses no number, or a word behind so many pairs that is not finite. A pair without its high end
-- does not occur, since the number of fields is the due one
abbrev pub first_empty : ℕ → ℕ → List ℤ → Option ℕ
first_empty pairs k [] = None
first_empty zero k (word ∷ words) = if is_finite word then first_empty zero (k + 1) words else Some k
first_empty (suc pairs) k (low ∷ []) = None
first_empty (suc pairs) k (low ∷ high ∷ words) = if encloses low high then first_empty pairs (k + 2) words else Some k

-- the words, unless a field of them is not valid
abbrev pub unless_empty : List ℤ → Option ℕ → Result (List ℤ) LineErr
unless_empty words None = Ok words
unless_empty words (Some k) = Err (Empty k)

-- words that were read, unless a field of them is not valid
abbrev pub checked_words : ℕ → Result (List ℤ) LineErr → Result (List ℤ) LineErr
checked_words pairs (Err e) = Err e
checked_words pairs (Ok words) = unless_empty words (first_empty pairs 1 words)

-- the words of the due record, or the first refusal: the tag, the number of fields behind it, a field
-- that spells no word, a field that is not valid
abbrev pub reading_of_fields : Kind → Counts → List (List ℕ) → Result (List ℤ) LineErr
reading_of_fields due counts [] = Err Tag
reading_of_fields due counts (tag ∷ fields) =
    if not (bytes_eq tag (tag_of due)) then Err Tag
    else if not (length fields == field_count due counts) then Err Count
    else checked_words (pair_count due counts) (words_of 1 fields)

-- the same of a line without its line end
abbrev pub reading : Kind → Counts → List ℕ → Result (List ℤ) LineErr
reading due counts line = reading_of_fields due counts (fields_of line)
