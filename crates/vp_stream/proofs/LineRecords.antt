-- A line that is read is a record of the due kind.
use Rattle.std.proofs.Common.{◌≡◌, ℕ, suc, ◌+◌, ◌*◌, ◌≤◌, Bool, true, false, not, ℤ, List, [], ◌∷◌, ◌++◌, length, take, Option, None, Some, Result, Ok, Err, refl, ap, ◌∙◌, arith}
use Rattle.std.specs.Prelude.{All, if◌then◌else◌, ◌==◌, bytes_eq, codes}
use Rattle.std.proofs.lemmas.Bool.{eqb-true}
use Rattle.std.proofs.lemmas.Int.{ints}
use Rattle.std.proofs.lemmas.List.{take-append-le, take_all}
use Rattle.std.proofs.lemmas.List.Elements.{All-cons, All-nil}
use Rattle.vp_words.specs.declared.record.Counts.{Counts}
use Rattle.vp_words.specs.declared.record.Kind.{Kind}
use Rattle.vp_words.specs.declared.record.Kind.TheVariants.{Init, Choice, Sense}
use Rattle.vp_words.specs.declared.text.WordErr.{WordErr}
use Rattle.vp_words.specs.Number.{IsWord, is_finite, inf, minus_inf}
use Rattle.vp_words.specs.Exchanges.{IsRecordOf}
use Rattle.vp_words.specs.Record.{field_count, pair_count}
use Rattle.vp_words.specs.Text.{spelled, is_number, number_of}
use Rattle.vp_stream.specs.declared.record.LineErr.{LineErr}
use Rattle.vp_stream.specs.Reading.{word_of, with_word, words_of, first_empty, unless_empty, checked_words, tag_of, reading_of_fields, reading}
use Rattle.vp_stream.specs.Lines.{fields_of}
use Rattle.vp_stream.proofs.Valid.{none_empty}

-- what a field spells is a word
finite_word : (z : ℤ) → is_finite z ≡ true → IsWord z
finite_word z h = grind (arith, ints)

number_word : (b : Bool) (z w : ℤ) (e : WordErr) → is_finite z ≡ b → (if b then Ok z else Err e) ≡ Ok w → IsWord w
number_word true z w e f h = let s : z ≡ w = cc in let k : IsWord z = finite_word z f in rw (← s) k
number_word false z w e f h = absurd cc

is_word_inf : IsWord inf
is_word_inf = grind (arith, ints)

is_word_minus_inf : IsWord minus_inf
is_word_minus_inf = grind (arith, ints)

spelled_by : (a b c d : Bool) (z w : ℤ) (e f : WordErr) → is_finite z ≡ d
    → (if a then Ok inf else (if b then Ok minus_inf else (if c then (if d then Ok z else Err e) else Err f))) ≡ Ok w → IsWord w
spelled_by true b c d z w e f k h = let s : inf ≡ w = cc in rw (← s) is_word_inf
spelled_by false true c d z w e f k h = let s : minus_inf ≡ w = cc in rw (← s) is_word_minus_inf
spelled_by false false true d z w e f k h = number_word d z w e k h
spelled_by false false false d z w e f k h = absurd cc

spelled_word : (text : List ℕ) (w : ℤ) → spelled text ≡ Ok w → IsWord w
unfolding spelled
spelled_word text w h =
    spelled_by (bytes_eq text (codes "inf")) (bytes_eq text (codes "-inf")) (is_number text) (is_finite (number_of text)) (number_of text) w _ _ refl h

-- as many words as fields
record Read (fields : List (List ℕ)) (words : List ℤ) : Type 0 where
  count : length words ≡ length fields
  all : All IsWord words

read_one : (fields : List (List ℕ)) (k : ℕ) (w : Result ℤ WordErr) (rest : Result (List ℤ) LineErr) (words : List ℤ) → ((z : ℤ) → w ≡ Ok z → IsWord z)
    → ((ws : List ℤ) → rest ≡ Ok ws → Read fields ws) → with_word (word_of k w) rest ≡ Ok words → (field : List ℕ) → Read (field ∷ fields) words
read_one fields k (Err e) rest words one more h field = absurd cc
read_one fields k (Ok z) (Err e) words one more h field = absurd cc
read_one fields k (Ok z) (Ok ws) words one more h field =
    let e : z ∷ ws ≡ words = cc in
    let r = more ws refl in
    rw (← e) (record { count = ap suc r.count; all = All-cons IsWord z ws (one z refl) r.all })

words_read : (fields : List (List ℕ)) (k : ℕ) (words : List ℤ) → words_of k fields ≡ Ok words → Read fields words
words_read [] k words h = let e : [] ≡ words = cc in rw (← e) (record { count = refl; all = All-nil IsWord })
words_read (field ∷ fields) k words h =
    read_one fields k (spelled field) (words_of (k + 1) fields) words (spelled_word field) (λ ws. words_read fields (k + 1) ws) h field

-- words in front, as many as are due, that were read of fields of which none is empty
pub read_words_are : (counts : Counts) (kind : Kind) (fields : List (List ℕ)) (words rest : List ℤ) (len pairs : ℕ) → length words ≡ len → len ≡ field_count kind counts
    → pairs ≡ pair_count kind counts → 2 * pairs ≤ field_count kind counts → first_empty pairs 1 words ≡ None → words_of 1 fields ≡ Ok words → IsRecordOf counts kind (take len (words ++ rest))
read_words_are counts kind fields words rest len pairs long count paired room none e =
    let front : take len (words ++ rest) ≡ words = take-append-le len words rest (omega arith) ∙ take_all len words (omega arith) in
    rw front (record {
      count = long ∙ count;
      words = (words_read fields 1 words e).all;
      valid = rw (← paired, none_empty pairs 1 words (omega (arith, long, count, room)) none) refl;
    })

pair_room : (kind : Kind) (c : Counts) → 2 * pair_count kind c ≤ field_count kind c
pair_room Init c = omega arith
pair_room Choice c = omega arith
pair_room Sense c = omega arith

checked_by : (kind : Kind) (c : Counts) (fields : List (List ℕ)) (ws words : List ℤ) (o : Option ℕ) → first_empty (pair_count kind c) 1 ws ≡ o → Read fields ws → length fields ≡ field_count kind c
    → unless_empty ws o ≡ Ok words → IsRecordOf c kind words
checked_by kind c fields ws words (Some k) none r count h = absurd cc
checked_by kind c fields ws words None none r count h =
    let e : ws ≡ words = cc in
    let long : length ws ≡ field_count kind c = r.count ∙ count in
    let room = pair_room kind c in
    rw (← e) (record { count = long; words = r.all; valid = none_empty (pair_count kind c) 1 ws (omega arith) none })

words_checked : (kind : Kind) (c : Counts) (fields : List (List ℕ)) (r : Result (List ℤ) LineErr) (words : List ℤ) → ((ws : List ℤ) → r ≡ Ok ws → Read fields ws) → length fields ≡ field_count kind c
    → checked_words (pair_count kind c) r ≡ Ok words → IsRecordOf c kind words
words_checked kind c fields (Err e) words read count h = absurd cc
words_checked kind c fields (Ok ws) words read count h = checked_by kind c fields ws words _ refl (read ws refl) count h

fields_by : (kind : Kind) (c : Counts) (fields : List (List ℕ)) (words : List ℤ) (tagged counted : Bool) → (length fields == field_count kind c) ≡ counted
    → (if not tagged then Err LineErr.Tag else (if not counted then Err LineErr.Count else checked_words (pair_count kind c) (words_of 1 fields))) ≡ Ok words → IsRecordOf c kind words
fields_by kind c fields words false counted n h = absurd cc
fields_by kind c fields words true false n h = absurd cc
fields_by kind c fields words true true n h = words_checked kind c fields (words_of 1 fields) words (words_read fields 1) (eqb-true _ _ n) h

fields_read : (kind : Kind) (c : Counts) (fields : List (List ℕ)) (words : List ℤ) → reading_of_fields kind c fields ≡ Ok words → IsRecordOf c kind words
fields_read kind c [] words h = absurd cc
fields_read kind c (tag ∷ fields) words h = fields_by kind c fields words (bytes_eq tag (tag_of kind)) (length fields == field_count kind c) refl h

-- words that a line is read as are a record of the kind
pub read_is_record : (kind : Kind) (c : Counts) (line : List ℕ) (words : List ℤ) → reading kind c line ≡ Ok words → IsRecordOf c kind words
read_is_record kind c line words h = fields_read kind c (fields_of line) words h
