-- A record that was read is valid.
use Rattle.std.proofs.Common.{◌≡◌, ℕ, zero, suc, ◌+◌, ◌-◌, ◌*◌, ◌≤◌, Bool, true, false, cond, ℤ, pos, List, [], ◌∷◌, ◌++◌, length, take, drop, replicate, Option, None, Some, refl, ap, sym, ◌∙◌, arith}
use Rattle.std.specs.List.{list_all}
use Rattle.std.proofs.lemmas.List.{drop-replicate, take-append-le, take_all}
use Rattle.vp_words.specs.declared.record.Counts.{Counts}
use Rattle.vp_words.specs.declared.record.Kind.{Kind}
use Rattle.vp_words.specs.Ends.{encloses}
use Rattle.vp_words.specs.Number.{is_finite}
use Rattle.vp_words.specs.Record.{IsRecord, field_count, pair_count, pairs_then_finite}
use Rattle.vp_stream.specs.Reading.{first_empty}

passed : (b : Bool) (k : ℕ) (r : Option ℕ) → cond b r (Some k) ≡ None → (b ≡ true) × (r ≡ None)
passed true k r h = (refl, h)
passed false k r h = absurd cc

all_finite : (k : ℕ) (words : List ℤ) → first_empty 0 k words ≡ None → list_all is_finite words ≡ true
all_finite k [] h = refl
all_finite k (word ∷ words) h =
    let first = passed (is_finite word) k _ h in
    rw first.0 (all_finite (k + 1) words first.1)

-- where no field is empty the words are valid
pub none_empty : (pairs k : ℕ) (words : List ℤ) → 2 * pairs ≤ length words → first_empty pairs k words ≡ None → pairs_then_finite pairs words ≡ true
none_empty zero k words long h = all_finite k words h
none_empty (suc pairs) k [] long h = absurd (omega arith)
none_empty (suc pairs) k (low ∷ []) long h = absurd (omega arith)
none_empty (suc pairs) k (low ∷ high ∷ words) long h =
    let first = passed (encloses low high) k _ h in
    let rest = none_empty pairs (k + 2) words (omega arith) first.1 in
    rw (first.0, rest) refl

pub record_is_valid : (counts : Counts) (kind : Kind) (words rest : List ℤ) (len pairs : ℕ) → rest ≡ drop len (replicate 64 (pos 0)) → length words ≡ len → len ≤ 64 → len ≡ field_count kind counts
    → pairs ≡ pair_count kind counts → 2 * pairs ≤ field_count kind counts → first_empty pairs 1 words ≡ None → IsRecord counts (record { kind = kind; words = words ++ rest; len = len })
record_is_valid counts kind words rest len pairs zeros long short count paired room none =
    let front : take len (words ++ rest) ≡ words = take-append-le len words rest (omega arith) ∙ take_all len words (omega arith) in
    let zeros_left : rest ≡ replicate (64 - length words) (pos 0) = zeros ∙ drop-replicate len 64 (pos 0) ∙ ap (λ n. replicate (64 - n) (pos 0)) (sym long) in
    record {
      count = count;
      padding = rw (front, zeros_left) refl;
      valid = rw (front, ← paired, none_empty pairs 1 words (omega (arith, long, count, room)) none) refl;
    }
