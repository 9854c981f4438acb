-- Zeros behind the words of a record.
use Rattle.std.proofs.Common.{◌≡◌, ℕ, ◌-◌, ◌≤◌, Bool, true, List, [], ◌∷◌, ◌++◌, length, take, drop, replicate, ℤ, pos, refl, ap, sym, ◌∙◌, arith}
use Rattle.std.proofs.lemmas.Int.{ints}
use Rattle.std.proofs.lemmas.List.{take-append-drop, drop_at, length-drop, length-take-le}
use Rattle.std.proofs.lemmas.List.Elements.{All-replicate}
use Rattle.std.proofs.lemmas.List.Sums.{list_all-from_AllPass}
use Rattle.std.specs.List.{list_all}
use Rattle.std.specs.Ordering.{int_eq}
use Rattle.vp_words.specs.declared.record.Counts.{Counts}
use Rattle.vp_words.specs.declared.record.Record.{Record}
use Rattle.vp_words.specs.Record.{IsRecord, field_count, padded, pair_count, pairs_then_finite}
use Rattle.vp_words.proofs.Spelled.{both}

abbrev pub all_zero : List ℤ → Bool
all_zero words = list_all (λ z. int_eq z (pos 0)) words

is_zero : (z : ℤ) → int_eq z (pos 0) ≡ true → z ≡ pos 0
is_zero z h = grind (arith, ints)

zeros : (words : List ℤ) → all_zero words ≡ true → words ≡ replicate (length words) (pos 0)
zeros [] h = refl
zeros (z ∷ words) h =
    let p = both (int_eq z (pos 0)) (all_zero words) h in
    let first = is_zero z p.0 in
    let rest = zeros words p.1 in
    cc

padding_is : (words : List ℤ) (n : ℕ) → length words ≡ 64 → n ≤ 64 → all_zero (drop n words) ≡ true → words ≡ padded 64 (take n words)
padding_is words n size room h =
    let first = length-take-le n words (omega arith) in
    let rest : length (drop n words) ≡ 64 - length (take n words) = omega (arith, length-drop n words) in
    let back = zeros (drop n words) h in
    sym (take-append-drop n words) ∙ ap (λ (back : List ℤ). take n words ++ back) (back ∙ ap (λ (k : ℕ). replicate k (pos 0)) rest)

padding_zero : (words : List ℤ) (n : ℕ) → length words ≡ 64 → n ≤ 64 → words ≡ padded 64 (take n words) → all_zero (drop n words) ≡ true
padding_zero words n size room e =
    let first = length-take-le n words (omega arith) in
    let behind : drop n words ≡ replicate (64 - length (take n words)) (pos 0)
    = ap (drop n) e ∙ drop_at (take n words) (replicate (64 - length (take n words)) (pos 0)) n first
    in
    rw behind (list_all-from_AllPass (λ z. int_eq z (pos 0)) _ (All-replicate (λ z. int_eq z (pos 0) ≡ true) (64 - length (take n words)) (pos 0) refl))

pub record_from : (c : Counts) (r : Record) (front back : List ℤ) → length r.words ≡ 64 → r.len ≤ 64 → r.len ≡ field_count r.kind c → front ≡ take r.len r.words → back ≡ drop r.len r.words →
    all_zero back ≡ true → pairs_then_finite (pair_count r.kind c) front ≡ true → IsRecord c r
record_from c r front back size room count is_front is_back zero valid = record {
  count = count;
  padding = padding_is r.words r.len size room (rw is_back at zero);
  valid = rw is_front at valid;
}

pub record_to : (c : Counts) (r : Record) (front back : List ℤ) → length r.words ≡ 64 → r.len ≤ 64 → front ≡ take r.len r.words → back ≡ drop r.len r.words →
    IsRecord c r → (all_zero back ≡ true) × (pairs_then_finite (pair_count r.kind c) front ≡ true)
record_to c r front back size room is_front is_back h =
    (rw is_back (padding_zero r.words r.len size room h.padding), rw is_front h.valid)
