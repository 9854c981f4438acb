-- The first field of a line.
use Rattle.std.proofs.Common.{◌≡◌, ℕ, suc, ◌+◌, ◌<◌, ◌≤◌, not, Bool, true, false, cond, List, [], ◌∷◌, All, length, take, drop, None, Some, refl, ap, sym, ◌∙◌, arith, length-drop}
use Rattle.std.specs.List.{position, position_or_len, prefix_len, slice_split, filter}
use Rattle.std.proofs.lemmas.Bool.{ltb-true}
use Rattle.std.proofs.lemmas.Bool.Decides.{nat_tests}
use Rattle.std.proofs.lemmas.List.{drop_all}
use Rattle.std.proofs.lemmas.List.Splits.{slice_split-cons_yes, slice_split_none, slice_split_first}
use Rattle.vp_stream.specs.Lines.{behind_blanks, fields_of, has_bytes, is_blank}

-- where a test chose an option
pub chosen : (b : Bool) (n at : ℕ) → cond b (Some n) None ≡ Some at → (b ≡ true) × (n ≡ at)
chosen true n at h = (refl, cc)
chosen false n at h = absurd cc

pub not_chosen : (b : Bool) (n : ℕ) → cond b (Some n) None ≡ None → b ≡ false
not_chosen true n h = absurd cc
not_chosen false n h = refl

other : ℕ → Bool
other b = not (is_blank b)

-- the bytes from the first one on that is no blank
behind_place : (bytes : List ℕ) → drop (position_or_len (λ b. not (is_blank b)) bytes) bytes ≡ behind_blanks bytes
behind_place [] = refl
behind_place (b ∷ bytes) =
    let n = prefix_len (λ x. not (not (is_blank x))) bytes in
    let e : 1 + n ≡ suc n = omega arith in
    elim (is_blank b) as (λ t. drop (cond (not (not t)) (1 + n) 0) (b ∷ bytes) ≡ cond t (behind_blanks bytes) (b ∷ bytes)) [
      | true ↦ rw e (behind_place bytes)
      | false ↦ refl
    ]

pub behind_some : (bytes : List ℕ) (at : ℕ) → Some at ≡ position (λ b. not (is_blank b)) bytes → drop at bytes ≡ behind_blanks bytes
behind_some bytes at h = let found = chosen _ _ at (sym h) in ap (λ n. drop n bytes) (sym found.1) ∙ behind_place bytes

pub behind_none : (bytes : List ℕ) → None ≡ position (λ b. not (is_blank b)) bytes → [] ≡ behind_blanks bytes
behind_none bytes h =
    let past : length bytes ≤ position_or_len (λ b. not (is_blank b)) bytes = let e = not_chosen _ _ (sym h) in grind (arith, nat_tests) in
    sym (drop_all (position_or_len (λ b. not (is_blank b)) bytes) bytes past) ∙ behind_place bytes

behind_cons : (b : ℕ) (line : List ℕ) (t : Bool) → is_blank b ≡ t → fields_of (behind_blanks line) ≡ fields_of line → fields_of (behind_blanks (b ∷ line)) ≡ fields_of (b ∷ line)
behind_cons b line true h rest =
    let e : behind_blanks (b ∷ line) ≡ behind_blanks line = rw h refl in
    ap fields_of e ∙ rest ∙ ap (filter has_bytes) (sym (slice_split-cons_yes is_blank b line h))
behind_cons b line false h rest = let e : behind_blanks (b ∷ line) ≡ b ∷ line = rw h refl in ap fields_of e

-- blanks before a line change none of its fields
pub fields_behind : (line : List ℕ) → fields_of (behind_blanks line) ≡ fields_of line
fields_behind [] = refl
fields_behind (b ∷ line) = behind_cons b line (is_blank b) refl (fields_behind line)

-- a line that does not begin with a blank
BeginsWithOther : List ℕ → Type 0
BeginsWithOther [] = Unit {0}
BeginsWithOther (b ∷ line) = is_blank b ≡ false

begins_cons : (b : ℕ) (line : List ℕ) (t : Bool) → is_blank b ≡ t → BeginsWithOther (behind_blanks line) → BeginsWithOther (behind_blanks (b ∷ line))
unfolding BeginsWithOther
begins_cons b line true h rest = rw h rest
begins_cons b line false h rest = rw h h

begins : (line : List ℕ) → BeginsWithOther (behind_blanks line)
unfolding BeginsWithOther
begins [] = tt
begins (b ∷ line) = begins_cons b line (is_blank b) refl (begins line)

behind_shorter : (line : List ℕ) → length (behind_blanks line) ≤ length line
behind_shorter [] = omega arith
behind_shorter (b ∷ line) =
    let rest = behind_shorter line in
    elim (is_blank b) as (λ t. length (cond t (behind_blanks line) (b ∷ line)) ≤ length (b ∷ line)) [ true ↦ omega arith | false ↦ omega arith ]

-- the first field of a line that begins with another byte
first_field : (b : ℕ) (line : List ℕ) (at : ℕ) → is_blank b ≡ false → Some at ≡ position is_blank (b ∷ line)
    → fields_of (b ∷ line) ≡ take at (b ∷ line) ∷ fields_of (drop (at + 1) (b ∷ line))
first_field b line at h place =
    let found = chosen _ _ at (sym place) in
    let n = prefix_len (λ x. not (is_blank x)) line in
    let after : position_or_len is_blank (b ∷ line) ≡ suc n = rw h (omega arith) in
    let same : at ≡ suc n = sym found.1 ∙ after in
    let parts = slice_split_first is_blank (b ∷ line) 0 (ltb-true _ _ found.0) in
    ap (filter has_bytes) parts
    ∙ ap (λ k. filter has_bytes (take k (b ∷ line) ∷ slice_split is_blank (drop (position_or_len is_blank (b ∷ line) + 1) (b ∷ line)))) after
    ∙ ap (λ k. take (suc n) (b ∷ line) ∷ fields_of (drop (k + 1) (b ∷ line))) found.1
    ∙ ap (λ k. take k (b ∷ line) ∷ fields_of (drop (at + 1) (b ∷ line))) (sym same)

field_at : (rest : List ℕ) (at : ℕ) → BeginsWithOther rest → (length rest ≡ 0 → ⊥) → Some at ≡ position is_blank rest → fields_of rest ≡ take at rest ∷ fields_of (drop (at + 1) rest)
unfolding BeginsWithOther
field_at [] at h nonempty place = absurd (nonempty refl)
field_at (b ∷ line) at h nonempty place = first_field b line at h place

pub field_some : (line rest : List ℕ) (at : ℕ) → rest ≡ behind_blanks line → (length rest ≡ 0 → ⊥) → Some at ≡ position is_blank rest
    → fields_of line ≡ take at rest ∷ fields_of (drop (at + 1) rest)
field_some line rest at e nonempty place = sym (fields_behind line) ∙ ap fields_of (sym e) ∙ field_at rest at (rw e (begins line)) nonempty place

pub field_none : (line rest : List ℕ) → rest ≡ behind_blanks line → (length rest ≡ 0 → ⊥) → All (λ b. is_blank b ≡ false) rest → fields_of line ≡ rest ∷ []
field_none line rest e nonempty all = sym (fields_behind line) ∙ ap fields_of (sym e) ∙ ap (filter has_bytes) (slice_split_none is_blank rest all) ∙ by rest nonempty
  where
    by : (rest : List ℕ) → (length rest ≡ 0 → ⊥) → filter has_bytes (rest ∷ []) ≡ rest ∷ []
    by [] nonempty = absurd (nonempty refl)
    by (b ∷ line) nonempty = refl

pub no_fields : (line rest : List ℕ) → rest ≡ behind_blanks line → length rest ≡ 0 → fields_of line ≡ []
no_fields line rest e empty = sym (fields_behind line) ∙ ap fields_of (sym e) ∙ by rest empty
  where
    by : (rest : List ℕ) → length rest ≡ 0 → fields_of rest ≡ []
    by [] empty = refl
    by (b ∷ line) empty = absurd (omega arith)

pub rest_shorter : (line rest : List ℕ) (at : ℕ) → rest ≡ behind_blanks line → (length rest ≡ 0 → ⊥) → length (drop (at + 1) rest) < length line
rest_shorter line rest at e nonempty =
    let le : length rest ≤ length line = rw e (behind_shorter line) in
    omega (arith, length-drop (at + 1) rest, nonempty)
