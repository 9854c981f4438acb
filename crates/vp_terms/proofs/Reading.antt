-- What a run of digits writes, a digit at a time.
use Rattle.std.proofs.Common.{◌≡◌, ℕ, ◌+◌, ◌-◌, ◌*◌, ◌^◌, ◌<◌, ◌≤◌, suc, Bool, true, false, ◌&&◌, nat_lt, List, [], ◌∷◌, length, get_or, drop, Option, None, Some, if◌then◌else◌, refl, arith, drop-cons}
use Rattle.std.specs.Char.{is_ascii_digit, digit_value}
use Rattle.std.specs.Str.{all_ascii_digits}
use Rattle.std.specs.Str.Parse.{digits_value_after}
use Rattle.vp_terms.specs.Number.{read_on}

-- the number that the digits write behind those of n; no digits write n
abbrev pub read_rest : ℕ → List ℕ → Option ℕ
read_rest n ds = if all_ascii_digits ds && nat_lt (digits_value_after 10 n ds) (2 ^ 62) then Some (digits_value_after 10 n ds) else None

pub value_le : (n : ℕ) (ds : List ℕ) → n ≤ digits_value_after 10 n ds
value_le n [] = omega arith
value_le n (c ∷ cs) = omega (arith, value_le (n * 10 + digit_value c) cs)

digit_is : (c : ℕ) → is_ascii_digit c ≡ true → digit_value c ≡ c - 48
digit_is c h = grind arith

rest_digit : (n c : ℕ) (cs : List ℕ) → is_ascii_digit c ≡ true → read_rest n (c ∷ cs) ≡ read_rest (n * 10 + (c - 48)) cs
rest_digit n c cs h = rw (h, digit_is c h) refl

rest_other : (n c : ℕ) (cs : List ℕ) → is_ascii_digit c ≡ false → read_rest n (c ∷ cs) ≡ None
rest_other n c cs h = rw h refl

fails : (b : Bool) (m : ℕ) (x : Option ℕ) → 2 ^ 62 ≤ m → (if b && nat_lt m (2 ^ 62) then x else None) ≡ None
fails true m x h = grind arith
fails false m x h = refl

pub rest_over : (n : ℕ) (ds : List ℕ) → 2 ^ 62 ≤ n → read_rest n ds ≡ None
rest_over n ds h = fails (all_ascii_digits ds) (digits_value_after 10 n ds) (Some (digits_value_after 10 n ds)) (omega (arith, value_le n ds))

pub digit_step : (n i : ℕ) (ds : List ℕ) → i < length ds → is_ascii_digit (get_or ds i 0) ≡ true → read_rest n (drop i ds) ≡ read_rest (n * 10 + (get_or ds i 0 - 48)) (drop (suc i) ds)
digit_step n i ds h d = rw (drop-cons ds i 0 h) (rest_digit n (get_or ds i 0) (drop (suc i) ds) d)

pub other_step : (n i : ℕ) (ds : List ℕ) → i < length ds → is_ascii_digit (get_or ds i 0) ≡ false → read_rest n (drop i ds) ≡ None
other_step n i ds h d = rw (drop-cons ds i 0 h) (rest_other n (get_or ds i 0) (drop (suc i) ds) d)

pub read_some_digits : (n : ℕ) (ds : List ℕ) → 0 < length ds → read_on n ds ≡ read_rest n ds
read_some_digits n ds h = grind arith

pub ruleset reading = (rest_over, digit_step, other_step, read_some_digits)
