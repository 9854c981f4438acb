-- Numbers that words write.
use Rattle.std.proofs.Common.{◌≡◌, ◌≢◌, ℕ, ◌<◌, ◌≤◌, ◌^◌, ◌&&◌, nat_lt, nat_le, Bool, true, false, List, length, get_or, Option, None, Some, Result, Ok, Err, if◌then◌else◌, refl, sym, ap, ◌∙◌, arith}
use Rattle.std.specs.Result.{OkIff, result_ok}
use Rattle.std.specs.Str.{all_ascii_digits}
use Rattle.std.specs.Str.Parse.{ParsesUnsigned, digits_value}
use Rattle.std.proofs.lemmas.Bool.{lt-ltb, le-leb, ltb-true}
use Rattle.std.proofs.lemmas.Result.{OkIff-at_ok, OkIff-at_err}
use Rattle.std.proofs.lemmas.Str.Parse.{IsNumeralModel, numerals_by_value, parse_plain, tells_all_ascii_digits}
use Rattle.vp_cmd.specs.Commands.{from_to, number_within}

model : IsNumeralModel (λ ds. all_ascii_digits ds ≡ true) (digits_value 10)
model = numerals_by_value (λ ds. all_ascii_digits ds ≡ true) tells_all_ascii_digits

-- what reading gives, by whether it is a number
settled : {E : Type 0} (r : Result ℕ E) (P : Type 0) (v : ℕ) (o : Option ℕ) → (P → Some v ≡ o) → (¬ P → None ≡ o) → OkIff r P v → result_ok r ≡ o
settled {E = E} (Ok x) P v o there missing ok = let k = OkIff-at_ok {E = E} (Ok x) P v x ok (refl) in ap (λ (n : ℕ). Some n) k.1 ∙ there k.0
settled {E = E} (Err d) P v o there missing ok = missing (OkIff-at_err {E = E} (Err d) P v d ok (refl))

-- a text without a leading plus is read as the number of its digits
pub number_read : {E : Type 0} (most : ℕ) (bs : List ℕ) (r : Result ℕ E) → length bs ≤ most → get_or bs 0 0 ≢ 43 → ParsesUnsigned 64 10 bs r
    → result_ok r ≡ from_to 0 18_446_744_073_709_551_615 (number_within most bs)
number_read most bs r short plain h =
    settled r _ (digits_value 10 bs) _ found (λ never. sym (no_number (nat_lt 0 (length bs)) (all_ascii_digits bs) refl refl never)) (parse_plain model 64 bs r h plain)
  where
    within : (n : ℕ) → n < 2 ^ 64 → from_to 0 18_446_744_073_709_551_615 (Some n) ≡ Some n
    within n l =
        let low : nat_le 0 n ≡ true = le-leb 0 n (omega arith) in
        let high : nat_le n 18_446_744_073_709_551_615 ≡ true = le-leb n 18_446_744_073_709_551_615 (omega arith) in
        rw low (rw high refl)

    beyond : (n : ℕ) → ¬ (n < 2 ^ 64) → from_to 0 18_446_744_073_709_551_615 (Some n) ≡ None
    beyond n l =
        let low : nat_le 0 n ≡ true = le-leb 0 n (omega arith) in
        let high : nat_le n 18_446_744_073_709_551_615 ≡ false = grind arith in
        rw low (rw high refl)

    read : 0 < length bs → all_ascii_digits bs ≡ true → number_within most bs ≡ Some (digits_value 10 bs)
    read some digits =
        let e : nat_lt 0 (length bs) ≡ true = lt-ltb 0 (length bs) some in
        let f : nat_le (length bs) most ≡ true = le-leb (length bs) most short in
        rw e (rw f (rw digits refl))

    no_number : (some digits : Bool) → nat_lt 0 (length bs) ≡ some → all_ascii_digits bs ≡ digits
        → ¬ ((all_ascii_digits bs ≡ true) × (0 < length bs) × (digits_value 10 bs < 2 ^ 64))
        → from_to 0 18_446_744_073_709_551_615 (number_within most bs) ≡ None
    no_number false digits e f never = rw e refl
    no_number true false e f never = rw e (rw f (if_none (nat_le (length bs) most)))
      where
        if_none : (b : Bool) → from_to 0 18_446_744_073_709_551_615 (if b && false then Some (digits_value 10 bs) else None) ≡ None
        if_none true = refl
        if_none false = refl
    no_number true true e f never =
        let some : 0 < length bs = omega (arith, ltb-true 0 (length bs) e) in
        let far : ¬ (digits_value 10 bs < 2 ^ 64) = λ l. never (f, some, l) in
        rw (read some f) (beyond (digits_value 10 bs) far)

    found : (all_ascii_digits bs ≡ true) × (0 < length bs) × (digits_value 10 bs < 2 ^ 64) → Some (digits_value 10 bs) ≡ from_to 0 18_446_744_073_709_551_615 (number_within most bs)
    found k = rw (read k.1 k.0) (rw (within (digits_value 10 bs) k.2) refl)
