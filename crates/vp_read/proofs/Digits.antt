-- Digits, one at a time.
use Rattle.std.proofs.Common.{◌≡◌, ℕ, ◌+◌, ◌<◌, true, false, List, length, get_or, drop, refl, drop-cons}
use Rattle.std.proofs.Math.Numerals.{add-one}
use Rattle.std.specs.Char.{is_ascii_digit}
use Rattle.std.specs.Str.{all_ascii_digits}

pub digit_step : (i : ℕ) (ds : List ℕ) → i < length ds → is_ascii_digit (get_or ds i 0) ≡ true → all_ascii_digits (drop i ds) ≡ all_ascii_digits (drop (i + 1) ds)
digit_step i ds h d = rw (add-one i, drop-cons ds i 0 h, d) refl

pub other_step : (i : ℕ) (ds : List ℕ) → i < length ds → is_ascii_digit (get_or ds i 0) ≡ false → all_ascii_digits (drop i ds) ≡ false
other_step i ds h d = rw (drop-cons ds i 0 h, d) refl
