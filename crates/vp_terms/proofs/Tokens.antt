-- What a number token writes, by its first digits and what follows them.
use Rattle.std.proofs.Common.{◌≡◌, ℕ, ◌+◌, ◌*◌, ◌^◌, ◌<◌, ◌≤◌, Bool, true, false, ◌&&◌, nat_lt, ◌==◌, List, [], ◌∷◌, ◌++◌, length, Option, None, Some, if◌then◌else◌, refl, ap, arith}
use Rattle.std.proofs.Math.Nat.{one-le-pow}
use Rattle.std.specs.Option.{option_and_then}
use Rattle.std.specs.Char.{is_ascii_digit, digit_value}
use Rattle.std.specs.List.{prefix_len}
use Rattle.std.proofs.lemmas.List.Sums.{prefix_len-le-length}
use Rattle.std.specs.Str.Parse.{digits_value, digits_value_after}
use Rattle.vp_terms.specs.Number.{is_whole, is_read, read_on, small_power, number_from, decimal_from}
use Rattle.vp_terms.proofs.Reading.{value_le}

pub digit_prefix : (text : List ℕ) → prefix_len is_ascii_digit text ≤ length text
digit_prefix text = prefix_len-le-length is_ascii_digit text

pub ruleset prefixes = (digit_prefix)

-- what is kept of a fraction
abbrev kept : ℕ × ℕ → Option (ℕ × ℕ)
kept f = if is_read f then Some f else None

too_large : (w : Bool) (v : ℕ) (f : ℕ × ℕ) → (if w && nat_lt v (2 ^ 62) then Some v else None) ≡ None → v ≤ f.0 → option_and_then kept (if w then Some f else None) ≡ None
too_large true v f e h = grind arith
too_large false v f e h = refl

too_large_of : (w b1 b2 : Bool) (v : ℕ) (f g : ℕ × ℕ) → (if w && nat_lt v (2 ^ 62) then Some v else None) ≡ None → v ≤ f.0 → v ≤ g.0 → option_and_then kept (if w then (if b1 then Some f else (if b2 then Some g else None)) else None) ≡ None
too_large_of w true b2 v f g e h k = too_large w v f e h
too_large_of w false true v f g e h k = too_large w v g e k
too_large_of true false false v f g e h k = refl
too_large_of false false false v f g e h k = refl

value_append : (n : ℕ) (ds es : List ℕ) → digits_value_after 10 n (ds ++ es) ≡ digits_value_after 10 (digits_value_after 10 n ds) es
value_append n [] es = refl
value_append n (c ∷ cs) es = value_append (n * 10 + digit_value c) cs es

pub none_front : (ds rest : List ℕ) → read_on 0 ds ≡ None → number_from ds rest ≡ None
none_front ds [] e = too_large (is_whole ds) (digits_value 10 ds) (digits_value 10 ds, 1) e (omega arith)
none_front ds (mark ∷ es) e =
    let grown : digits_value 10 ds ≤ digits_value 10 (ds ++ es) = rw (value_append 0 ds es) (value_le (digits_value 10 ds) es) in
    too_large_of
    (is_whole ds)
    (mark == 47 && is_whole es)
    (mark == 46 && is_whole es)
    (digits_value 10 ds)
    (digits_value 10 ds, digits_value 10 es)
    (digits_value 10 (ds ++ es), 10 ^ length es)
    e
    (omega arith)
    grown

some_parts : (w : Bool) (m v : ℕ) → (if w && nat_lt m (2 ^ 62) then Some m else None) ≡ Some v → (w ≡ true) × (m ≡ v) × (v < 2 ^ 62)
some_parts true m v e = grind arith
some_parts false m v e = absurd (cc)

-- what a digit run that is read is
pub some_read : (n v : ℕ) (ds : List ℕ) → read_on n ds ≡ Some v → (is_whole ds ≡ true) × (digits_value_after 10 n ds ≡ v) × (v < 2 ^ 62)
some_read n v ds e = some_parts (is_whole ds) (digits_value_after 10 n ds) v e

not_kept : (w : Bool) (m t : ℕ) → (if w && nat_lt m (2 ^ 62) then Some m else None) ≡ None → option_and_then kept (if w then Some (m, t) else None) ≡ None
not_kept true m t e = grind arith
not_kept false m t e = refl

pub none_decimals : (w : ℕ) (es : List ℕ) → read_on w es ≡ None → decimal_from w es ≡ None
none_decimals w es h = not_kept (is_whole es) (digits_value_after 10 w es) (10 ^ length es) h

power_of : (m t : ℕ) → (if nat_lt m (2 ^ 62) then Some m else None) ≡ Some t → (m ≡ t) × (t < 2 ^ 62)
power_of m t e = grind arith

power_parts : (n t : ℕ) → small_power n ≡ Some t → (10 ^ n ≡ t) × (t < 2 ^ 62) × (0 < t)
power_parts n t e =
    let p = power_of (10 ^ n) t e in
    let q : 1 ≤ 10 ^ n = one-le-pow n 10 (omega arith) in
    (p.0, p.1, omega arith)

is_kept : (m t : ℕ) → m < 2 ^ 62 → t < 2 ^ 62 → 0 < t → kept (m, t) ≡ Some (m, t)
is_kept m t p q r = grind arith

pub some_decimals : (w m t : ℕ) (es : List ℕ) → read_on w es ≡ Some m → small_power (length es) ≡ Some t → decimal_from w es ≡ Some (m, t)
some_decimals w m t es h p =
    let s = some_read w m es h in
    let q = power_parts (length es) t p in
    rw (s.0, s.1, q.0) (is_kept m t s.2 q.1 q.2)

too_long : (m n : ℕ) → (if nat_lt n (2 ^ 62) then Some n else None) ≡ None → kept (m, n) ≡ None
too_long m n e = grind arith

pub long_decimals : (w m : ℕ) (es : List ℕ) → read_on w es ≡ Some m → small_power (length es) ≡ None → decimal_from w es ≡ None
long_decimals w m es h p =
    let s = some_read w m es h in
    rw (s.0, s.1) (too_long m (10 ^ length es) p)

-- a decimal goes on from the digits before the `.`
pub decimals_go_on : (w : ℕ) (ds es : List ℕ) → read_on 0 ds ≡ Some w → number_from ds (46 ∷ es) ≡ decimal_from w es
decimals_go_on w ds es e =
    let r = some_read 0 w ds e in
    let k : digits_value_after 10 (digits_value_after 10 0 ds) es ≡ digits_value_after 10 w es = ap (λ (n : ℕ). digits_value_after 10 n es) r.1 in
    rw (r.0, value_append 0 ds es, k) refl

pub ruleset decimals = (none_decimals, some_decimals, long_decimals)

pub ruleset tokens = (none_front, decimals_go_on)
