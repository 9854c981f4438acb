-- What sums and products of intervals represent.
use Rattle.std.proofs.Common.{◌≡◌, ℕ, ◌+◌, ◌*◌, ◌<◌, ◌≤◌, ℤ, pos, ◌*ℤ◌, ◌≤ℤ◌, arith}
use Rattle.std.proofs.lemmas.Int.{ints}
use Rattle.std.proofs.Math.Nat.{le_of_mul-le-mul_right}
use borrow.Author.Differences.{up, down}
use Rattle.vp_words.proofs.Enclosure.{product_low_end, product_high_end}
use Rattle.vp_words.proofs.Fractions.{sum_low_end, sum_high_end}
use Rattle.vp_words.proofs.Pairs.{pair_parts}
use Rattle.vp_words.proofs.Products.{mul_pos_le}
use Rattle.vp_terms.specs.Rational.{Rational, sum as rational_sum, product as rational_product, Equals}
use Rattle.vp_terms.proofs.RationalLaws.{swap_right}
use Rattle.vp_interval.specs.Represents.{Represents}
use Rattle.vp_interval.specs.Rounding.{IsValid, Ends, sum, product}

pub represented_sum : (v w : Ends) (q r : Rational) → IsValid v.lo v.hi → IsValid w.lo w.hi → Represents v q → Represents w r → Represents (sum v w) (rational_sum q r)
represented_sum v w q r hv hw hq hr = record {
  low = sum_low_end q.num r.num q.den r.den v.lo w.lo hv.low_word hw.low_word hq.low hr.low;
  high = sum_high_end q.num r.num q.den r.den v.hi w.hi hv.high_word hw.high_word hq.high hr.high;
}

pub represented_product : (v w : Ends) (q r : Rational) → IsValid v.lo v.hi → IsValid w.lo w.hi → Represents v q → Represents w r → Represents (product v w) (rational_product q r)
represented_product v w q r hv hw hq hr =
    let p = pair_parts v.lo v.hi hv.enclosed in
    let s = pair_parts w.lo w.hi hw.enclosed in
    record {
      low = product_low_end q.num r.num q.den r.den v.lo v.hi w.lo w.hi q.positive r.positive hv.low_word hv.high_word hw.low_word hw.high_word p.1 p.2 s.1 s.2 hq.low hq.high hr.low hr.high;
      high = product_high_end q.num r.num q.den r.den v.lo v.hi w.lo w.hi q.positive r.positive hv.low_word hv.high_word hw.low_word hw.high_word p.1 p.2 s.1 s.2 hq.low hq.high hr.low hr.high;
    }

-- equal rationals stand in the same intervals
unscaled : (a b : ℤ) (n : ℕ) → 0 < n → (a *ℤ pos n) ≤ℤ (b *ℤ pos n) → a ≤ℤ b
unscaled a b n h k =
    let s : (up a + down b) * n ≤ (up b + down a) * n = omega (arith, ints) in
    let p = le_of_mul-le-mul_right {m = up a + down b} {n = up b + down a} {k = n} s h in
    omega (arith, ints)

low_along : (a m n : ℤ) (d e : ℕ) → 0 < d → m *ℤ pos e ≡ n *ℤ pos d → (a *ℤ pos d) ≤ℤ m → (a *ℤ pos e) ≤ℤ n
low_along a m n d e h same k =
    let s = swap_right a (pos d) (pos e) in
    let l = mul_pos_le (a *ℤ pos d) m e k in
    unscaled (a *ℤ pos e) n d h (omega (arith, ints))

high_along : (a m n : ℤ) (d e : ℕ) → 0 < d → m *ℤ pos e ≡ n *ℤ pos d → m ≤ℤ (a *ℤ pos d) → n ≤ℤ (a *ℤ pos e)
high_along a m n d e h same k =
    let s = swap_right a (pos d) (pos e) in
    let l = mul_pos_le m (a *ℤ pos d) e k in
    unscaled n (a *ℤ pos e) d h (omega (arith, ints))

pub represented_equal : (v : Ends) (q r : Rational) → Equals q r → Represents v q → Represents v r
represented_equal v q r e h = record {
  low = λ f. low_along v.lo q.num r.num q.den r.den q.positive e.crossed (h.low f);
  high = λ f. high_along v.hi q.num r.num q.den r.den q.positive e.crossed (h.high f);
}
