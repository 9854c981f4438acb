-- Fractions and directed sums.
use Rattle.std.proofs.Common.{ℕ, ◌*◌, ℤ, pos, ◌+ℤ◌, ◌*ℤ◌, ◌≤ℤ◌, arith}
use Rattle.std.proofs.lemmas.Int.{ints}
use Rattle.vp_words.specs.Ends.{IsFractionLowEnd, IsFractionHighEnd}
use Rattle.vp_words.specs.Number.{IsWord, lower_sum, upper_sum}
use Rattle.vp_words.proofs.Ends.{lower_sum-finite, upper_sum-finite}
use Rattle.vp_words.proofs.Products.{add_mul, mul_assoc, mul_pos_le}

-- over one denominator
scaled_sum : (s a b m n : ℤ) (d e : ℕ) → s ≤ℤ (a +ℤ b) → (a *ℤ pos d) ≤ℤ m → (b *ℤ pos e) ≤ℤ n → (s *ℤ pos (d * e)) ≤ℤ ((m *ℤ pos e) +ℤ (n *ℤ pos d))
scaled_sum s a b m n d e hs ha hb =
    omega (
      arith,
      ints,
      mul_pos_le s (a +ℤ b) (d * e) hs,
      add_mul a b (pos (d * e)),
      mul_pos_le (a *ℤ pos d) m e ha,
      mul_pos_le (b *ℤ pos e) n d hb,
      mul_assoc a (pos d) (pos e),
      mul_assoc b (pos e) (pos d),
    )

scaled_sum_up : (s a b m n : ℤ) (d e : ℕ) → (a +ℤ b) ≤ℤ s → m ≤ℤ (a *ℤ pos d) → n ≤ℤ (b *ℤ pos e) → ((m *ℤ pos e) +ℤ (n *ℤ pos d)) ≤ℤ (s *ℤ pos (d * e))
scaled_sum_up s a b m n d e hs ha hb =
    omega (
      arith,
      ints,
      mul_pos_le (a +ℤ b) s (d * e) hs,
      add_mul a b (pos (d * e)),
      mul_pos_le m (a *ℤ pos d) e ha,
      mul_pos_le n (b *ℤ pos e) d hb,
      mul_assoc a (pos d) (pos e),
      mul_assoc b (pos e) (pos d),
    )

pub sum_low_end : (m n : ℤ) (d e : ℕ) (a b : ℤ) → IsWord a → IsWord b → IsFractionLowEnd a m d → IsFractionLowEnd b n e → IsFractionLowEnd (lower_sum a b) ((m *ℤ pos e) +ℤ (n *ℤ pos d)) (d * e)
sum_low_end m n d e a b wa wb hq hr f =
    let p = lower_sum-finite a b wa wb f in
    scaled_sum (lower_sum a b) a b m n d e p.2 (hq p.0) (hr p.1)

pub sum_high_end : (m n : ℤ) (d e : ℕ) (a b : ℤ) → IsWord a → IsWord b → IsFractionHighEnd a m d → IsFractionHighEnd b n e → IsFractionHighEnd (upper_sum a b) ((m *ℤ pos e) +ℤ (n *ℤ pos d)) (d * e)
sum_high_end m n d e a b wa wb hq hr f =
    let p = upper_sum-finite a b wa wb f in
    scaled_sum_up (upper_sum a b) a b m n d e p.2 (hq p.0) (hr p.1)
