-- Intervals whose ends are the same.
use Rattle.std.proofs.Common.{◌≡◌, ◌≢◌, ℕ, ℤ, pos, ◌*ℤ◌, ◌≤ℤ◌, IsTrue, arith}
use Rattle.std.proofs.lemmas.Int.{ints}
use Rattle.vp_words.specs.Ends.{encloses}
use Rattle.vp_words.specs.Number.{IsWord, IsFinite, inf, minus_inf}
use Rattle.vp_words.proofs.Pairs.{pair_parts}
use Rattle.vp_terms.specs.Rational.{Rational, whole, Equals}
use Rattle.vp_interval.specs.Represents.{Represents}
use Rattle.vp_interval.specs.Rounding.{IsValid, Ends, point}

pub valid_point : (z : ℤ) → IsFinite z → IsValid (point z).lo (point z).hi
valid_point z f = record { low_word = (omega (arith, ints), omega (arith, ints)); high_word = (omega (arith, ints), omega (arith, ints)); enclosed = encloses_it z f }
  where
    encloses_it : (z : ℤ) → IsFinite z → IsTrue (encloses z z)
    encloses_it z f = grind (arith, ints)

pub represented_point : (z : ℤ) → Represents (point z) (whole z)
represented_point z = record { low = λ _. omega (arith, ints); high = λ _. omega (arith, ints) }

finite_end : (a b : ℤ) → IsWord a → a ≢ inf → b ≢ minus_inf → a ≡ b → IsFinite a
finite_end a b w p q e = (omega (arith, ints), omega (arith, ints))

pub finite_point : (v : Ends) → IsValid v.lo v.hi → v.lo ≡ v.hi → IsFinite v.lo
finite_point v h e = let p = pair_parts v.lo v.hi h.enclosed in finite_end v.lo v.hi h.low_word p.1 p.2 e

squeezed : (a b n : ℤ) (d : ℕ) → a ≡ b → (a *ℤ pos d) ≤ℤ n → n ≤ℤ (b *ℤ pos d) → n *ℤ pos 1 ≡ a *ℤ pos d
squeezed a b n d e l h = let k : n ≤ℤ (a *ℤ pos d) = rw e h in omega (arith, ints)

pub point_value : (v : Ends) (q : Rational) → IsValid v.lo v.hi → v.lo ≡ v.hi → Represents v q → Equals q (whole v.lo)
point_value v q h e r =
    let f = finite_point v h e in
    record { crossed = squeezed v.lo v.hi q.num q.den e (r.low f) (r.high (along v.lo v.hi e f)) }
  where
    along : (a b : ℤ) → a ≡ b → IsFinite a → IsFinite b
    along a b e f = (omega (arith, ints), omega (arith, ints))
