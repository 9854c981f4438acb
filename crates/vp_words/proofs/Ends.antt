-- The directed sums as ends.
use Rattle.std.proofs.Common.{ℤ, ◌+ℤ◌, ◌≤ℤ◌, arith}
use Rattle.std.proofs.lemmas.Int.{ints}
use Rattle.vp_words.specs.Ends.{IsHighEnd}
use Rattle.vp_words.specs.Number.{IsWord, IsFinite, lower_sum, upper_sum}

pub lower_sum-finite : (a b : ℤ) → IsWord a → IsWord b → IsFinite (lower_sum a b) → IsFinite a × IsFinite b × (lower_sum a b ≤ℤ (a +ℤ b))
lower_sum-finite a b ha hb f = grind (arith, ints)

pub upper_sum-finite : (a b : ℤ) → IsWord a → IsWord b → IsFinite (upper_sum a b) → IsFinite a × IsFinite b × ((a +ℤ b) ≤ℤ upper_sum a b)
upper_sum-finite a b ha hb f = grind (arith, ints)

pub upper_sum-end : (a b x y : ℤ) → IsWord a → IsWord b → IsHighEnd a x → IsHighEnd b y → IsHighEnd (upper_sum a b) (x +ℤ y)
upper_sum-end a b x y ha hb hx hy f = let p = upper_sum-finite a b ha hb f in let q = hx p.0 in let r = hy p.1 in let s = p.2 in omega (arith, ints)
