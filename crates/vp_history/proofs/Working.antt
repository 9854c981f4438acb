-- The worked run of the tank, by its numbers.
use Rattle.std.proofs.Common.{ℕ, zero, suc, ◌+◌, ◌<◌, List, [], ◌∷◌, arith, pos}
use Rattle.std.specs.Prelude.{ℤ, ◌<ℤ◌, true}
use Rattle.std.proofs.lemmas.Int.{ints}
use Rattle.vp_words.specs.declared.record.Reply.TheVariants as reply
use Rattle.vp_words.specs.declared.record.Why.TheVariants as why
use Rattle.vp_words.specs.Number.{IsFinite}
use Rattle.vp_terms.specs.Rational.{Rational, fraction, whole}
use Rattle.vp_interval.specs.Represents.{Represents}
use Rattle.vp_sandbox.specs.Boxes.{pair_at}
use Rattle.vp_history.specs.History.{IsRepresented, PairsRepresent}
use Rattle.vp_history.specs.Worked.{levels, tank, worked}

first_words : List ℤ
first_words = pos 1000 ∷ pos 1000 ∷ pos 500 ∷ pos 502 ∷ pos 0 ∷ []

last_words : List ℤ
last_words = pos 10 ∷ pos 10 ∷ pos 551 ∷ pos 553 ∷ []

height : PairsRepresent first_words 0 1 (λ k. whole (pos 1000))
unfolding first_words
height = record { each = each }
  where
    each : (i : ℕ) → i < 1 → Represents (pair_at first_words (0 + i)) (whole (pos 1000))
    each zero l = record { low = λ f. omega (arith, ints); high = λ f. omega (arith, ints) }
    each (suc i) l = absurd (omega arith)

first_level : (q : Rational) → Represents (pair_at first_words 1) q → PairsRepresent first_words 1 1 (λ k. q)
first_level q h = record { each = each }
  where
    each : (i : ℕ) → i < 1 → Represents (pair_at first_words (1 + i)) q
    each zero l = h
    each (suc i) l = absurd (omega arith)

last_level : (q : Rational) → Represents (pair_at last_words 1) q → PairsRepresent last_words 1 1 (λ k. q)
last_level q h = record { each = each }
  where
    each : (i : ℕ) → i < 1 → Represents (pair_at last_words (1 + i)) q
    each zero l = h
    each (suc i) l = absurd (omega arith)

half_level : (half : pos 0 <ℤ pos 2) → Represents (pair_at first_words 1) (fraction (pos 1003) (pos 2) half)
unfolding first_words
half_level half = record { low = λ f. omega (arith, ints); high = λ f. omega (arith, ints) }

whole_level : Represents (pair_at first_words 1) (whole (pos 501))
unfolding first_words
whole_level = record { low = λ f. omega (arith, ints); high = λ f. omega (arith, ints) }

later_level : Represents (pair_at last_words 1) (whole (pos 552))
unfolding last_words
later_level = record { low = λ f. omega (arith, ints); high = λ f. omega (arith, ints) }

time : Represents (pair_at last_words 0) (whole (pos 10))
unfolding last_words
time = record { low = λ f. omega (arith, ints); high = λ f. omega (arith, ints) }

pub represented : (half : pos 0 <ℤ pos 2) → IsRepresented tank (levels (fraction (pos 1003) (pos 2) half) (whole (pos 552))) (worked reply.Ok)
unfolding first_words last_words
represented half = ((height, first_level (fraction (pos 1003) (pos 2) half) (half_level half)), (tt, ((time, last_level (whole (pos 552)) later_level), tt)))

pub unasked : IsRepresented tank (levels (whole (pos 501)) (whole (pos 550))) (worked (reply.Violation (why.Plant 3 true)))
unfolding first_words
unasked = ((height, first_level (whole (pos 501)) whole_level), (tt, (tt, tt)))

finite : IsFinite (pos 551)
finite = (omega (arith, ints), omega (arith, ints))

too_low : Represents (pair_at last_words 1) (whole (pos 550)) → ⊥
unfolding last_words
too_low h = let l = h.low finite in omega (arith, ints, l)

pub outside : IsRepresented tank (levels (whole (pos 501)) (whole (pos 550))) (worked reply.Ok) → ⊥
unfolding last_words
outside h = too_low (h.1.1.0.1.each 0 (omega arith))
