-- A worked run of the tank, and three histories.
use Rattle.std.specs.Prelude.{◌==◌, List, [], ◌∷◌, false, if◌then◌else◌, pos}
use Rattle.vp_words.specs.declared.record.Counts.{Counts}
use Rattle.vp_words.specs.declared.record.Kind.TheVariants.{Init, Choice, Sense}
use Rattle.vp_words.specs.declared.record.Reply.{Reply}
use Rattle.vp_words.specs.declared.record.Reply.TheVariants.{Ok, Act}
use Rattle.vp_words.specs.Exchanges.{Exchange}
use Rattle.vp_words.specs.Record.{padded}
use Rattle.vp_terms.specs.Rational.{Rational, whole}
use Rattle.vp_history.specs.History.{History}

-- one parameter, one state and one control
abbrev pub tank : Counts
tank = record { params = 1; states = 1; controls = 1 }

-- the answers to `i 1000 1000 500 502 0`, `c 5` and `s 10 10 551 553`, where the last has this reply
abbrev pub worked : Reply → List Exchange
worked last =
    record { kind = Init; words = pos 1000 ∷ pos 1000 ∷ pos 500 ∷ pos 502 ∷ pos 0 ∷ []; reply = Ok }
    ∷ record { kind = Choice; words = pos 5 ∷ []; reply = Act (padded 16 (pos 5 ∷ [])) 1 false }
    ∷ record { kind = Sense; words = pos 10 ∷ pos 10 ∷ pos 551 ∷ pos 553 ∷ []; reply = last }
    ∷ []

-- a tank of height 1000 with one level and, 10 later, another
abbrev pub levels : Rational → Rational → History
levels level later = record {
  params = λ k. whole (pos 1000);
  states = λ n k. if n == 0 then level else later;
  times = λ n. whole (pos 10);
}
