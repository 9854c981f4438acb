use Rattle.std.proofs.Common.{rules}
use Rattle.vp_words.specs.Number.{IsWord}
use Rattle.vp_words.proofs.Fractions.{sum_low_end, sum_high_end}
use Rattle.vp_words.proofs.laws.sum_of_fraction_ends.Goals as goal

pub returns-clause-low : goal.returns-clause-low
returns-clause-low c =
    let a : IsWord c.args.a = search rules in
    let b : IsWord c.args.b = search rules in
    λ m n d e. sum_low_end m n d e _ _ a b

pub returns-clause-high : goal.returns-clause-high
returns-clause-high c =
    let a : IsWord c.args.a = search rules in
    let b : IsWord c.args.b = search rules in
    λ m n d e. sum_high_end m n d e _ _ a b
