use Rattle.std.proofs.Common.{rules}
use Rattle.vp_words.specs.Number.{IsWord, rounded_up}
use Rattle.vp_words.proofs.Corners.{directed_swap, product_swap}
use Rattle.vp_words.proofs.Monotone.{lower_order, upper_order}
use Rattle.vp_words.proofs.laws.products_are_monotone.Goals as goal

pub returns-clause-low_left : goal.returns-clause-low_left
returns-clause-low_left g =
    let a : IsWord g.args.a = search rules in
    let b : IsWord g.args.b = search rules in
    let c : IsWord g.args.c = search rules in
    lower_order _ _ _ a b c g.requires.ordered g.requires.at_least_zero

pub returns-clause-low_right : goal.returns-clause-low_right
returns-clause-low_right g =
    let a : IsWord g.args.a = search rules in
    let b : IsWord g.args.b = search rules in
    let c : IsWord g.args.c = search rules in
    rw (product_swap g.args.c g.args.a, product_swap g.args.c g.args.b)
    (lower_order _ _ _ a b c g.requires.ordered g.requires.at_least_zero)

pub returns-clause-high_left : goal.returns-clause-high_left
returns-clause-high_left g =
    let a : IsWord g.args.a = search rules in
    let b : IsWord g.args.b = search rules in
    let c : IsWord g.args.c = search rules in
    upper_order _ _ _ a b c g.requires.ordered g.requires.at_least_zero

pub returns-clause-high_right : goal.returns-clause-high_right
returns-clause-high_right g =
    let a : IsWord g.args.a = search rules in
    let b : IsWord g.args.b = search rules in
    let c : IsWord g.args.c = search rules in
    rw (directed_swap rounded_up g.args.c g.args.a, directed_swap rounded_up g.args.c g.args.b)
    (upper_order _ _ _ a b c g.requires.ordered g.requires.at_least_zero)
