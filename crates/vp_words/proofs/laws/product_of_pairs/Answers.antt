use Rattle.std.proofs.Common.{rules}
use Rattle.vp_words.specs.Number.{IsWord}
use Rattle.vp_words.proofs.Pairs.{product_pair}
use Rattle.vp_words.proofs.laws.product_of_pairs.Goals as goal

pub returns : goal.returns
returns g =
    let a : IsWord g.args.a = search rules in
    let b : IsWord g.args.b = search rules in
    let c : IsWord g.args.c = search rules in
    let d : IsWord g.args.d = search rules in
    product_pair _ _ _ _ a b c d g.requires.left g.requires.right
