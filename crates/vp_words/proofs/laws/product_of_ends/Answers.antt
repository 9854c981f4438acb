use Rattle.std.proofs.Common.{rules}
use Rattle.vp_words.specs.Number.{IsWord}
use Rattle.vp_words.proofs.Enclosure.{product_between}
use Rattle.vp_words.proofs.Pairs.{pair_parts}
use Rattle.vp_words.proofs.laws.product_of_ends.Goals as goal

pub returns : goal.returns
returns g =
    let a : IsWord g.args.a = search rules in
    let b : IsWord g.args.b = search rules in
    let c : IsWord g.args.c = search rules in
    let d : IsWord g.args.d = search rules in
    let p = pair_parts g.args.a g.args.b g.requires.left in
    let q = pair_parts g.args.c g.args.d g.requires.right in
    λ x y left right. product_between x y _ _ _ _ a b c d p.1 p.2 q.1 q.2 left right
