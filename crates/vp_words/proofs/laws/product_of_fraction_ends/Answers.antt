use Rattle.std.proofs.Common.{rules}
use Rattle.vp_words.specs.Number.{IsWord}
use Rattle.vp_words.proofs.Enclosure.{product_low_end, product_high_end}
use Rattle.vp_words.proofs.Pairs.{pair_parts}
use Rattle.vp_words.proofs.laws.product_of_fraction_ends.Goals as goal

pub returns : goal.returns
returns g =
    let a : IsWord g.args.a = search rules in
    let b : IsWord g.args.b = search rules in
    let c : IsWord g.args.c = search rules in
    let d : IsWord g.args.d = search rules in
    let p = pair_parts g.args.a g.args.b g.requires.left in
    let q = pair_parts g.args.c g.args.d g.requires.right in
    λ m n e f he hf left right. (
      product_low_end m n e f _ _ _ _ he hf a b c d p.1 p.2 q.1 q.2 left.0 left.1 right.0 right.1,
      product_high_end m n e f _ _ _ _ he hf a b c d p.1 p.2 q.1 q.2 left.0 left.1 right.0 right.1,
    )
