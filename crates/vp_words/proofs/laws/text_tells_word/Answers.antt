use Rattle.std.proofs.Common.{rules}
use Rattle.vp_words.specs.Number.{IsWord}
use Rattle.vp_words.proofs.Written.{text_tells}
use Rattle.vp_words.proofs.laws.text_tells_word.Goals as goal

pub returns : goal.returns
returns c =
    let a : IsWord c.args.a = search rules in
    let b : IsWord c.args.b = search rules in
    text_tells c.args.a c.args.b a b c.requires
