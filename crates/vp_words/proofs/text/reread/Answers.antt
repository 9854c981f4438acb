use Rattle.std.proofs.Common.{rules}
use Rattle.vp_words.specs.Number.{IsWord}
use Rattle.vp_words.proofs.Spelling.{read_back}
use Rattle.vp_words.proofs.text.reread.Goals as goal

pub returns : goal.returns
returns c =
    let word : IsWord c.args.word = search rules in
    read_back c.args.word c.read_word.result word (rw c.write_word-len.ensures.text at c.read_word.ensures.meaning)
