use Rattle.std.proofs.lemmas.List.{take_rest}
use Rattle.vp_lex.proofs.Runs.{comment_behind}
use Rattle.vp_lex.proofs.byte.comment_end.Goals as goal

pub returns : goal.returns
returns c =
    let run = rw take_rest at c.line_len.ensures in
    comment_behind c.args.text.now c.args.from c.line_len.result c.requires run
