use Rattle.std.proofs.lemmas.List.{take_rest}
use Rattle.vp_lex.specs.Bytes.{is_digit}
use Rattle.vp_lex.proofs.Runs.{run_behind}
use Rattle.vp_lex.proofs.byte.digits_end.Goals as goal

pub returns : goal.returns
returns c =
    let run = rw take_rest at c.digits_len.ensures in
    run_behind is_digit c.args.text.now c.args.from c.digits_len.result c.requires run
