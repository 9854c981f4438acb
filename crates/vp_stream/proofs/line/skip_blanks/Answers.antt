use Rattle.std.proofs.lemmas.List.{take_rest}
use Rattle.vp_stream.proofs.Fields.{behind_some, behind_none}
use Rattle.vp_stream.proofs.line.skip_blanks.Goals as goal

pub returns-in-Some : goal.returns-in-Some
returns-in-Some c = rw take_rest (behind_some c.args.bytes.now c.in-Some.start c.in-Some.ensures)

pub returns-in-None : goal.returns-in-None
returns-in-None c = behind_none c.args.bytes.now c.in-None.ensures
