use Rattle.vp_cmd.proofs.Written.{written_runs}
use Rattle.vp_cmd.proofs.laws.written_images_run_as_sandboxes.Goals as goal

pub returns : goal.returns
returns c = λ files input name text bytes s o is there h. written_runs c.bytes_are_one_instruction.ensures.long files input name text bytes s o is there h
