use Rattle.std.proofs.Common.{ap, subst, ◌∙◌, arith}
use Rattle.vp_image.specs.Image.{image_read, Gives}
use Rattle.vp_image.proofs.Sound.{is_sound}
use Rattle.vp_image.proofs.reading.read_image.Goals as goal

pub returns-clause-sound : goal.returns-clause-sound
returns-clause-sound c = is_sound c.args.bytes.now c.read_whole.result (λ i. omega (arith, c.type_inv.bytes i)) c.read_whole.ensures.exact

pub returns-clause-complete : goal.returns-clause-complete
returns-clause-complete c = λ code digest held e. subst (Gives c.read_whole.result) (ap image_read e ∙ c.written_is_read.ensures code digest held) c.read_whole.ensures.exact
