use Rattle.vp_image.proofs.Complete.{image_back}
use Rattle.vp_image.proofs.laws.written_is_read.Goals as goal

pub returns : goal.returns
returns c = image_back (record { long = c.bytes_are_one_instruction.ensures.long; read = c.bytes_are_one_instruction.ensures.read })
