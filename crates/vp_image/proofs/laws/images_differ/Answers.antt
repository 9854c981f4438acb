use Rattle.vp_image.proofs.Complete.{same_from_image}
use Rattle.vp_image.proofs.laws.images_differ.Goals as goal

pub returns : goal.returns
returns c = same_from_image c.written_is_read.ensures
