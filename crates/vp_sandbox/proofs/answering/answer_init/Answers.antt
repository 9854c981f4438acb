use Rattle.std.proofs.Common.{map}
use Rattle.vp_logic.specs.Tree.{tree}
use Rattle.vp_sandbox.specs.Fits.{in_init}
use Rattle.vp_sandbox.proofs.Fitting.{parts_fit}
use Rattle.vp_sandbox.proofs.Rooms.{init_room}
use Rattle.vp_sandbox.proofs.answering.answer_init.Goals as goal

pub set_boxes-requires-clause-room : goal.set_boxes-requires-clause-room
set_boxes-requires-clause-room c = init_room c.args.s.now.counts c.args.words.now c.requires.fits.counts c.requires.count c.requires.valid

pub first_not_yes-requires-clause-fits : goal.first_not_yes-requires-clause-fits
first_not_yes-requires-clause-fits c =
    rw c.get.ensures (parts_fit _ (in_init c.args.s.now.counts) (map tree c.args.s.now.init) c.set_boxes.ensures.size c.requires.fits.init)
