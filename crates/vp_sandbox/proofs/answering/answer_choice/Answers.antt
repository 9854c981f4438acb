use Rattle.vp_logic.specs.Tree.{tree}
use Rattle.vp_sandbox.specs.Fits.{in_ctrl}
use Rattle.vp_sandbox.proofs.Fitting.{form_fits}
use Rattle.vp_sandbox.proofs.answering.answer_choice.Goals as goal

pub truth_of-requires : goal.truth_of-requires
truth_of-requires c = form_fits _ (in_ctrl c.args.s.now.counts) (tree c.args.s.now.ctrl) c.set_points.ensures.size c.requires.fits.ctrl
