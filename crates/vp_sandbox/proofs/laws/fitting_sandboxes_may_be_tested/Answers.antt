use Rattle.std.proofs.Common.{map, refl}
use Rattle.vp_logic.specs.Tree.{tree}
use Rattle.vp_sandbox.specs.Fits.{in_init, in_ctrl, in_plant}
use Rattle.vp_sandbox.proofs.Fitting.{form_fits, parts_fit}
use Rattle.vp_sandbox.proofs.Fitted.{fallback_places, fallback_small}
use Rattle.vp_sandbox.proofs.laws.fitting_sandboxes_may_be_tested.Goals as goal

pub returns : goal.returns
returns c = record {
  init = λ s h. parts_fit 32 (in_init s.counts) (map tree s.init) refl h.init;
  ctrl = λ s h. form_fits 32 (in_ctrl s.counts) (tree s.ctrl) refl h.ctrl;
  plant = λ s h. parts_fit 32 (in_plant s.counts) (map tree s.plant) refl h.plant;
  places = λ s h. fallback_places (in_init s.counts) s.fallback h.fallback;
  small = λ s h. fallback_small (in_init s.counts) s.fallback h.fallback;
}
