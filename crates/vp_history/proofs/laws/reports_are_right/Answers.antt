use Rattle.vp_history.proofs.Inputs.{always_right}
use Rattle.vp_history.proofs.Known.{KeepsValid, MayBeTested, Truthful}
use Rattle.vp_history.proofs.Right.{reports_are_right}
use Rattle.vp_history.proofs.laws.reports_are_right.Goals as goal

pub returns : goal.returns
returns c =
    let keeps : KeepsValid = record {
      before = c.valid_records_keep_boxes_valid.ensures.tested;
      behind = c.valid_records_keep_boxes_valid.ensures.after;
      size = c.valid_records_keep_boxes_valid.ensures.size;
      size_tested = c.valid_records_keep_boxes_valid.ensures.size_tested;
      always = c.valid_records_keep_boxes_valid.ensures.always;
    } in
    let may : MayBeTested = record {
      init = c.fitting_sandboxes_may_be_tested.ensures.init;
      ctrl = c.fitting_sandboxes_may_be_tested.ensures.ctrl;
      plant = c.fitting_sandboxes_may_be_tested.ensures.plant;
      places = c.fitting_sandboxes_may_be_tested.ensures.places;
      small = c.fitting_sandboxes_may_be_tested.ensures.small;
    } in
    let truthful : Truthful = record { none = c.first_truths.ensures.none; some = c.first_truths.ensures.some; one = c.truths_are_sound.ensures.one; all = c.truths_are_sound.ensures.all } in
    record { due = λ s records fits d. reports_are_right keeps may truthful s fits records d; always = λ s fits. always_right keeps may truthful s fits }
