use Rattle.vp_terms.specs.Model.{model_of}
use Rattle.vp_history.proofs.Inputs.{is_run, is_safe}
use Rattle.vp_history.proofs.Known.{BoxesSet, KeepsValid, Known, MayBeTested, Placed, Represented, Truthful}
use Rattle.vp_history.proofs.laws.histories_are_allowed.Goals as goal

pub returns : goal.returns
returns c =
    let placed : Placed = record { in_range = c.places_tell_variables.ensures.in_range; different = c.places_tell_variables.ensures.different; used = c.places_tell_variables.ensures.used } in
    let set : BoxesSet = record { before = c.records_set_the_boxes_of_variables.ensures.tested; behind = c.records_set_the_boxes_of_variables.ensures.after } in
    let represented : Represented = record {
      some = c.valid_boxes_represent_values.ensures;
      word = c.points_are_exact.ensures.represented;
      value = c.points_are_exact.ensures.value;
      valid = c.polynomials_are_enclosed.ensures.valid;
      values = c.polynomials_are_enclosed.ensures.values;
    } in
    let keeps : KeepsValid = record {
      before = c.valid_records_keep_boxes_valid.ensures.tested;
      behind = c.valid_records_keep_boxes_valid.ensures.after;
      size = c.valid_records_keep_boxes_valid.ensures.size;
      size_tested = c.valid_records_keep_boxes_valid.ensures.size_tested;
      always = c.valid_records_keep_boxes_valid.ensures.always;
    } in
    let may : MayBeTested = record {
      init = c.fitting_sandboxes_may_be_tested.ensures.init;
      ctrl = c.fitting_sandboxes_may_be_tested.ensures.ctrl;
      plant = c.fitting_sandboxes_may_be_tested.ensures.plant;
      places = c.fitting_sandboxes_may_be_tested.ensures.places;
      small = c.fitting_sandboxes_may_be_tested.ensures.small;
    } in
    let truthful : Truthful = record { none = c.first_truths.ensures.none; some = c.first_truths.ensures.some; one = c.truths_are_sound.ensures.one; all = c.truths_are_sound.ensures.all } in
    let known : Known = record { placed = placed; set = set; keeps = keeps; fits = may; truthful = truthful; represented = represented } in
    record {
      safe = λ flow pkg s fits means ind. is_safe known s (model_of flow pkg) fits means ind;
      runs = λ flow pkg s fits means ind. is_run known s (model_of flow pkg) fits means ind;
    }
