use Rattle.vp_read.proofs.OneReading.{OneForms, not_refused, one_package, one_refusal}
use Rattle.vp_read.proofs.laws.one_reading.Goals as goal

pub returns : goal.returns
returns c =
    let one : OneForms = record {
      tokens = c.one_tokenization.ensures;
      texts = record { numbers = c.texts_write_one_number.ensures; words = c.one_spelling.ensures };
      names = c.one_list_of_names.ensures;
      formulas = c.one_formula.ensures.piece;
      controllers = c.one_controller.ensures;
      entries = c.one_list_of_entries.ensures;
      bounds = c.one_list_of_bounds.ensures;
      times = c.one_time.ensures;
      certificates = c.one_certificate.ensures;
    } in
    record { refused = one_refusal one; apart = not_refused one; packages = one_package one }
