use Rattle.vp_ctrl.proofs.Alike.{count-alike, hidden-alike}
use Rattle.vp_ctrl.proofs.SamePaths.{Known, narrow-alike, paths-alike}
use Rattle.vp_ctrl.proofs.laws.equal_trees_have_the_same_paths.Goals as goal

pub returns : goal.returns
returns c =
    let known : Known = record {
      weights = c.equal_trees_have_one_polynomial.ensures.weights;
      forms = c.equal_trees_have_one_normal_form.ensures.forms;
      terms = c.equal_trees_have_one_normal_form.ensures.terms;
    } in
    record { counts = count-alike; hidden = hidden-alike; narrow = narrow-alike known; paths = paths-alike known }
