use Rattle.vp_terms.proofs.Trees.{same_value, same_truth, same_program}
use Rattle.vp_terms.proofs.SameModels.{same_plant, same_inductive}
use Rattle.vp_terms.proofs.laws.equal_trees_mean_the_same.Goals as goal

pub returns : goal.returns
returns c = record { values = same_value; truth = same_truth; programs = same_program; plants = same_plant; inductive = same_inductive }
