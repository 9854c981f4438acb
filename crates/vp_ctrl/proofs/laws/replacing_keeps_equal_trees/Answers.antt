use Rattle.vp_ctrl.proofs.Alike.{formula_replaced-alike, replaced-alike}
use Rattle.vp_ctrl.proofs.laws.replacing_keeps_equal_trees.Goals as goal

pub returns : goal.returns
returns c = record { expressions = replaced-alike; formulas = formula_replaced-alike }
