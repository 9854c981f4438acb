use Rattle.vp_monitor.proofs.Counting.{init_is_few, plant_is_few}
use Rattle.vp_monitor.proofs.laws.monitors_have_few_conjuncts.Goals as goal

pub returns-clause-init : goal.returns-clause-init
returns-clause-init c = init_is_few

pub returns-clause-plant : goal.returns-clause-plant
returns-clause-plant c = plant_is_few
