use Rattle.vp_grammar.proofs.GoodControllers.{controller_good, controller_small}
use Rattle.vp_grammar.proofs.KeptControllers.{kept_controller}
use Rattle.vp_grammar.proofs.NoStrays.{all_control}
use Rattle.vp_grammar.proofs.controller_laws.good_controllers.Goals as goal

pub returns-clause-controllers : goal.returns-clause-controllers
returns-clause-controllers c = λ p g ts s h. controller_good p g ts s (all_control p 0 ts h)

pub returns-clause-sizes : goal.returns-clause-sizes
returns-clause-sizes c = controller_small

pub returns-clause-kept : goal.returns-clause-kept
returns-clause-kept c = kept_controller
