use Rattle.vp_terms.specs.Tree.{prog_tree}
use Rattle.vp_grammar.proofs.ControllerSteps.{reads_controller}
use Rattle.vp_grammar.proofs.controller.whole_controller.Goals as goal

pub returns-in-Some : goal.returns-in-Some
returns-in-Some c = reads_controller (λ x. prog_tree x) c.args.terminals.now c.in-Some.rest.now c.whole_choice.result c.in-Some.ensures c.whole_choice.ensures
