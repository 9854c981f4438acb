use Rattle.std.proofs.Common.{◌≢◌, length, rules}
use Rattle.std.proofs.lemmas.Result.{err_from_is_err_and}
use Rattle.vp_terms.specs.Tree.{prog_tree}
use Rattle.vp_grammar.proofs.ControllerSteps.{choice_fails_all, choice_unclosed, choice_not_all}
use Rattle.vp_grammar.proofs.controller.whole_choice.Goals as goal
use Rattle.vp_grammar.proofs.controller.whole_choice.Goals.{in_default-via-in-Some+else-is_empty, in_default-via-in_default}

pub returns-in_err-found : goal.returns-in_err-found
returns-in_err-found c =
    let p = err_from_is_err_and c.from_residual.result c.from_residual.ensures.1 in
    rw (p.1, p.2) (choice_fails_all c.args.terminals.now c.in_err-found.field-0.0 c.in_err-found.ensures.reads)

pub returns-in_default : goal.returns-in_default
returns-in_default c = elim c.in_default.branch [
  | in_default-via-in-Some+else-is_empty w ↦ (let n : length w.in-Some.after.now ≢ 0 = search rules in choice_not_all c.args.terminals.now c.in_ok-found.rest.now w.in-Some.after.now (prog_tree c.in_ok-found.found) c.in_ok-found.ensures.reads w.in-Some.ensures n)
  | in_default-via-in_default w ↦ choice_unclosed c.args.terminals.now c.in_ok-found.rest.now (prog_tree c.in_ok-found.found) c.in_ok-found.ensures.reads w.in_default.ensures
]
