use Rattle.std.proofs.lemmas.Result.{err_from_is_err_and}
use Rattle.vp_terms.specs.Tree.{expr_tree}
use Rattle.vp_grammar.specs.Reads.{IsExpression}
use Rattle.vp_grammar.specs.Controllers.{IsGiven}
use Rattle.vp_grammar.proofs.Steps.{fails}
use Rattle.vp_grammar.proofs.ControllerSteps.{given_has_expression, given_unclosed}
use Rattle.vp_grammar.proofs.controller.given.Goals as goal

pub returns-in_err-value-clause-reads : goal.returns-in_err-value-clause-reads
returns-in_err-value-clause-reads c =
    let p = err_from_is_err_and c.from_residual.result c.from_residual.ensures.1 in
    rw (p.1, p.2) (fails (IsExpression c.args.terminals.now) (IsGiven c.args.control c.args.terminals.now) c.in_err-value.field-0.0 (given_has_expression c.args.control c.args.terminals.now) c.in_err-value.ensures.reads)

pub returns-in-None-clause-reads : goal.returns-in-None-clause-reads
returns-in-None-clause-reads c = given_unclosed c.args.control c.args.terminals.now c.in_ok-value.rest.now (expr_tree c.in_ok-value.value) c.in_ok-value.ensures.reads c.in-None.ensures
