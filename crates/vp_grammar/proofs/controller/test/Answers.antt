use Rattle.std.proofs.lemmas.Result.{err_from_is_err_and}
use Rattle.vp_terms.specs.Tree.{formula_tree}
use Rattle.vp_grammar.specs.FormulaReads.{IsDisjunction}
use Rattle.vp_grammar.specs.Controllers.{IsTest}
use Rattle.vp_grammar.proofs.Steps.{fails}
use Rattle.vp_grammar.proofs.ControllerSteps.{test_has_formula, test_unclosed}
use Rattle.vp_grammar.proofs.controller.test.Goals as goal

pub returns-in_err-formula-clause-reads : goal.returns-in_err-formula-clause-reads
returns-in_err-formula-clause-reads c =
    let p = err_from_is_err_and c.from_residual.result c.from_residual.ensures.1 in
    rw (p.1, p.2) (fails (IsDisjunction c.args.terminals.now) (IsTest c.args.terminals.now) c.in_err-formula.field-0.0 (test_has_formula c.args.terminals.now) c.in_err-formula.ensures.reads)

pub returns-in-None-clause-reads : goal.returns-in-None-clause-reads
returns-in-None-clause-reads c = test_unclosed c.args.terminals.now c.in_ok-formula.rest.now (formula_tree c.in_ok-formula.formula) c.in_ok-formula.ensures.reads c.in-None.ensures
