use Rattle.std.proofs.lemmas.Result.{err_from_is_err_and}
use Rattle.vp_terms.specs.Tree.{expr_tree}
use Rattle.vp_grammar.specs.Reads.{IsExpression}
use Rattle.vp_grammar.specs.FormulaReads.{IsComparison}
use Rattle.vp_grammar.proofs.Steps.{fails}
use Rattle.vp_grammar.proofs.FormulaSteps.{comparison_has_left, comparison_has_right, no_comparison}
use Rattle.vp_grammar.proofs.formula.comparison.Goals as goal

pub returns-in_err-left-clause-reads : goal.returns-in_err-left-clause-reads
returns-in_err-left-clause-reads c =
    let p = err_from_is_err_and c.from_residual.result c.from_residual.ensures.1 in
    rw (p.1, p.2) (fails (IsExpression c.args.terminals.now) (IsComparison c.args.terminals.now) c.in_err-left.field-0.0 (comparison_has_left c.args.terminals.now) c.in_err-left.ensures.reads)

pub returns-in_err-right-in-Some-clause-reads : goal.returns-in_err-right-in-Some-clause-reads
returns-in_err-right-in-Some-clause-reads c =
    let r = c.from_residual-in_err-right-in-Some in
    let p = err_from_is_err_and r.result r.ensures.1 in
    rw (p.1, p.2) (fails (IsExpression c.in-Some.more.now) (IsComparison c.args.terminals.now) c.in_err-right-in-Some.field-0.0 (comparison_has_right c.args.terminals.now c.in_ok-left.rest.now c.in-Some.more.now (expr_tree c.in_ok-left.left) c.in-Some.cmp c.in_ok-left.ensures.reads c.in-Some.ensures) c.in_err-right-in-Some.ensures.reads)

pub returns-in-None-clause-reads : goal.returns-in-None-clause-reads
returns-in-None-clause-reads c = no_comparison c.args.terminals.now c.in_ok-left.rest.now (expr_tree c.in_ok-left.left) c.in_ok-left.ensures.reads c.in-None.ensures
