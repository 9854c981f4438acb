use Rattle.std.proofs.Common.{◌≢◌, length, rules}
use Rattle.std.proofs.lemmas.Result.{err_from_is_err_and}
use Rattle.vp_terms.specs.Tree.{formula_tree}
use Rattle.vp_grammar.proofs.FormulaSteps.{formula_fails_all, formula_not_all}
use Rattle.vp_grammar.proofs.formula.whole_formula.Goals as goal

pub returns-in_err-found : goal.returns-in_err-found
returns-in_err-found c =
    let p = err_from_is_err_and c.from_residual.result c.from_residual.ensures.1 in
    rw (p.1, p.2) (formula_fails_all c.args.terminals.now c.in_err-found.field-0.0 c.in_err-found.ensures.reads)

pub returns-else-is_empty : goal.returns-else-is_empty
returns-else-is_empty c =
    let n : length c.in_ok-found.rest.now ≢ 0 = search rules in
    formula_not_all c.args.terminals.now c.in_ok-found.rest.now (formula_tree c.in_ok-found.found) c.in_ok-found.ensures.reads n
