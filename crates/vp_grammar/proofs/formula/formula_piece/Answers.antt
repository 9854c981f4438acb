use Rattle.std.proofs.Common.{◌≡◌, true}
use Rattle.std.proofs.lemmas.Result.{err_from_is_err_and}
use Rattle.vp_terms.specs.Tree.{formula_tree}
use Rattle.vp_grammar.proofs.FormulaSteps.{piece_fails, piece_goes_on}
use Rattle.vp_grammar.proofs.formula.formula_piece.Goals as goal

pub returns-in_err-found-in-Some : goal.returns-in_err-found-in-Some
returns-in_err-found-in-Some c =
    let p = err_from_is_err_and c.from_residual.result c.from_residual.ensures.1 in
    rw (p.1, p.2) (piece_fails c.args.word c.args.terminals.now c.in-Some.more.now c.in_err-found-in-Some.field-0.0 c.in-Some.ensures c.in_err-found-in-Some.ensures.reads)

pub returns-else-is_only : goal.returns-else-is_only
returns-else-is_only c =
    piece_goes_on c.args.word c.args.terminals.now c.in-Some.more.now c.in_ok-found-in-Some.rest.now (formula_tree c.in_ok-found-in-Some.found) c.in-Some.ensures c.in_ok-found-in-Some.ensures.reads (λ q. let a : c.is_only.result ≡ true = c.is_only.ensures.1 q in cc)
