use Rattle.std.proofs.lemmas.Result.{err_from_is_err_and}
use Rattle.vp_terms.specs.Tree.{expr_tree}
use Rattle.vp_grammar.proofs.EntrySteps.{pair_fails_low, pair_fails_high, no_pair}
use Rattle.vp_grammar.proofs.entries.pair.Goals as goal

pub returns-in_err-low-clause-reads : goal.returns-in_err-low-clause-reads
returns-in_err-low-clause-reads c =
    let p = err_from_is_err_and c.from_residual.result c.from_residual.ensures.1 in
    rw (p.1, p.2) (pair_fails_low c.args.terminals.now c.in_err-low.field-0.0 c.in_err-low.ensures.reads)

pub returns-in_err-high-in-Some-clause-reads : goal.returns-in_err-high-in-Some-clause-reads
returns-in_err-high-in-Some-clause-reads c =
    let r = c.from_residual-in_err-high-in-Some in
    let p = err_from_is_err_and r.result r.ensures.1 in
    rw (p.1, p.2) (pair_fails_high c.args.terminals.now c.in_ok-low.rest.now c.in-Some.more.now (expr_tree c.in_ok-low.low) c.in_err-high-in-Some.field-0.0 c.in_ok-low.ensures.reads c.in-Some.ensures c.in_err-high-in-Some.ensures.reads)

pub returns-in-None-clause-reads : goal.returns-in-None-clause-reads
returns-in-None-clause-reads c = no_pair c.args.terminals.now c.in_ok-low.rest.now (expr_tree c.in_ok-low.low) c.in_ok-low.ensures.reads c.in-None.ensures
