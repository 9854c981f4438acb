use Rattle.std.proofs.lemmas.Result.{err_from_is_err_and}
use Rattle.vp_grammar.proofs.EntrySteps.{bound_fails, no_bound}
use Rattle.vp_grammar.proofs.entries.bound.Goals as goal

pub returns-in_err-low-in-Some-clause-reads : goal.returns-in_err-low-in-Some-clause-reads
returns-in_err-low-in-Some-clause-reads c =
    let r = c.from_residual in
    let p = err_from_is_err_and r.result r.ensures.1 in
    rw (p.1, p.2) (bound_fails c.args.terminals.now c.in-Some.more.now c.in_err-low-in-Some.field-0.0 c.in-Some.ensures c.in_err-low-in-Some.ensures.reads)

pub returns-in-None-clause-reads : goal.returns-in-None-clause-reads
returns-in-None-clause-reads c = no_bound c.args.terminals.now c.in-None.ensures
