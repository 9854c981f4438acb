use Rattle.std.proofs.lemmas.Result.{err_from_is_err_and}
use Rattle.vp_terms.specs.Tree.{expr_tree}
use Rattle.vp_grammar.proofs.CertificateSteps.{bracketed_fails, unclosed}
use Rattle.vp_grammar.proofs.certificate.bracketed.Goals as goal

pub returns-in_err-inner-in-Some-clause-reads : goal.returns-in_err-inner-in-Some-clause-reads
returns-in_err-inner-in-Some-clause-reads c =
    let r = c.from_residual in
    let p = err_from_is_err_and r.result r.ensures.1 in
    rw (p.1, p.2) (bracketed_fails c.args.terminals.now c.in-Some.more.now c.in_err-inner-in-Some.field-0.0 c.in-Some.ensures c.in_err-inner-in-Some.ensures.reads)

pub returns-in-None-after_symbol-clause-reads : goal.returns-in-None-after_symbol-clause-reads
returns-in-None-after_symbol-clause-reads c = unclosed c.args.terminals.now c.in-Some.more.now c.in_ok-inner-in-Some.rest.now (expr_tree c.in_ok-inner-in-Some.inner) c.in-Some.ensures c.in_ok-inner-in-Some.ensures.reads c.in-None-after_symbol.ensures
