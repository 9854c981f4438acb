use Rattle.std.proofs.lemmas.Result.{err_from_is_err_and}
use Rattle.vp_terms.specs.Tree.{expr_tree}
use Rattle.vp_grammar.proofs.CertificateSteps.{no_equation, equation_fails, equation_of, not_ended}
use Rattle.vp_grammar.proofs.certificate.equation.Goals as goal

pub returns-in_default-clause-reads : goal.returns-in_default-clause-reads
returns-in_default-clause-reads c = no_equation c.args.terminals.now c.in_default.ensures

pub returns-in_err-times-clause-reads : goal.returns-in_err-times-clause-reads
returns-in_err-times-clause-reads c =
    let r = c.from_residual in
    let p = err_from_is_err_and r.result r.ensures.1 in
    rw (p.1, p.2) (equation_fails c.args.terminals.now c.in-Some.rest.now c.in-Some-after_word.more.now c.in-Some.label c.in_err-times.field-0.0 c.in-Some.ensures c.in-Some-after_word.ensures c.in_err-times.ensures.reads)

pub returns-in-Some-after_symbol-clause-reads : goal.returns-in-Some-after_symbol-clause-reads
returns-in-Some-after_symbol-clause-reads c = equation_of c.args.terminals.now c.in-Some.rest.now c.in-Some-after_word.more.now c.in_ok-times.behind.now c.in-Some-after_symbol.after.now c.in-Some.label (expr_tree c.in_ok-times.times) c.in-Some.ensures c.in-Some-after_word.ensures c.in_ok-times.ensures.reads c.in-Some-after_symbol.ensures

pub returns-in-None-clause-reads : goal.returns-in-None-clause-reads
returns-in-None-clause-reads c = not_ended c.args.terminals.now c.in-Some.rest.now c.in-Some-after_word.more.now c.in_ok-times.behind.now c.in-Some.label (expr_tree c.in_ok-times.times) c.in-Some.ensures c.in-Some-after_word.ensures c.in_ok-times.ensures.reads c.in-None.ensures
