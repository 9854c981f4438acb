use Rattle.std.proofs.lemmas.Result.{err_from_is_err_and}
use Rattle.vp_terms.specs.Tree.{expr_tree}
use Rattle.std.proofs.Common.{map}
use Rattle.vp_grammar.proofs.CertificateSteps.{no_sum, sum_fails_labels}
use Rattle.vp_grammar.proofs.certificate.sum.Goals as goal

pub returns-in_default-clause-reads : goal.returns-in_default-clause-reads
returns-in_default-clause-reads c = no_sum c.args.terminals.now c.in_default.ensures

pub returns-in_err-labels-clause-reads : goal.returns-in_err-labels-clause-reads
returns-in_err-labels-clause-reads c =
    let r = c.from_residual-in_err-labels in
    let p = err_from_is_err_and r.result r.ensures.1 in
    rw (p.1, p.2) (sum_fails_labels c.args.terminals.now c.in-Some.rest.now c.in_ok-squares.behind.now c.in-Some.times (map expr_tree c.in_ok-squares.squares.items) c.in_err-labels.field-0.0 c.in-Some.ensures c.in_ok-squares.ensures.reads c.in_err-labels.ensures.reads)
