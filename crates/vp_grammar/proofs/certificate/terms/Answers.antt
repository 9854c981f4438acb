use Rattle.std.proofs.Common.{map}
use Rattle.std.proofs.lemmas.Result.{err_from_is_err_and}
use Rattle.vp_terms.specs.Packages.{term_tree}
use Rattle.vp_grammar.proofs.Lists.{pushed}
use Rattle.vp_grammar.proofs.CertificateSteps.{terms_fail_first, terms_begin, terms_end, terms_fail_next, term_more}
use Rattle.vp_grammar.proofs.certificate.terms.Goals as goal

pub returns-in_err-first : goal.returns-in_err-first
returns-in_err-first c =
    let r = c.from_residual in
    let p = err_from_is_err_and r.result r.ensures.1 in
    rw (p.1, p.2) (terms_fail_first c.args.terminals.now c.in-Some.more.now c.in_err-first.field-0.0 c.in-Some.ensures c.in_err-first.ensures)

pub terms-init : goal.terms-init
terms-init c = record {
  so_far = rw c.in_ok-found.ensures.items (terms_begin c.args.terminals.now c.in-Some.more.now c.in_ok-first.rest.now (term_tree c.in_ok-first.first) c.in-Some.ensures c.in_ok-first.ensures);
}

pub returns-in-Some-after_symbol : goal.returns-in-Some-after_symbol
returns-in-Some-after_symbol c = terms_end c.args.terminals.now c.terms.rest.now c.in-Some-after_symbol.after.now (map term_tree c.terms.found.items) c.terms.invariant.so_far c.in-Some-after_symbol.ensures

pub returns-in_err-term : goal.returns-in_err-term
returns-in_err-term c =
    let r = c.from_residual-in_err-term in
    let p = err_from_is_err_and r.result r.ensures.1 in
    rw (p.1, p.2) (terms_fail_next c.args.terminals.now c.terms.rest.now (map term_tree c.terms.found.items) c.in_err-term.field-0.0 c.terms.invariant.so_far c.in_default-after_symbol.ensures c.in_err-term.ensures.reads)

pub terms-preserved : goal.terms-preserved
terms-preserved c = record {
  so_far = rw (pushed term_tree c.terms.found.items c.push.new.self.items c.in_ok-term.term c.in_ok-push.ensures.items) (term_more c.args.terminals.now c.terms.rest.now c.in_ok-term.after.now (map term_tree c.terms.found.items) (term_tree c.in_ok-term.term) c.terms.invariant.so_far c.in_ok-term.ensures.reads);
}
