use Rattle.std.proofs.Common.{◌≡◌, [], ◌∷◌, map, true, IsTrue, rules}
use Rattle.std.specs.List.{list_all}
use Rattle.std.proofs.lemmas.Result.{err_from_is_err_and}
use Rattle.vp_grammar.specs.Certificates.{is_no_fraction}
use Rattle.vp_terms.specs.Packages.{term_tree}
use Rattle.vp_grammar.proofs.EntrySteps.{semicolon}
use Rattle.vp_grammar.proofs.CertificateForms.{no_head, cert_fails, cert_read, not_ended}
use Rattle.vp_grammar.proofs.certificate.whole_certificate.Goals as goal

pub returns-in_default : goal.returns-in_default
returns-in_default c = no_head c.args.terminals.now c.in_default.ensures

pub returns-in_err-terms : goal.returns-in_err-terms
returns-in_err-terms c =
    let r = c.from_residual in
    let p = err_from_is_err_and r.result r.ensures.1 in
    rw (p.1, p.2) (cert_fails c.args.terminals.now c.in-Some.more.now c.in-Some.part c.in-Some.number c.in_err-terms.field-0.0 c.in-Some.ensures c.in_err-terms.ensures)

pub returns-then-is_only : goal.returns-then-is_only
returns-then-is_only c =
    let e : c.in_ok-terms.rest.now ≡ semicolon ∷ [] = search rules in
    let w : IsTrue (list_all is_no_fraction c.args.terminals.now) = search rules in
    rw c.of.ensures (cert_read c.args.terminals.now c.in-Some.more.now c.in_ok-terms.rest.now c.in-Some.part c.in-Some.number (map term_tree c.in_ok-terms.terms.items) c.in-Some.ensures c.in_ok-terms.ensures e w)

pub returns-else-is_only : goal.returns-else-is_only
returns-else-is_only c = not_ended c.args.terminals.now c.in-Some.more.now c.in_ok-terms.rest.now c.in-Some.part c.in-Some.number (map term_tree c.in_ok-terms.terms.items) c.in-Some.ensures c.in_ok-terms.ensures (λ q. let a : c.is_only.result ≡ true = c.is_only.ensures.1 q in cc)
