use Rattle.std.proofs.Common.{◌≤◌, All, length, map, ap, sym, subst, arith}
use Rattle.std.proofs.lemmas.Result.{err_from_is_err_and}
use Rattle.vp_read.specs.Naming.{AreFew}
use Rattle.vp_read.specs.Pieces.{items}
use Rattle.vp_read.proofs.Drafting.{pieces_refuse, head_refuses, body_refuses, is_draft}
use Rattle.vp_read.proofs.reading.draft.Goals as goal

pub returns-in_err-names-clause-drafts : goal.returns-in_err-names-clause-drafts
returns-in_err-names-clause-drafts c =
    let p = err_from_is_err_and c.from_residual-in_err-names.result c.from_residual-in_err-names.ensures.1 in
    let h = (rw (c.deref.ensures.value, c.deref-2.ensures.value) at c.in_err-names.ensures.reads) in
    rw (p.1, p.2) (head_refuses c.args.text.now c.in_ok-tokens.tokens.items (map items c.in_ok-tokens.pieces.items) c.in_err-names.field-0.0 c.in_ok-tokens.ensures.reads.0 c.in_ok-tokens.ensures.reads.1 h)

pub returns-in_err-tokens-clause-drafts : goal.returns-in_err-tokens-clause-drafts
returns-in_err-tokens-clause-drafts c =
    let p = err_from_is_err_and c.from_residual.result c.from_residual.ensures.1 in
    rw (p.1, p.2) (pieces_refuse c.args.text.now c.in_err-tokens.field-0.0 c.in_err-tokens.ensures.reads)

pub body-requires-clause-few : goal.body-requires-clause-few
body-requires-clause-few c =
    omega (arith, c.in_ok-known.ensures.count, ap length c.deref-3.ensures.value, ap length c.deref-4.ensures.value, c.in_ok-tokens.ensures.few)

pub body-requires-clause-short : goal.body-requires-clause-short
body-requires-clause-short c =
    subst (All (λ v. length v.items ≤ 1048576)) (sym c.deref-4.ensures.value) c.in_ok-known.ensures.short

pub returns-in_err-pkg-clause-drafts : goal.returns-in_err-pkg-clause-drafts
returns-in_err-pkg-clause-drafts c =
    let p = err_from_is_err_and c.from_residual-in_err-pkg.result c.from_residual-in_err-pkg.ensures.1 in
    let h = (rw c.deref-4.ensures.value at c.in_err-pkg.ensures.reads) in
    rw (p.1, p.2) (body_refuses c.args.text.now c.in_ok-tokens.tokens.items (map items c.in_ok-tokens.pieces.items) (map items c.in_ok-known.known.items) c.in_ok-names.names c.in_err-pkg.field-0.0 c.in_ok-tokens.ensures.reads.0 c.in_ok-tokens.ensures.reads.1 (rw (c.deref.ensures.value, c.deref-2.ensures.value) at c.in_ok-names.ensures.reads) (rw c.deref-3.ensures.value at c.in_ok-known.ensures.known) h)

pub returns-clause-drafts : goal.returns-clause-drafts
returns-clause-drafts c =
    let h = (rw c.deref-4.ensures.value at c.in_ok-pkg.ensures.reads) in
    is_draft c.args.text.now c.in_ok-tokens.tokens.items (map items c.in_ok-tokens.pieces.items) (map items c.in_ok-known.known.items) c.in_ok-names.names c.in_ok-pkg.pkg c.in_ok-tokens.ensures.reads.0 c.in_ok-tokens.ensures.reads.1 (rw (c.deref.ensures.value, c.deref-2.ensures.value) at c.in_ok-names.ensures.reads) (rw c.deref-3.ensures.value at c.in_ok-known.ensures.known) h.0 h.1

pub returns-clause-names : goal.returns-clause-names
returns-clause-names c = subst AreFew (sym c.in_ok-pkg.ensures.reads.0) c.in_ok-names.ensures.few

pub returns-clause-few : goal.returns-clause-few
returns-clause-few c =
    omega (arith, c.in_ok-known.ensures.count, ap length c.deref-3.ensures.value, c.in_ok-tokens.ensures.few)
