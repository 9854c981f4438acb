use Rattle.std.proofs.Common.{◌≤◌, arith}
use Rattle.std.proofs.lemmas.Result.{err_from_is_err_and}
use Rattle.vp_poly.specs.Places.{places_for}
use Rattle.vp_ctrl.specs.Walked.{Follows}
use Rattle.vp_ctrl.proofs.Standing.{path_below_of}
use Rattle.vp_ctrl.proofs.Coming as coming
use Rattle.vp_ctrl.proofs.walk.Walk.test.Goals as goal

pub term_count-requires-clause-places : goal.term_count-requires-clause-places
term_count-requires-clause-places c = path_below_of (places_for c.args.counts) c.args.formula.now c.requires.variables

pub returns-then-terms-gt-MOST_TERMS-clause-wide : goal.returns-then-terms-gt-MOST_TERMS-clause-wide
returns-then-terms-gt-MOST_TERMS-clause-wide c =
    λ s rs cs h e.
    let count = rw (c.deref-2.ensures.value, c.in_ok-weights.ensures, c.deref.ensures.value) at c.term_count.ensures in
    coming.test_many (places_for c.args.counts) c.args.self.now c.args.self.now s rs cs h c.normal_forms_compose.ensures.terms c.args.formula.now c.args.denied c.requires.variables c.saturating_add-terms.result c.term_count.result count c.saturating_add-terms.ensures c.if-terms-gt-MOST_TERMS.true

pub returns-in_err-part-clause-wide : goal.returns-in_err-part-clause-wide
returns-in_err-part-clause-wide c =
    λ s rs cs h e.
    let p = err_from_is_err_and c.from_residual-in_err-part.result c.from_residual-in_err-part.ensures.1 in
    let f : Follows (places_for c.args.counts) c.deref-3.result.now s = rw c.deref-3.ensures.value h.follows in
    coming.test_wide (places_for c.args.counts) c.args.self.now c.args.self.now s rs cs h _ (c.in_err-part.ensures.wide s f (cc))

pub returns-clause-come : goal.returns-clause-come
returns-clause-come c =
    λ s rs cs h.
    let count = rw (c.deref-2.ensures.value, c.in_ok-weights.ensures, c.deref.ensures.value) at c.term_count.ensures in
    let f : Follows (places_for c.args.counts) c.deref-3.result.now s = rw c.deref-3.ensures.value h.follows in
    let few : c.saturating_add-terms.result ≤ 65536 = omega arith in
    coming.test_come
    (places_for c.args.counts)
    c.args.self.now
    c.add.new.self
    s
    rs
    cs
    h
    c.normal_forms_compose.ensures.terms
    c.args.formula.now
    c.args.denied
    c.requires.variables
    c.saturating_add-terms.result
    c.term_count.result
    count
    c.saturating_add-terms.ensures
    c.in_ok-part.part
    few
    (c.in_ok-part.ensures.form s f)
    (c.in_ok-part.ensures.fits s f)
    c.in_ok-part.ensures.sized
    (c.in_ok-part.ensures.only s f)
    c.in_ok-add.ensures.env
    c.in_ok-add.ensures.parts
    c.in_ok-add.ensures.terms
