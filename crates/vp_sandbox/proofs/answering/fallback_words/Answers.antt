use Rattle.std.proofs.Common.{◌≡◌, ℕ, ◌<◌, map, take, IsTrue, Some, None, refl, arith, rules, subst}
use Rattle.std.proofs.Math.Numerals.{add-one}
use Rattle.std.specs.List.{list_all}
use Rattle.vp_words.specs.Number.{is_finite}
use Rattle.vp_interval.specs.Interval.{ends}
use Rattle.vp_interval.specs.Rounding.{Ends}
use Rattle.vp_interval.specs.Polynomial.{interval_of}
use Rattle.vp_sandbox.specs.Boxes.{point_words}
use Rattle.vp_sandbox.specs.Fits.{in_init}
use Rattle.vp_sandbox.proofs.Fitting.{poly_fits, places_at, small_at}
use Rattle.vp_sandbox.proofs.Pointing.{HasWords-none, HasWords-more, HasWords-stops, HasWords-all}
use Rattle.vp_sandbox.proofs.answering.fallback_words.Goals as goal

pub loop-i-init : goal.loop-i-init
loop-i-init c = HasWords-none _ _ _ refl

pub point_of-requires-clause-places : goal.point_of-requires-clause-places
point_of-requires-clause-places c =
    let lt = rw c.get-poly-items.ensures at c.loop-i-test.true in
    let is = rw c.get-poly-items.ensures at c.poly-item.is in
    places_at _ (in_init c.args.s.now.counts) c.poly-item.result c.type_inv.boxes (rw is (poly_fits (in_init c.args.s.now.counts) c.args.s.now.fallback c.loop-i.i c.poly-item.result lt c.requires.fallback))

pub point_of-requires-clause-small : goal.point_of-requires-clause-small
point_of-requires-clause-small c =
    let lt = rw c.get-poly-items.ensures at c.loop-i-test.true in
    let is = rw c.get-poly-items.ensures at c.poly-item.is in
    small_at (in_init c.args.s.now.counts) c.poly-item.result (rw is (poly_fits (in_init c.args.s.now.counts) c.args.s.now.fallback c.loop-i.i c.poly-item.result lt c.requires.fallback))

pub returns-in_err-words : goal.returns-in_err-words
returns-in_err-words c =
    let lt = rw c.get-poly-items.ensures at c.loop-i-test.true in
    let is = rw c.get-poly-items.ensures at c.poly-item.is in
    let none : c.from_residual.result ≡ None = search rules in
    let same : Ends → Type 0 = λ e. e.lo ≡ e.hi in
    let apart = λ (e : same (interval_of (map ends c.args.boxes.now) c.poly-item.result)). (let q = c.in_err-words.ensures.some.1 e in absurd (cc)) in
    rw none (HasWords-stops _ _ c.loop-i.i c.loop-i.words c.poly-item.result lt is c.loop-i.invariant apart)

pub loop-i-preserved : goal.loop-i-preserved
loop-i-preserved c =
    let lt = rw c.get-poly-items.ensures at c.loop-i-test.true in
    let is = rw c.get-poly-items.ensures at c.poly-item.is in
    let few : c.loop-i.i < 16 = omega (arith, lt, c.requires.fallback_count, c.requires.counts.0, c.requires.counts.2) in
    rw
    add-one
    (HasWords-more
    _
    _
    c.loop-i.i
    c.loop-i.words
    c.poly-item.result
    lt
    is
    c.loop-i.invariant
    c.in_ok-words.field-0
    few
    (c.in_ok-words.ensures.some.0 refl)
    c.in_ok-words.ensures.word
    c.in_ok-words.ensures.finite)

pub returns : goal.returns
returns c =
    let all = rw c.get-poly-items.ensures at c.loop-i-test.false in
    let most = rw c.get-poly-items.ensures at c.loop-i.auto.i-end in
    let e : c.loop-i.i ≡ c.args.s.now.counts.controls = omega (arith, all, most, c.requires.fallback_count) in
    let h = c.loop-i.invariant in
    let words = HasWords-all _ _ c.loop-i.i c.loop-i.words all h in
    let count = λ (n : ℕ). (point_words (map (interval_of (map ends c.args.boxes.now)) c.args.s.now.fallback) ≡ Some (take n c.loop-i.words)) × IsTrue (list_all is_finite (take n c.loop-i.words)) in
    subst count e (words, h.finite)
