use Rattle.std.proofs.lemmas.Option.{slice_get_within}
use Rattle.vp_poly.specs.Places.{HasOnly, HaveOnly}
use Rattle.vp_sandbox.specs.Scope.{allows}
use Rattle.vp_sandbox.proofs.Passing.{Left-more, Left-stop, only-splits, read, fails, refused}
use Rattle.vp_sandbox.proofs.fit.have_only.Goals as goal

pub returns-then-not-has_only : goal.returns-then-not-has_only
returns-then-not-has_only c =
    let f = allows c.args.scope in
    let at = c.term.ensures.exact in
    refused (Left-stop (HaveOnly f) (λ t. HasOnly f t.mono.powers) c.args.poly.now c.loop-k.k c.term.result (only-splits f) c.loop-k.invariant (slice_get_within c.args.poly.now c.loop-k.k c.term.result at) (read c.args.poly.now c.loop-k.k c.term.result at) (fails c.has_only.result c.has_only.ensures c.if-not-has_only.true))

pub loop-k-preserved : goal.loop-k-preserved
loop-k-preserved c =
    let f = allows c.args.scope in
    let at = c.term.ensures.exact in
    Left-more (HaveOnly f) (λ t. HasOnly f t.mono.powers) c.args.poly.now c.loop-k.k c.term.result (only-splits f) c.loop-k.invariant (slice_get_within c.args.poly.now c.loop-k.k c.term.result at) (read c.args.poly.now c.loop-k.k c.term.result at) (c.has_only.ensures.0 c.if-not-has_only.false)
