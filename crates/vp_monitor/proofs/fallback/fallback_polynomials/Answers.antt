use Rattle.std.proofs.Common.{◌≡◌, ◌<◌, ℕ, List, IsTrue, length, slice_get, Some, get_or, ap, sym, subst, ◌∙◌, arith, refl}
use Rattle.std.proofs.lemmas.Option.{slice_get-get_or}
use Rattle.std.proofs.lemmas.Result.{err_from_is_err_and}
use Rattle.vp_terms.specs.WellFormed.{in_model, is_good_expr}
use Rattle.vp_terms.specs.declared.expr.Expr.{Expr}
use Rattle.vp_terms.specs.declared.expr.Places.{Places}
use Rattle.vp_flow.specs.Sides.{model}
use Rattle.vp_monitor.specs.Refusals.{RefusesFallback}
use Rattle.vp_monitor.proofs.Falling.{come_all, come_more, come_none, refused_at}
use Rattle.vp_monitor.proofs.Four.{refused_so}
use Rattle.vp_monitor.proofs.Inductive.{good_at}
use Rattle.vp_monitor.proofs.fallback.fallback_polynomials.Goals as goal

found : (xs ys : List Expr) (i : ℕ) (e : Expr) → xs ≡ ys → i < length xs → e ≡ get_or xs i e → slice_get ys i ≡ Some e
found xs ys i e s l is = ap (λ (zs : List Expr). slice_get zs i) (sym s) ∙ slice_get-get_or xs i e l ∙ ap Some (sym is)

pub fallback_polynomial-requires-clause-control : goal.fallback_polynomial-requires-clause-control
fallback_polynomial-requires-clause-control c =
    let e : c.args.counts.controls ≡ length c.args.pkg.now.names.controls = ap (λ (p : Places). p.controls) c.requires.places in
    omega (arith, e, c.loop-k-test.true, ap length c.get-value-items.ensures, c.requires.good.fallback_count)

pub fallback_polynomial-requires-clause-named : goal.fallback_polynomial-requires-clause-named
fallback_polynomial-requires-clause-named c = ap (λ (p : Places). p.controls) c.requires.places

pub fallback_polynomial-requires-clause-good : goal.fallback_polynomial-requires-clause-good
fallback_polynomial-requires-clause-good c =
    subst (λ (p : Places). IsTrue (is_good_expr in_model p c.value-item.result)) (sym c.requires.places)
    (good_at (is_good_expr in_model (model c.args.pkg.now)) c.args.pkg.now.fallback c.loop-k.k c.value-item.result c.requires.good.fallback (found c.get-value-items.result.now c.args.pkg.now.fallback c.loop-k.k c.value-item.result c.get-value-items.ensures c.loop-k-test.true c.value-item.is))

pub loop-k-init : goal.loop-k-init
loop-k-init c = come_none c.args.counts c.args.pkg.now.fallback c.new-all.result.items c.new-all.ensures.items

pub loop-k-preserved : goal.loop-k-preserved
loop-k-preserved c =
    come_more c.args.counts c.args.pkg.now.fallback c.loop-k.k c.value-item.result c.in_ok-poly.poly c.loop-k.all.items c.push.new.self.items
    (omega (arith, c.loop-k-test.true, ap length c.get-value-items.ensures))
    (c.value-item.is ∙ ap (λ (xs : List Expr). get_or xs c.loop-k.k c.value-item.result) c.get-value-items.ensures)
    c.loop-k.invariant c.in_ok-push.ensures.items c.in_ok-poly.ensures.exact (c.in_ok-poly.ensures.good refl) c.in_ok-poly.ensures.meaning c.in_ok-poly.ensures.small c.in_ok-poly.ensures.only

pub returns-in_err-poly-clause-refused : goal.returns-in_err-poly-clause-refused
returns-in_err-poly-clause-refused c =
    let q = err_from_is_err_and c.from_residual.result c.from_residual.ensures.1 in
    refused_so (RefusesFallback c.args.pkg.now) c.from_residual.result q.0 c.in_err-poly.field-0.0 q.1 q.2
    (refused_at c.args.pkg.now c.args.counts c.loop-k.k c.value-item.result c.in_err-poly.field-0.0 c.requires.places
    (omega (arith, c.loop-k-test.true, ap length c.get-value-items.ensures))
    (c.value-item.is ∙ ap (λ (xs : List Expr). get_or xs c.loop-k.k c.value-item.result) c.get-value-items.ensures)
    c.loop-k.invariant.good c.in_err-poly.ensures.refused)

pub returns-clause-exact : goal.returns-clause-exact
returns-clause-exact c = (come_all c.args.counts c.args.pkg.now.fallback c.loop-k.k c.loop-k.all.items (omega (arith, c.loop-k-test.false, ap length c.get-value-items.ensures)) c.loop-k.invariant).0

pub returns-clause-good : goal.returns-clause-good
returns-clause-good c = λ o. (come_all c.args.counts c.args.pkg.now.fallback c.loop-k.k c.loop-k.all.items (omega (arith, c.loop-k-test.false, ap length c.get-value-items.ensures)) c.loop-k.invariant).1

pub returns-clause-meaning : goal.returns-clause-meaning
returns-clause-meaning c = (come_all c.args.counts c.args.pkg.now.fallback c.loop-k.k c.loop-k.all.items (omega (arith, c.loop-k-test.false, ap length c.get-value-items.ensures)) c.loop-k.invariant).2
