use Rattle.std.proofs.Common.{◌≡◌, ◌<◌, IsTrue, ℕ, List, length, slice_get, Some, ap, sym, subst, ◌∙◌, arith, get_or}
use Rattle.std.proofs.lemmas.Option.{slice_get-get_or}
use Rattle.vp_terms.specs.Places.{place_count}
use Rattle.vp_terms.specs.WellFormed.{in_model, is_good_expr}
use Rattle.vp_terms.specs.declared.expr.Expr.{Expr}
use Rattle.vp_terms.specs.declared.expr.Places.{Places}
use Rattle.vp_poly.specs.Places.{places_for}
use Rattle.vp_flow.specs.Sides.{model}
use Rattle.vp_monitor.specs.Refusals.{IsFallbackGood}
use Rattle.vp_monitor.proofs.Inductive.{good_at}
use Rattle.vp_monitor.proofs.Parting.{equations_more, sized_more}
use Rattle.vp_monitor.proofs.parts.equations.Goals as goal

-- the expression at an index below the end
pub found : (xs ys : List Expr) (i : ℕ) (e : Expr) → xs ≡ ys → i < length xs → e ≡ get_or xs i e → slice_get ys i ≡ Some e
found xs ys i e s l is = ap (λ (zs : List Expr). slice_get zs i) (sym s) ∙ slice_get-get_or xs i e l ∙ ap Some (sym is)

pub equation-requires-clause-good : goal.equation-requires-clause-good
equation-requires-clause-good c =
    subst (λ (p : Places). IsTrue (is_good_expr in_model p c.value-item.result)) (sym c.requires.places)
    (good_at (is_good_expr in_model (model c.args.pkg.now)) c.args.pkg.now.fallback c.loop-k.k c.value-item.result c.requires.good.fallback (found c.get-value-items.result.now c.args.pkg.now.fallback c.loop-k.k c.value-item.result c.get-value-items.ensures c.loop-k-test.true c.value-item.is))

pub equation-requires-clause-fits : goal.equation-requires-clause-fits
equation-requires-clause-fits c =
    let l : c.loop-k.k < length c.args.pkg.now.fallback = omega (arith, c.loop-k-test.true, ap length c.get-value-items.ensures) in
    let h = c.requires.passes.fallback c.loop-k.k c.value-item.result l (found c.get-value-items.result.now c.args.pkg.now.fallback c.loop-k.k c.value-item.result c.get-value-items.ensures c.loop-k-test.true c.value-item.is) in
    (subst (λ (p : Places). IsFallbackGood p c.loop-k.k c.value-item.result) (sym c.requires.places) h).fits

pub loop-k-preserved : goal.loop-k-preserved
loop-k-preserved c = record {
  are = equations_more (places_for c.args.counts) c.args.pkg.now.fallback c.loop-k.k c.value-item.result c.loop-k.all.items c.push.new.self.items c.in_ok-equation.equation (omega (arith, c.loop-k-test.true, ap length c.get-value-items.ensures)) (c.value-item.is ∙ ap (λ (xs : List Expr). get_or xs c.loop-k.k c.value-item.result) c.get-value-items.ensures) c.loop-k.invariant.are c.in_ok-equation.ensures.form c.in_ok-push.ensures.items;
  sized = sized_more (place_count (places_for c.args.counts)) c.loop-k.all.items c.push.new.self.items c.in_ok-equation.equation c.loop-k.invariant.sized c.in_ok-equation.ensures.sized c.in_ok-push.ensures.items;
}
