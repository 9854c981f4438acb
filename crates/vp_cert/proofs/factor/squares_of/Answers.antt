use Rattle.std.proofs.Common.{refl, sym, ◌∙◌, ap, subst, List, ◌++◌, ◌∷◌, [], map, take, ◌+◌}
use Rattle.vp_terms.specs.declared.expr.Expr.{Expr}
use Rattle.vp_poly.specs.declared.scaled.Scaled.{Scaled}
use Rattle.vp_poly.specs.Canonical.{own_weight}
use Rattle.vp_poly.specs.Places.{places_for}
use Rattle.vp_poly.specs.Weights.{fits}
use Rattle.vp_cert.specs.Certificate.{expression_factor, squared}
use Rattle.vp_cert.specs.Factors.{AreTermFactors}
use Rattle.vp_cert.proofs.Combining.{fit_more, squares_more}
use Rattle.vp_cert.proofs.factor.squares_of.Goals as goal

pub loop-square-preserved : goal.loop-square-preserved
loop-square-preserved c = record {
  factors = subst (λ (l : List Scaled). AreTermFactors (squared (map (expression_factor (places_for c.args.counts)) (take (c.loop-square.square-index + 1) c.args.squares.now))) l)
      (sym (c.in_ok-push_factor-2.ensures ∙ ap (λ (l : List Scaled). l ++ c.in_ok-again.again ∷ []) c.in_ok-push_factor.ensures))
      (squares_more (places_for c.args.counts) c.args.squares.now c.loop-square.square-index c.square-item.result c.loop-square.all.items c.in_ok-once.once c.in_ok-again.again c.loop-square-test.true c.square-item.is c.loop-square.invariant.factors c.in_ok-once.ensures.factor c.in_ok-again.ensures.same);
  fit = fit_more (λ (e : Expr). fits (own_weight (places_for c.args.counts) e)) c.args.squares.now c.loop-square.square-index c.square-item.result c.loop-square-test.true c.square-item.is c.loop-square.invariant.fit (c.in_ok-once.ensures.within refl);
}
