use Rattle.std.proofs.Common.{ℕ, List, subst}
use Rattle.vp_poly.specs.declared.scaled.Scaled.{Scaled}
use Rattle.vp_flow.specs.Series.{flow_of}
use Rattle.vp_flow.specs.Sides.{AreHeights, model, polys, rates_of}
use Rattle.vp_flow.specs.Valued.{HasValue}
use Rattle.vp_monitor.proofs.laws.exact_flows_agree.Goals as goal

pub returns : goal.returns
returns c =
    λ pkg f g h k i l a.
    let w = c.points_have_assignments.ensures.some (model pkg) a in
    let e = c.sides_and_heights_are_unique.ensures.sides pkg h.sides k.sides h.right k.right in
    let r = subst (λ (qs : List Scaled). AreHeights (model pkg) (polys qs) h.heights) e h.are_heights in
    let there = subst (λ (n : ℕ). HasValue (flow_of (model pkg) (rates_of pkg) i n) w.0 (f i a)) (c.sides_and_heights_are_unique.ensures.heights (model pkg) (polys k.sides) h.heights k.heights r k.are_heights i l) (h.each i l w.0 a w.1) in
    c.values_are_unique.ensures.one (flow_of (model pkg) (rates_of pkg) i (k.heights i)) w.0 (f i a) (g i a) there (k.each i l w.0 a w.1)
