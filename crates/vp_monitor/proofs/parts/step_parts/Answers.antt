use Rattle.std.proofs.Common.{ℕ, List, map, sym, subst}
use Rattle.vp_terms.specs.Places.{place_count}
use Rattle.vp_poly.specs.Places.{places_for}
use Rattle.vp_logic.specs.declared.norm.Norm.{Norm}
use Rattle.vp_logic.specs.Renamed.{SendsBelow}
use Rattle.vp_logic.specs.Sized.{EachIsSized, IsSized}
use Rattle.vp_logic.specs.Tree.{Tree, tree}
use Rattle.vp_ctrl.specs.declared.path.Path.{Path}
use Rattle.vp_ctrl.specs.Paths.{EachPathIsSized}
use Rattle.vp_monitor.specs.Exchange.{primed, priming}
use Rattle.vp_monitor.proofs.Exchanging.{priming_sends}
use Rattle.vp_monitor.proofs.Parting.{joined_step, sends_below, step_sized}
use Rattle.vp_monitor.proofs.parts.step_parts.Goals as goal

pub returns-clause-sized : goal.returns-clause-sized
returns-clause-sized c =
    λ s.
    let p = places_for c.args.m.now.counts in
    let n = place_count p in
    let below = subst (λ (to : List ℕ). SendsBelow to n n) (sym c.priming.ensures.exact) (sends_below c.places_tell_variables.ensures.used c.places_tell_variables.ensures.in_range p (priming p) primed (priming_sends p c.requires.2)) in
    step_sized n c.in_ok-inv.inv c.in_ok-paths.paths c.in_ok-denied.denied c.in_ok-plant.plant.items c.push-3.new.self.items
    (joined_step c.in_ok-inv.inv c.in_ok-paths.paths c.in_ok-denied.denied c.in_ok-plant.plant.items c.new-parts.result.items c.push.new.self.items c.push-2.new.self.items c.append.new.self.items c.push-3.new.self.items c.new-parts.ensures.items c.in_ok-push.ensures.items c.in_ok-push-2.ensures.items c.in_ok-append.ensures.items c.in_ok-push-3.ensures.items)
    (subst (λ (t : Tree). IsSized n t) (sym c.in_ok-inv.ensures) s.inv)
    (c.in_ok-paths.ensures.sized n (subst (λ (xs : List Path). EachPathIsSized n xs) (sym c.get.ensures) s.paths))
    (c.in_ok-plant.ensures.sized (subst (λ (xs : List Norm). EachIsSized n (map tree xs)) (sym c.get-2.ensures) s.plant))
    (c.in_ok-denied.ensures.sized n (c.in_ok-next.ensures.sized n n s.inv below))
