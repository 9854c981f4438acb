use Rattle.std.proofs.Common.{List, sym, subst}
use Rattle.vp_terms.specs.Places.{place_count}
use Rattle.vp_poly.specs.Places.{places_for}
use Rattle.vp_logic.specs.Sized.{IsSized}
use Rattle.vp_logic.specs.Tree.{Tree}
use Rattle.vp_ctrl.specs.declared.path.Path.{Path}
use Rattle.vp_ctrl.specs.Paths.{EachPathIsSized}
use Rattle.vp_monitor.proofs.Parting.{fallback_sized, joined_fallback}
use Rattle.vp_monitor.proofs.parts.fallback_parts.Goals as goal

pub returns-clause-sized : goal.returns-clause-sized
returns-clause-sized c =
    λ s.
    let n = place_count (places_for c.args.m.now.counts) in
    fallback_sized n c.in_ok-inv.inv c.in_ok-equations.equations.items c.in_ok-denials.denials.items c.append-2.new.self.items
    (joined_fallback c.in_ok-inv.inv c.in_ok-equations.equations.items c.in_ok-denials.denials.items c.new-parts.result.items c.push.new.self.items c.append.new.self.items c.append-2.new.self.items c.new-parts.ensures.items c.in_ok-push.ensures.items c.in_ok-append.ensures.items c.in_ok-append-2.ensures.items)
    (subst (λ (t : Tree). IsSized n t) (sym c.in_ok-inv.ensures) s.inv)
    c.in_ok-equations.ensures.sized
    (c.in_ok-denials.ensures.sized n (subst (λ (xs : List Path). EachPathIsSized n xs) (sym c.get.ensures) s.paths))
