use Rattle.std.proofs.Common.{ℕ, List, sym, subst}
use Rattle.vp_terms.specs.Places.{place_count}
use Rattle.vp_poly.specs.Places.{places_for}
use Rattle.vp_logic.specs.Renamed.{IsRenamed, SendsBelow}
use Rattle.vp_logic.specs.Tree.{tree}
use Rattle.vp_monitor.specs.Exchange.{actuated, actuating}
use Rattle.vp_monitor.proofs.Exchanging.{actuating_sends}
use Rattle.vp_monitor.proofs.Parting.{renamed_more, sends_below, sized_at, sized_more}
use Rattle.vp_monitor.proofs.parts.actuated.Goals as goal

pub loop-conjunct-preserved : goal.loop-conjunct-preserved
loop-conjunct-preserved c =
    let p = places_for c.args.counts in
    let n = place_count p in
    let below = subst (λ (to : List ℕ). SendsBelow to n n) (sym c.actuating-to.ensures.exact) (sends_below c.places_tell_variables.ensures.used c.places_tell_variables.ensures.in_range p (actuating p) actuated (actuating_sends p c.requires.2)) in
    record {
      parts = renamed_more (actuating p) c.args.plant.now c.loop-conjunct.conjunct-index c.conjunct-item.result c.loop-conjunct.all.items c.push.new.self.items c.in_ok-renamed.renamed c.loop-conjunct-test.true c.conjunct-item.is c.loop-conjunct.invariant.parts
          (subst (λ (to : List ℕ). IsRenamed to (tree c.conjunct-item.result) (tree c.in_ok-renamed.renamed)) c.actuating-to.ensures.exact c.in_ok-renamed.ensures.form) c.in_ok-push.ensures.items;
      sized = λ h. sized_more n c.loop-conjunct.all.items c.push.new.self.items c.in_ok-renamed.renamed (c.loop-conjunct.invariant.sized h) (c.in_ok-renamed.ensures.sized n n (sized_at n c.args.plant.now c.loop-conjunct.conjunct-index c.conjunct-item.result c.loop-conjunct-test.true c.conjunct-item.is h) below) c.in_ok-push.ensures.items;
    }
