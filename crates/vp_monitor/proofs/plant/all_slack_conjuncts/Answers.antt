use Rattle.std.proofs.Common.{List, IsTrue, Err, Some, length, map, get_or, ap, sym, subst, ◌∙◌, arith, refl}
use Rattle.std.proofs.lemmas.List.{take_all}
use Rattle.std.proofs.lemmas.Option.{slice_get-get_or}
use Rattle.std.specs.Prelude.{◌↔◌}
use Rattle.vp_terms.specs.WellFormed.{is_good_slack}
use Rattle.vp_terms.specs.declared.package.Slack.{Slack}
use Rattle.vp_poly.specs.Places.{places_for}
use Rattle.vp_logic.specs.Tree.{tree}
use Rattle.vp_logic.specs.Truth.{parts_hold}
use Rattle.vp_monitor.specs.Plant.{AreAllSlackConjuncts}
use Rattle.vp_monitor.specs.Slack.{TellsSlack}
use Rattle.vp_monitor.specs.Standing.{AreWithinSlack}
use Rattle.vp_monitor.proofs.Inductive.{good_at}
use Rattle.vp_monitor.proofs.Slacks.{slack_more, slack_none, tells_slack}
use Rattle.vp_monitor.proofs.plant.all_slack_conjuncts.Goals as goal

pub slack_conjuncts-requires-clause-good : goal.slack_conjuncts-requires-clause-good
slack_conjuncts-requires-clause-good c = good_at (is_good_slack (places_for c.args.counts)) c.args.plant.now.slack c.loop-i.i c.slack-item.result c.requires.good.slack (slice_get-get_or c.args.plant.now.slack c.loop-i.i c.slack-item.result (omega (arith, c.loop-i-test.true, ap length c.get-slack-items.ensures)) ∙ ap Some (sym (c.slack-item.is ∙ ap (λ (xs : List Slack). get_or xs c.loop-i.i c.slack-item.result) c.get-slack-items.ensures)))

pub slack_conjuncts-requires-clause-state : goal.slack_conjuncts-requires-clause-state
slack_conjuncts-requires-clause-state c = omega (arith, c.loop-i-test.true, ap length c.get-slack-items.ensures, c.requires.good.slack_count)

pub loop-i-init : goal.loop-i-init
loop-i-init c = slack_none (places_for c.args.counts) c.args.flowing.now c.args.plant.now.slack c.new-all.result.items c.new-all.ensures.items

pub loop-i-preserved : goal.loop-i-preserved
loop-i-preserved c =
    slack_more (places_for c.args.counts) c.args.flowing.now c.args.plant.now.slack c.loop-i.i c.slack-item.result c.loop-i.all.items c.in-Ok.parts.items c.append.new.self.items (omega (arith, c.loop-i-test.true, ap length c.get-slack-items.ensures)) (c.slack-item.is ∙ ap (λ (xs : List Slack). get_or xs c.loop-i.i c.slack-item.result) c.get-slack-items.ensures) c.loop-i.invariant c.in_ok-append.ensures.items
    c.in-Ok.ensures.exact (λ f w h. c.in-Ok.ensures.fits f w h refl) c.in-Ok.ensures.meaning c.in-Ok.ensures.sized c.in-Ok.ensures.only

pub returns-in-Err-clause-refused : goal.returns-in-Err-clause-refused
returns-in-Err-clause-refused c =
    λ f w h.
    subst (TellsSlack (places_for c.args.counts) w c.args.plant.now.slack) (sym c.at.ensures)
    (tells_slack (places_for c.args.counts) w c.args.plant.now.slack c.loop-i.i c.in-Err.error
    (λ e. (c.slack-item.result, (slice_get-get_or c.args.plant.now.slack c.loop-i.i c.slack-item.result (omega (arith, c.loop-i-test.true, ap length c.get-slack-items.ensures)) ∙ ap Some (sym (c.slack-item.is ∙ ap (λ (xs : List Slack). get_or xs c.loop-i.i c.slack-item.result) c.get-slack-items.ensures))), c.slack_conjuncts.ensures.wide f w h (c.in-Err.is ∙ ap Err e), c.loop-i.invariant.fits f w h)))

pub returns-clause-exact : goal.returns-clause-exact
returns-clause-exact c =
    λ f w h.
    subst (λ (ss : List Slack). AreAllSlackConjuncts (places_for c.args.counts) f w 0 ss (map tree c.loop-i.all.items)) (take_all c.loop-i.i c.args.plant.now.slack (omega (arith, c.loop-i-test.false, ap length c.get-slack-items.ensures))) (c.loop-i.invariant.exact f w h)

pub returns-clause-fits : goal.returns-clause-fits
returns-clause-fits c = λ f w h o i s l g. c.loop-i.invariant.fits f w h i s (omega (arith, c.loop-i-test.false, ap length c.get-slack-items.ensures)) g

pub returns-clause-meaning : goal.returns-clause-meaning
returns-clause-meaning c =
    λ z a x at st.
    subst (λ (ss : List Slack). IsTrue (parts_hold (map tree c.loop-i.all.items) z) ↔ AreWithinSlack a x 0 ss) (take_all c.loop-i.i c.args.plant.now.slack (omega (arith, c.loop-i-test.false, ap length c.get-slack-items.ensures))) (c.loop-i.invariant.meaning z a x at st)

pub returns-clause-sized : goal.returns-clause-sized
returns-clause-sized c = c.loop-i.invariant.sized

pub returns-clause-only : goal.returns-clause-only
returns-clause-only c = c.loop-i.invariant.only
