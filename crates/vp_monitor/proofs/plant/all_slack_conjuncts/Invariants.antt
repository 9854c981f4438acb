use Rattle.std.proofs.Common.{map}
use Rattle.vp_poly.specs.Places.{places_for}
use Rattle.vp_logic.specs.Tree.{tree}
use Rattle.vp_monitor.proofs.Slacks.{HaveSlack}
use Rattle.vp_monitor.proofs.plant.all_slack_conjuncts.Given as goal

abbrev pub invariant-loop-i : goal.invariant-loop-i
invariant-loop-i l = HaveSlack (places_for l.counts) l.flowing l.plant.slack l.i (map tree l.all.items)
