use Rattle.std.proofs.Common.{map, take}
use Rattle.vp_terms.specs.Places.{place_count}
use Rattle.vp_poly.specs.Places.{places_for}
use Rattle.vp_logic.specs.Sized.{EachIsSized}
use Rattle.vp_logic.specs.Tree.{tree}
use Rattle.vp_monitor.specs.Exchange.{actuating}
use Rattle.vp_monitor.specs.Obligations.{EachIsRenamed}
use Rattle.vp_monitor.proofs.parts.actuated.Given as goal

abbrev pub invariant-loop-conjunct : goal.invariant-loop-conjunct
invariant-loop-conjunct l = record {
  parts : EachIsRenamed (actuating (places_for l.fn.counts)) (map tree (take l.conjunct-index l.plant)) (map tree l.all.items);
  sized : EachIsSized (place_count (places_for l.fn.counts)) (map tree l.plant) → EachIsSized (place_count (places_for l.fn.counts)) (map tree l.all.items);
}
