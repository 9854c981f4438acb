use Rattle.std.proofs.Common.{map, take}
use Rattle.vp_terms.specs.Places.{place_count}
use Rattle.vp_poly.specs.Places.{places_for}
use Rattle.vp_logic.specs.Sized.{EachIsSized}
use Rattle.vp_logic.specs.Tree.{tree}
use Rattle.vp_monitor.specs.Obligations.{AreEquations}
use Rattle.vp_monitor.proofs.parts.equations.Given as goal

abbrev pub invariant-loop-k : goal.invariant-loop-k
invariant-loop-k l = record {
  are : AreEquations (places_for l.counts) 0 (take l.k l.pkg.fallback) (map tree l.all.items);
  sized : EachIsSized (place_count (places_for l.counts)) (map tree l.all.items);
}
