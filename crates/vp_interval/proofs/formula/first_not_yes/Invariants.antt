use Rattle.std.proofs.Common.{◌≡◌, ◌+◌, drop, map}
use Rattle.vp_logic.specs.Tree.{tree}
use Rattle.vp_interval.specs.Formula.{truths, first_from}
use Rattle.vp_interval.specs.Interval.{ends}
use Rattle.vp_interval.proofs.formula.first_not_yes.Given as goal

abbrev pub invariant-loop-index : goal.invariant-loop-index
invariant-loop-index l =
    first_from (l.index + 1) (truths (map ends l.boxes) (drop l.index (map tree l.parts)))
    ≡ first_from 1 (truths (map ends l.boxes) (map tree l.parts))
