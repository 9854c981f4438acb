use Rattle.std.proofs.Common.{◌≡◌, ◌*◌, ◌-◌, ◌^◌, ◌≤◌, min, map, drop}
use Rattle.vp_logic.specs.Tree.{tree}
use Rattle.vp_logic.specs.Cases.{part_count}
use Rattle.vp_logic.proofs.splitting.count_of_parts.Given as goal

abbrev pub invariant-loop-part : goal.invariant-loop-part
invariant-loop-part l =
    (min (l.count * part_count (map tree (drop l.part-index l.parts))) (2 ^ 64 - 1) ≡ min (part_count (map tree l.parts)) (2 ^ 64 - 1)) × (l.count ≤ 2 ^ 64 - 1)
