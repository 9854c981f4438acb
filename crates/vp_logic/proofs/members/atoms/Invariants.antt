use Rattle.std.proofs.Common.{◌≡◌, ◌++◌, map, drop}
use Rattle.vp_logic.specs.Tree.{tree, all_atoms}
use Rattle.vp_logic.proofs.members.atoms.Given as goal

abbrev pub invariant-loop-part : goal.invariant-loop-part
invariant-loop-part l = l.atoms.items ++ all_atoms (map tree (drop l.part-index l.parts)) ≡ all_atoms (map tree l.parts)
