use Rattle.std.proofs.Common.{◌≡◌, map, take}
use Rattle.vp_logic.specs.Tree.{tree}
use Rattle.vp_synth.proofs.sandbox.path_form.Given as goal

abbrev pub invariant-loop-part : goal.invariant-loop-part
invariant-loop-part l = map tree l.parts.items ≡ map tree (take l.part-index l.part-items)
