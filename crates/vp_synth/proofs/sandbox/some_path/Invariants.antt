use Rattle.std.proofs.Common.{◌≡◌, map, take}
use Rattle.vp_logic.specs.Tree.{tree}
use Rattle.vp_monitor.specs.Obligations.{path_tree}
use Rattle.vp_synth.proofs.sandbox.some_path.Given as goal

abbrev pub invariant-loop-path : goal.invariant-loop-path
invariant-loop-path l = map tree l.forms.items ≡ map path_tree (take l.path-index l.paths)
