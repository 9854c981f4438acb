use Rattle.std.proofs.Common.{◌≡◌, ℕ, map, take}
use Rattle.vp_logic.specs.Sized.{EachIsSized}
use Rattle.vp_logic.specs.Tree.{negated, tree}
use Rattle.vp_ctrl.specs.Paths.{EachPathIsSized}
use Rattle.vp_monitor.specs.Obligations.{path_tree}
use Rattle.vp_monitor.proofs.parts.denied_paths.Given as goal

abbrev pub invariant-loop-path : goal.invariant-loop-path
invariant-loop-path l = record {
  parts : map tree l.denials.items ≡ map (λ path. negated (path_tree path)) (take l.path-index l.paths);
  sized : (n : ℕ) → EachPathIsSized n l.paths → EachIsSized n (map tree l.denials.items);
}
