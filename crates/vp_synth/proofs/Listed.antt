-- The controller of a package's sandbox is listed path by path.
use Rattle.std.proofs.Common.{◌≡◌, List, [], ◌∷◌, map, refl, ap, ◌∙◌}
use Rattle.vp_logic.specs.Tree.{Tree, members, tree}
use Rattle.vp_monitor.specs.Obligations.{path_tree}
use Rattle.vp_monitor.specs.declared.types.Monitors.{Monitors}
use Rattle.vp_sandbox.specs.declared.sandbox.Sandbox.{Sandbox}
use Rattle.vp_synth.specs.Listing.{disjuncts_of, each_member}
use Rattle.vp_synth.specs.Sandboxes.{IsMadeOf}

each : (ts : List Tree) → each_member (members ts) ≡ ts
each [] = refl
each (t ∷ ts) = ap (λ (l : List Tree). t ∷ l) (each ts)

pub paths_are : (m : Monitors) (s : Sandbox) → IsMadeOf m s → disjuncts_of (tree s.ctrl) ≡ map path_tree m.paths
paths_are m s h = ap disjuncts_of h.ctrl ∙ each (map path_tree m.paths)
