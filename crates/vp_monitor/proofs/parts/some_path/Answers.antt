use Rattle.std.proofs.Common.{List, map, sym, subst, arith}
use Rattle.vp_logic.specs.Sized.{EachIsSized}
use Rattle.vp_logic.specs.Tree.{Tree, tree}
use Rattle.vp_monitor.specs.Obligations.{path_tree}
use Rattle.vp_monitor.proofs.Parting.{mapped_all, paths_sized}
use Rattle.vp_monitor.proofs.parts.some_path.Goals as goal

pub returns-clause-sized : goal.returns-clause-sized
returns-clause-sized c =
    λ n h.
    c.in_ok-some.ensures.sized n
    (subst (λ (ts : List Tree). EachIsSized n ts) (sym (mapped_all path_tree c.args.paths.now c.loop-path.path-index (map tree c.loop-path.forms.items) (omega (arith, c.loop-path-test.false)) c.loop-path.invariant)) (paths_sized n c.args.paths.now h))
