-- The sandbox of a package.
use Rattle.std.specs.Prelude.{◌≡◌, map}
use Rattle.vp_logic.specs.Tree.{AnyOf, conjuncts_of, members, tree}
use Rattle.vp_monitor.specs.Obligations.{path_tree}
use Rattle.vp_monitor.specs.declared.types.Monitors.{Monitors}
use Rattle.vp_sandbox.specs.declared.sandbox.Sandbox.{Sandbox}

-- it has the conjuncts of the init monitor, the `Or` of the paths, the plant's conjuncts and the fallback's
-- polynomials, each in their order
pub record IsMadeOf (m : Monitors) (s : Sandbox) : Type 0 where
  pub counts : s.counts ≡ m.counts
  pub init : map tree s.init ≡ conjuncts_of (tree m.init)
  pub ctrl : tree s.ctrl ≡ AnyOf (members (map path_tree m.paths))
  pub plant : map tree s.plant ≡ map tree m.plant
  pub fallback : s.fallback ≡ m.fallback

-- two sandboxes that differ in the boxes of their forms alone
pub record SameParts (s t : Sandbox) : Type 0 where
  pub counts : s.counts ≡ t.counts
  pub init : map tree s.init ≡ map tree t.init
  pub ctrl : tree s.ctrl ≡ tree t.ctrl
  pub plant : map tree s.plant ≡ map tree t.plant
  pub fallback : s.fallback ≡ t.fallback
