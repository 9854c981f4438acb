-- Monitors and obligations that differ in the boxes of their forms alone.
use Rattle.std.specs.Prelude.{◌≡◌, ⊤, List, [], ◌∷◌, map}
use Rattle.vp_logic.specs.Cases.{lists}
use Rattle.vp_logic.specs.Tree.{tree}
use Rattle.vp_ctrl.specs.Paths.{parts_of}
use Rattle.vp_monitor.specs.declared.types.Monitors.{Monitors}
use Rattle.vp_monitor.specs.declared.types.Obligation.{Obligation}

-- the same forms, paths and polynomials
pub record SameMonitors (m n : Monitors) : Type 0 where
  pub counts : m.counts ≡ n.counts
  pub init : tree m.init ≡ tree n.init
  pub inv : tree m.inv ≡ tree n.inv
  pub safe : tree m.safe ≡ tree n.safe
  pub paths : map parts_of m.paths ≡ map parts_of n.paths
  pub plant : map tree m.plant ≡ map tree n.plant
  pub fallback : m.fallback ≡ n.fallback

-- the same part, atoms and cases
pub record SameObligation (o r : Obligation) : Type 0 where
  pub part : o.part ≡ r.part
  pub atoms : o.atoms ≡ r.atoms
  pub cases : lists o.cases ≡ lists r.cases

-- and so each of these
abbrev pub SameObligations : List Obligation → List Obligation → Type 0
SameObligations [] [] = ⊤
SameObligations [] (r ∷ rs) = ⊥
SameObligations (o ∷ os) [] = ⊥
SameObligations (o ∷ os) (r ∷ rs) = SameObligation o r × SameObligations os rs
