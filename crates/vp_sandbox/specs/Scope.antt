-- The parts of a sandbox, and the variables that may stand in each.
use Rattle.std.specs.Prelude.{ℕ, ◌<◌, ◌^◌, Bool, length, map}
use Rattle.vp_sandbox.specs.declared.fit.Part.{Part}
use Rattle.vp_sandbox.specs.declared.fit.Part.TheVariants.{Init, Ctrl, Plant}
use Rattle.vp_sandbox.specs.declared.fit.Scope.{Scope}
use Rattle.vp_words.specs.Record.{IsValid}
use Rattle.vp_logic.specs.Tree.{tree}
use Rattle.vp_sandbox.specs.declared.sandbox.Sandbox.{Sandbox}
use Rattle.vp_sandbox.specs.Fits.{EachFits, TreeFits, in_init, in_ctrl, in_plant}

-- the places of the variables that may stand in this part
abbrev pub allows : Scope → ℕ → Bool
allows s k = by_part s.part
  where
    by_part : Part → Bool
    by_part Init = in_init s.counts k
    by_part Ctrl = in_ctrl s.counts k
    by_part Plant = in_plant s.counts k

-- the counts are valid, and the three monitors fit
pub record MonitorsFit (s : Sandbox) : Type 0 where
  pub counts : IsValid s.counts
  pub init : (length s.init < 2 ^ 32) × EachFits (in_init s.counts) (map tree s.init)
  pub ctrl : TreeFits (in_ctrl s.counts) (tree s.ctrl)
  pub plant : (length s.plant < 2 ^ 32) × EachFits (in_plant s.counts) (map tree s.plant)
