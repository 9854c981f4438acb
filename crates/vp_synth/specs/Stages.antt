-- How far a text is asked for what refuses it, and its first refusal.
use Rattle.std.specs.Prelude.{◌≢◌, ◌⊎◌, ℕ, List}
use Rattle.vp_terms.specs.declared.package.Package.{Package}
use Rattle.vp_flow.specs.Sides.{model}
use Rattle.vp_monitor.specs.Obligations.{RefusesCases}
use Rattle.vp_monitor.specs.Refusals.{Refuses as RefusesMonitors}
use Rattle.vp_monitor.specs.declared.error.MonErr.{MonErr}
use Rattle.vp_monitor.specs.declared.error.MonErr.TheVariants as monitor
use Rattle.vp_monitor.specs.declared.types.Monitors.{Monitors}
use Rattle.vp_read.specs.Reading.{IsPackage, Refuses as RefusesText}
use Rattle.vp_read.specs.declared.fault.ReadErr.TheVariants as read
use Rattle.vp_synth.specs.declared.refusal.Refusal.{Refusal}
use Rattle.vp_synth.specs.declared.refusal.Refusal.TheVariants.{Read, Monitor, Memory}
use Rattle.vp_synth.specs.Accepting.{Accepts, HasMonitors, IsPrepared}
use Rattle.vp_synth.specs.Certifying.{RefusesCerts, all_cases}

-- the conditions that are asked: those on the text alone, up to names that are not declared; those on
-- monitors and obligations too, up to the number of cases; and those on certificates too
pub data Stage : Type 0 where
  Declared : Stage
  Split : Stage
  Certified : Stage

-- the text is this package, and no condition up to the stage refuses it
abbrev pub Passes : Stage → List ℕ → Package → Type 0
Passes Declared text pkg = IsPackage text pkg
Passes Split text pkg = IsPrepared text pkg
Passes Certified text pkg = Accepts text pkg

-- ---- the first refusal of each kind

-- of the text
abbrev pub RefusesReading : List ℕ → Refusal → Type 0
RefusesReading text (Read e) = (e ≢ read.Memory) × RefusesText text e
RefusesReading text r = ⊥

-- of the monitors of a package, or of its obligations, where it has monitors
abbrev pub RefusesPackage : Package → MonErr → Type 0
RefusesPackage pkg e = RefusesMonitors pkg e ⊎ ((m : Monitors) × HasMonitors pkg m × RefusesCases pkg m e)

-- of the package that the text is
abbrev pub RefusesModel : List ℕ → Refusal → Type 0
RefusesModel text (Monitor e) =
    (e ≢ monitor.Memory) × (pkg : Package) × IsPackage text pkg × RefusesPackage pkg e
RefusesModel text r = ⊥

-- of its certificates, where nothing before them refuses it
abbrev pub RefusesCertified : List ℕ → Refusal → Type 0
RefusesCertified text r =
    (r ≢ Memory) × (pkg : Package) × (p : IsPrepared text pkg) × RefusesCerts (model pkg) (all_cases p.obligations) pkg.certs r

-- the refusal is the first up to the stage; want of memory is none
abbrev pub IsRefused : Stage → List ℕ → Refusal → Type 0
IsRefused Declared text r = RefusesReading text r
IsRefused Split text r = RefusesReading text r ⊎ RefusesModel text r
IsRefused Certified text r = RefusesReading text r ⊎ (RefusesModel text r ⊎ RefusesCertified text r)
