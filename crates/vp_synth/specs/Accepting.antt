-- Which texts are accepted as which packages.
use Rattle.std.specs.Prelude.{ℕ, List, All}
use Rattle.vp_terms.specs.declared.package.Package.{Package}
use Rattle.vp_flow.specs.Sides.{model}
use Rattle.vp_monitor.specs.Monitors.{AreMonitors}
use Rattle.vp_monitor.specs.Obligations.{AreObligations, HasFewCases}
use Rattle.vp_monitor.specs.Refusals.{Passes}
use Rattle.vp_monitor.specs.declared.types.Monitors.{Monitors}
use Rattle.vp_monitor.specs.declared.types.Obligation.{Obligation}
use Rattle.vp_read.specs.Reading.{IsPackage}
use Rattle.vp_sandbox.specs.declared.sandbox.Sandbox.{Sandbox}
use Rattle.vp_synth.specs.Certifying.{Certifies, all_cases}
use Rattle.vp_synth.specs.Sandboxes.{IsMadeOf}

-- nothing refuses the monitors of a package, and these are they
pub record HasMonitors (pkg : Package) (m : Monitors) : Type 0 where
  pub passes : Passes pkg
  pub are : AreMonitors pkg m

-- nothing refuses its obligations, and these are they
pub record HasObligations (pkg : Package) (os : List Obligation) : Type 0 where
  pub monitors : Monitors
  pub has : HasMonitors pkg monitors
  pub are : AreObligations pkg monitors os
  pub few : All HasFewCases os

-- the text is the package, and nothing refuses it up to the number of cases
pub record IsPrepared (text : List ℕ) (pkg : Package) : Type 0 where
  pub is : IsPackage text pkg
  pub obligations : List Obligation
  pub has : HasObligations pkg obligations

-- and its certificates stand one for one with the cases and refute them
pub record Accepts (text : List ℕ) (pkg : Package) : Type 0 where
  pub prepared : IsPrepared text pkg
  pub certified : Certifies (model pkg) (all_cases prepared.obligations) pkg.certs

-- these obligations and this sandbox are those of the package
pub record AreMadeOf (pkg : Package) (os : List Obligation) (s : Sandbox) : Type 0 where
  pub has : HasObligations pkg os
  pub made : IsMadeOf has.monitors s
