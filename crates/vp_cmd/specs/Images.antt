-- The image of a package, and what its sandbox guards.
use Rattle.std.specs.Prelude.{◌≡◌, ◌≤◌, ℕ, List, length, Ok}
use Rattle.sha2.specs.Sha256.{sha256}
use Rattle.vp_words.specs.Exchanges.{Agree}
use Rattle.vp_words.specs.declared.record.Counts.{Counts}
use Rattle.vp_isa.specs.Answering.{machine_of}
use Rattle.vp_isa.specs.Valid.{IsValid}
use Rattle.vp_isa.specs.declared.code.Code.{Code}
use Rattle.vp_image.specs.Image.{image, image_read}
use Rattle.vp_history.specs.Allowed.{DeniesRightly, IsSafe}
use Rattle.vp_history.specs.History.{History, IsRepresented}
use Rattle.vp_history.specs.Reports.{ReportsRightly}
use Rattle.vp_history.specs.Rounds.{IsSampledRun}
use Rattle.vp_monitor.specs.Flowing.{IsExactFlow}
use Rattle.vp_monitor.specs.declared.types.Obligation.{Obligation}
use Rattle.vp_sandbox.specs.Answer.{sandbox_of}
use Rattle.vp_sandbox.specs.Sizes.{cell_bound, instruction_bound, saturated}
use Rattle.vp_sandbox.specs.declared.sandbox.Sandbox.{Sandbox}
use Rattle.vp_stream.specs.Answers.{answers_of}
use Rattle.vp_stream.specs.Run.{run}
use Rattle.vp_synth.specs.Accepting.{Accepts, AreMadeOf}
use Rattle.vp_terms.specs.Model.{model_of}
use Rattle.vp_terms.specs.Plant.{Flow}
use Rattle.vp_terms.specs.declared.package.Package.{Package}

-- the sandbox's sizes are within the limits of a code
pub record HasRoom (s : Sandbox) : Type 0 where
  pub instrs : saturated (instruction_bound s) ≤ 65536
  pub cells : saturated (cell_bound s) ≤ 8192

-- ---- images

-- the code runs as the sandbox does: it gives the same replies to each list of records that are due, so
-- over every input it has the same text and the same verdict
pub record RunsAs (code : Code) (s : Sandbox) : Type 0 where
  pub counts : code.counts ≡ s.counts
  pub agrees : Agree (machine_of code) (sandbox_of s)
  pub runs : (input : List ℕ) → run (machine_of code) input ≡ run (sandbox_of s) input

-- the bytes are the image of one checked code that runs as the sandbox does, with the digest of the
-- package's text; the bytes determine both
pub record IsImageOf (text : List ℕ) (s : Sandbox) (bytes : List ℕ) : Type 0 where
  pub code : Code
  pub checked : IsValid code
  pub runs_as : RunsAs code s
  pub is : bytes ≡ image code (sha256 text)
  pub read_back : image_read bytes ≡ Ok (code, sha256 text)

-- ---- what is guarded

-- what every run of the sandbox over every input keeps to, for a plant with this flow: each history of
-- rationals that the records answered before a violation represent is one that the model allows, and a
-- sampled run of it; and a violation with `false` denies each such history
pub record Guards (s : Sandbox) (pkg : Package) (flow : Flow) : Type 0 where
  pub safe : IsSafe s (model_of flow pkg)
  pub runs : (input : List ℕ) (h : History) → IsRepresented s.counts h (answers_of (sandbox_of s) input) →
      IsSampledRun (model_of flow pkg) s.counts h (answers_of (sandbox_of s) input)
  pub denies : DeniesRightly s (model_of flow pkg)

-- the plant has an exact flow; with each such flow the sandbox guards the model; and it reports no
-- monitor that is Yes
pub record IsGuarded (pkg : Package) (s : Sandbox) : Type 0 where
  pub flow : Flow
  pub exact : IsExactFlow pkg flow
  pub guards : (f : Flow) → IsExactFlow pkg f → Guards s pkg f
  pub right : ReportsRightly s

-- these are the numbers of the package's parameters, states and controls
pub record AreCountsOf (pkg : Package) (c : Counts) : Type 0 where
  pub params : c.params ≡ length pkg.names.params
  pub states : c.states ≡ length pkg.names.states
  pub controls : c.controls ≡ length pkg.names.controls

-- the text is accepted as a package that has this sandbox, whose sizes are within the limits and which
-- guards the package's model
pub record IsSandboxFor (text : List ℕ) (s : Sandbox) : Type 0 where
  pub pkg : Package
  pub obligations : List Obligation
  pub accepts : Accepts text pkg
  pub made : AreMadeOf pkg obligations s
  pub counts : AreCountsOf pkg s.counts
  pub room : HasRoom s
  pub guarded : IsGuarded pkg s
