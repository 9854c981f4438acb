-- The clauses of the top call, over the command that its words are.
use Rattle.std.specs.Prelude.{◌≡◌, ◌≢◌, ℕ, ◌⊎◌, ◌≤◌, List, length, Option, Some, Ok, IsSomeAnd}
use Rattle.std.specs.Io.KnownBytes.{Appends, Keeps}
use Rattle.vp_isa.specs.Answering.{machine_of}
use Rattle.vp_isa.specs.declared.code.Code.{Code}
use Rattle.vp_image.specs.Image.{image_read}
use Rattle.vp_outside.specs.Causes.{Rose}
use Rattle.vp_outside.specs.Content.{AppendsPart, Tells}
use Rattle.vp_outside.specs.Loading.{NamedFile, file_named}
use Rattle.vp_monitor.specs.Flowing.{IsExactFlow}
use Rattle.vp_runner.specs.Ends.{PrintsInTime, PrintsTaken}
use Rattle.vp_sandbox.specs.declared.sandbox.Sandbox.{Sandbox}
use Rattle.vp_stream.specs.Run.{run}
use Rattle.vp_synth.specs.Accepting.{Accepts}
use Rattle.vp_synth.specs.Stages.{Declared, Passes}
use Rattle.vp_terms.specs.declared.package.Package.{Package}
use Rattle.vp_terms.specs.Model.{Claim, IsInductive, model_of}
use Rattle.vp_terms.specs.Plant.{Flow}
use Rattle.vp_cmd.specs.declared.status.Status.{Status}
use Rattle.vp_cmd.specs.declared.status.Status.TheVariants.{Done, Usage, Refused, Violation, BadLine, BadImage, TooMuch, ReadFault, WriteFault, StoreFault, WantOfMemory}
use Rattle.vp_cmd.specs.Commands.{Command, Check, Compile, Demo, Exec, Run, first_file, second_file}
use Rattle.vp_cmd.specs.Dues.{image_limit, package_limit}
use Rattle.vp_cmd.specs.Images.{IsImageOf, IsSandboxFor, RunsAs}
use Rattle.vp_cmd.specs.Outcomes.{Outcome, status_of}
use Rattle.vp_cmd.specs.Tank.{tank}

-- ---- the outcome

-- the status and the bytes are those of something that is due, or memory ran out or a load failed and
-- nothing was written, or a write failed and a proper part was; what a read fault leaves is said apart
abbrev pub Fulfils : (Outcome → Type 0) → Status → Option (List ℕ) → Option (List ℕ) → Type 0
Fulfils IsOwed WantOfMemory before now = Keeps before now
Fulfils IsOwed StoreFault before now = Keeps before now
Fulfils IsOwed ReadFault before now = Unit {0}
Fulfils IsOwed WriteFault before now = (o : Outcome) × IsOwed o × AppendsPart before now o.text
Fulfils IsOwed result before now = (o : Outcome) × IsOwed o × (result ≡ o.status) × Appends before now o.text

-- the status and the bytes are those of something that is due, or memory ran out and nothing was written
abbrev pub Completes : (Outcome → Type 0) → Status → Option (List ℕ) → Option (List ℕ) → Type 0
Completes IsOwed result before now =
    ((result ≡ WantOfMemory) × Keeps before now) ⊎ ((o : Outcome) × IsOwed o × (result ≡ o.status) × Appends before now o.text)

-- ---- what `check` shows

-- the plant of the package has an exact flow, and with each such flow its invariant is inductive and its
-- model keeps its claim
pub record IsProved (pkg : Package) : Type 0 where
  pub flow : Flow
  pub exact : IsExactFlow pkg flow
  pub inductive : (f : Flow) → IsExactFlow pkg f → IsInductive (model_of f pkg)
  pub claim : (f : Flow) → IsExactFlow pkg f → Claim (model_of f pkg)

-- the file is there, and no longer than the limit of a package; and this is so of its text
abbrev pub HoldsText : Option (List NamedFile) → List ℕ → (List ℕ → Type 0) → Type 0
HoldsText files name Is =
    (fs : List NamedFile) × Tells files fs × IsSomeAnd (file_named name fs) (λ text. (length text ≤ package_limit) × Is text)

-- the text is accepted as a package that is proved
abbrev pub IsProvedText : List ℕ → Type 0
IsProvedText text = (pkg : Package) × Accepts text pkg × IsProved pkg

-- ---- what images are

-- these bytes were written, and they are the image of one checked code that runs as the sandbox of this
-- text does, which guards its package's model
abbrev pub WritesImage : Option (List ℕ) → Option (List ℕ) → List ℕ → Type 0
WritesImage before now text = (s : Sandbox) × IsSandboxFor text s × ((bytes : List ℕ) × IsImageOf text s bytes × Appends before now bytes)

-- what is shown by a command that is done: of `check` that the package is proved; of `compile` and `demo`
-- that an image of the package was written
abbrev pub Shows : Option (List NamedFile) → Option Command → Option (List ℕ) → Option (List ℕ) → Type 0
Shows files (Some (Check p)) before now = HoldsText files p IsProvedText
Shows files (Some (Compile p)) before now = HoldsText files p (WritesImage before now)
Shows files (Some Demo) before now = WritesImage before now tank
Shows files command before now = Unit {0}

-- ---- faults

-- an object's fault is answered only where its count rose; else the count is as it was
pub record IsCaused (fault result : Status) (before now : ℕ) : Type 0 where
  pub failed : result ≡ fault → Rose before now
  pub kept : result ≢ fault → now ≡ before

-- the file that the command loads first is there, and nothing refuses it
abbrev pub IsFirstTaken : Option (List NamedFile) → Option Command → Type 0
IsFirstTaken files command =
    (fs : List NamedFile) × Tells files fs × IsSomeAnd (first_file command) (λ first. IsSomeAnd (file_named first fs) (λ text.
    (length text ≤ package_limit) × ((pkg : Package) × Passes Declared text pkg)))

-- the name is that of the file that the command loads first, or of the one that it loads next, where the
-- first was taken
abbrev pub IsOwnName : Option (List NamedFile) → Option Command → List ℕ → Type 0
IsOwnName files command name =
    (first_file command ≡ Some name) ⊎ ((second_file command ≡ Some name) × IsFirstTaken files command)

-- no object's count rose
pub record NoFault (store_before store_now source_before source_now sink_before sink_now : ℕ) : Type 0 where
  pub store : ¬ Rose store_before store_now
  pub source : ¬ Rose source_before source_now
  pub sink : ¬ Rose sink_before sink_now

-- ---- what is left where a run was cut short

-- statuses under which the input was not looked at: the files could not be opened, or are refused
abbrev pub IsUnopened : Status → Type 0
IsUnopened Usage = Unit {0}
IsUnopened Refused = Unit {0}
IsUnopened BadImage = Unit {0}
IsUnopened StoreFault = Unit {0}
IsUnopened WantOfMemory = Unit {0}
IsUnopened result = ⊥

-- the code of the image in the named file, which isn't too long
pub record IsCodeOf (files : List NamedFile) (name : List ℕ) (code : Code) : Type 0 where
  pub bytes : List ℕ
  pub digest : List ℕ
  pub there : file_named name files ≡ Some bytes
  pub short : length bytes ≤ image_limit
  pub is_read : image_read bytes ≡ Ok (code, digest)

-- the command answers an input by this code: `exec` by that of the image in its file, `run` by one that
-- runs as the sandbox of the package in its file, which guards the package's model
abbrev pub RunsBy : Option (List NamedFile) → Option Command → Code → Type 0
RunsBy files (Some (Exec i)) code = (fs : List NamedFile) × Tells files fs × IsCodeOf fs i code
RunsBy files (Some (Run p)) code = HoldsText files p (λ text. (s : Sandbox) × IsSandboxFor text s × RunsAs code s)
RunsBy files command code = ⊥

-- a run over an input was begun, and no write failed
abbrev pub IsAnswered : Status → Type 0
IsAnswered Done = Unit {0}
IsAnswered Violation = Unit {0}
IsAnswered BadLine = Unit {0}
IsAnswered TooMuch = Unit {0}
IsAnswered result = ⊥

-- what was written is the text of the run over the input of a code by which the command answers, and the
-- status is its verdict
abbrev pub Answers : Option (List NamedFile) → Option Command → Status → Option (List ℕ) → Option (List ℕ) → Option (List ℕ) → Type 0
Answers files command result left before now =
    (code : Code) × RunsBy files command code × ((bytes : List ℕ) × Tells left bytes
    × (result ≡ status_of (run (machine_of code) bytes).verdict) × Appends before now (run (machine_of code) bytes).text)

-- the bytes that were taken have not ended the run, and what they give so far was written
abbrev pub LeavesTaken : Option (List NamedFile) → Option Command → Option (List ℕ) → Option (List ℕ) → Option (List ℕ) → Option (List ℕ) → Type 0
LeavesTaken files command left_before left_now before now =
    (code : Code) × RunsBy files command code × PrintsTaken (machine_of code) left_before left_now before now

-- what was written begins with what the bytes that were taken give so far, less the last 4,096 of them
abbrev pub LeavesInTime : Option (List NamedFile) → Option Command → Option (List ℕ) → Option (List ℕ) → Option (List ℕ) → Option (List ℕ) → Type 0
LeavesInTime files command left_before left_now before now =
    (code : Code) × RunsBy files command code × PrintsInTime (machine_of code) left_before left_now before now
