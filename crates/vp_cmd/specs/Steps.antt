-- What private calls say to one another: files that were loaded, why a command halts, what was printed.
use Rattle.std.specs.Prelude.{◌≡◌, ℕ, ◌<◌, ◌≤◌, List, [], length, codes, Option, None, Some, Result, Err, false}
use Rattle.std.specs.Io.KnownBytes.{Appends}
use Rattle.vp_isa.specs.Answering.{machine_of}
use Rattle.vp_isa.specs.declared.code.Code.{Code}
use Rattle.vp_outside.specs.Causes.{Rose}
use Rattle.vp_outside.specs.Content.{AppendsPart, Tells}
use Rattle.vp_outside.specs.Loading.{NamedFile, file_named}
use Rattle.vp_runner.specs.declared.ends.RunEnd.{RunEnd}
use Rattle.vp_runner.specs.declared.ends.RunEnd.TheVariants as end
use Rattle.vp_stream.specs.Run.{run}
use Rattle.vp_cmd.specs.declared.status.Status.{Status}
use Rattle.vp_cmd.specs.declared.status.Status.TheVariants.{Done, Usage, Refused, Violation, BadLine, BadImage, TooMuch, ReadFault, WriteFault, StoreFault, WantOfMemory}
use Rattle.vp_cmd.specs.declared.opening.Halt.{Halt}
use Rattle.vp_cmd.specs.declared.opening.Halt.TheVariants as halt
use Rattle.vp_cmd.specs.declared.opening.Task.{Task}
use Rattle.vp_cmd.specs.declared.opening.Task.TheVariants as task
use Rattle.vp_cmd.specs.Clauses.{Fulfils, HoldsText, IsProvedText, RunsBy}
use Rattle.vp_cmd.specs.Commands.{Command, Check, Compile, Demo, reads_input}
use Rattle.vp_cmd.specs.Dues.{IsDue, OfFile, OfImage, OfPackage, OfSandbox, package_limit}
use Rattle.vp_cmd.specs.Images.{IsImageOf, IsSandboxFor}
use Rattle.vp_cmd.specs.Outcomes.{Outcome, done, refused, run_outcome}
use Rattle.vp_cmd.specs.Tank.{tank}
use Rattle.vp_sandbox.specs.declared.sandbox.Sandbox.{Sandbox}
use Rattle.vp_runner.specs.Sessions.{StandsFor}
use Rattle.vp_synth.specs.Stages.{Stage}
use Rattle.vp_synth.specs.declared.refusal.Refusal.{Refusal}
use Rattle.vp_synth.specs.declared.refusal.Refusal.TheVariants.{Read, Memory}
use Rattle.vp_read.specs.Reading.{IsPackage}
use Rattle.vp_terms.specs.declared.package.Package.{Package}

-- a text was printed under its status, or a proper part of it where a write failed
abbrev pub Prints : Outcome → Status → Option (List ℕ) → Option (List ℕ) → Type 0
Prints o WriteFault before now = AppendsPart before now o.text
Prints o result before now = (result ≡ o.status) × Appends before now o.text

-- this is said of some files: those that the store tells, where it does
abbrev pub OfStored : Option (List NamedFile) → (List NamedFile → Outcome → Type 0) → Outcome → Type 0
OfStored files IsOwed o = (fs : List NamedFile) × Tells files fs × IsOwed fs o

-- a file with the name is there, has these bytes, and is no longer than the limit
pub record IsStored (files : Option (List NamedFile)) (name : List ℕ) (limit : ℕ) (bytes : List ℕ) : Type 0 where
  pub all : List NamedFile
  pub told : Tells files all
  pub there : file_named name all ≡ Some bytes
  pub short : length bytes ≤ limit

-- a file with the name is there, and is longer than the limit
pub record IsTooLong (files : Option (List NamedFile)) (name : List ℕ) (limit : ℕ) : Type 0 where
  pub all : List NamedFile
  pub bytes : List ℕ
  pub told : Tells files all
  pub there : file_named name all ≡ Some bytes
  pub long : limit < length bytes

-- where a command halts with an outcome, it is one that is owed
abbrev pub Halts : (Outcome → Type 0) → Halt → Type 0
Halts IsOwed (halt.Due o) = IsOwed o
Halts IsOwed halt.StoreFault = Unit {0}
Halts IsOwed halt.WantOfMemory = Unit {0}

-- a store fault comes only where the store's count rose, and this name is then the one that failed last;
-- else the store's count and that name are as before
abbrev pub LoadCause : {T : Type 0} → Result T Halt → Option (List ℕ) → ℕ → ℕ → List ℕ → List ℕ → Type 0
LoadCause (Err halt.StoreFault) name before now failed_before failed_now = Rose before now × (name ≡ Some failed_now)
LoadCause result name before now failed_before failed_now = (now ≡ before) × (failed_now ≡ failed_before)

-- the outcome is an image of the package that the text is
abbrev pub ImageIs : List ℕ → Outcome → Type 0
ImageIs text o = (s : Sandbox) × IsSandboxFor text s × ((bytes : List ℕ) × IsImageOf text s bytes × (o ≡ done bytes))

-- what a command does once its files are open: prints the usage line, prints what is due for every
-- input, or answers the input by the code of its image
abbrev pub IsTask : Option (List NamedFile) → Option Command → Task → Type 0
IsTask files command task.Usage = command ≡ None
IsTask files command (task.Print o) = (reads_input command ≡ false) × OfStored files (λ fs o. (input : List ℕ) → IsDue fs input command o) o
IsTask files command (task.Stream s) = RunsBy files command s.code × StandsFor s.code [] s

-- what is due of a file, whatever is due of what it holds
abbrev pub ImageRefused : List ℕ → List NamedFile → Outcome → Type 0
ImageRefused name fs o = OfImage fs name (λ code o. ⊥) o

abbrev pub PackageRefused : Stage → (List ℕ → Package → Outcome → Type 0) → List ℕ → List NamedFile → Outcome → Type 0
PackageRefused stage IsOwed name fs o = OfPackage fs name stage IsOwed o

-- what refuses a text that is a package: nothing, or a size of its sandbox
abbrev pub IsUnrefused : List ℕ → Package → Outcome → Type 0
IsUnrefused text pkg o = ⊥

abbrev pub IsOversized : List ℕ → Package → Outcome → Type 0
IsOversized text pkg o = OfSandbox (λ s o. ⊥) pkg o

-- what is due of the file of a package that is too long
abbrev pub LongRefused : List ℕ → List NamedFile → Outcome → Type 0
LongRefused name fs o = OfFile fs name package_limit (refused (codes "length")) (λ text o. ⊥) o

-- the text is a package, unless the refusal is one of the text alone, or want of memory
abbrev pub IsNamed : List ℕ → Refusal → Type 0
IsNamed text (Read e) = Unit {0}
IsNamed text Memory = Unit {0}
IsNamed text r = (pkg : Package) × IsPackage text pkg

-- what a task shows that is printed
abbrev pub IsShown : Option (List NamedFile) → Option Command → Task → Type 0
IsShown files (Some (Check p)) task = HoldsText files p IsProvedText
IsShown files (Some (Compile p)) (task.Print o) = HoldsText files p (λ text. ImageIs text o)
IsShown files (Some Demo) (task.Print o) = ImageIs tank o
IsShown files command task = Unit {0}

-- the status under which a run over the input has ended
abbrev pub status_at : RunEnd → Status
status_at end.Done = Done
status_at end.Violated = Violation
status_at end.BadLine = BadLine
status_at end.ReadFault = ReadFault
status_at end.WriteFault = WriteFault
status_at end.TooMuch = TooMuch

-- a status under which a run over the input ends
abbrev pub IsStreamed : Status → Type 0
IsStreamed Usage = ⊥
IsStreamed Refused = ⊥
IsStreamed BadImage = ⊥
IsStreamed StoreFault = ⊥
IsStreamed WantOfMemory = ⊥
IsStreamed status = Unit {0}

-- a code was run over the input: that which the source told, where it did
abbrev pub RunsOver : Code → Status → Option (List ℕ) → Option (List ℕ) → Option (List ℕ) → Type 0
RunsOver code result left before now =
    (bytes : List ℕ) × Tells left bytes × Fulfils (λ o. o ≡ run_outcome (run (machine_of code) bytes)) result before now
