-- What is due for a command: one relation, a line for each command.
use Rattle.std.specs.Prelude.{◌≡◌, ◌≢◌, ℕ, ◌⊎◌, nat_lt, List, length, Option, Some, Result, Ok, Err, IsSomeAnd, codes}
use Rattle.std.specs.Bool.{MatchBool}
use Rattle.vp_isa.specs.Answering.{machine_of}
use Rattle.vp_isa.specs.declared.code.Code.{Code}
use Rattle.vp_gen.specs.Compiled.{Refuses}
use Rattle.vp_gen.specs.declared.generate.GenErr.{GenErr}
use Rattle.vp_gen.specs.declared.generate.GenErr.TheVariants.{Memory}
use Rattle.vp_image.specs.declared.image.ImageErr.{ImageErr}
use Rattle.vp_image.specs.Image.{image_read}
use Rattle.vp_outside.specs.Content.{Tells}
use Rattle.vp_outside.specs.Loading.{NamedFile, file_named}
use Rattle.vp_read.specs.Reading.{IsPackage}
use Rattle.vp_monitor.specs.declared.types.Obligation.{Obligation}
use Rattle.vp_sandbox.specs.Answer.{sandbox_of}
use Rattle.vp_sandbox.specs.declared.sandbox.Sandbox.{Sandbox}
use Rattle.vp_stream.specs.Run.{run}
use Rattle.vp_synth.specs.Accepting.{AreMadeOf}
use Rattle.vp_synth.specs.Listing.{listing}
use Rattle.vp_synth.specs.Stages.{Stage, Certified, IsRefused, Passes, Split}
use Rattle.vp_synth.specs.declared.refusal.Refusal.{Refusal}
use Rattle.vp_synth.specs.declared.refusal.Refusal.TheVariants.{Read}
use Rattle.vp_terms.specs.declared.package.Package.{Package}
use Rattle.vp_cmd.specs.Tank.{tank}
use Rattle.vp_cmd.specs.Commands.{Command, Check, Compile, Exec, Run, Listing, Demo}
use Rattle.vp_cmd.specs.Images.{HasRoom, IsImageOf}
use Rattle.vp_cmd.specs.Outcomes.{Outcome, accepted, bad_image, done, image_text, read_text, refusal_text, refused, run_outcome, size_text, usage}

-- the most bytes that the file of a package has
abbrev pub package_limit : ℕ
package_limit = 1048576

-- the most bytes that the file of an image has
abbrev pub image_limit : ℕ
image_limit = 2097152

-- ---- the parts of which what is due is made

-- of a file that is there: the outcome where it is longer than its limit, and else what is due of its bytes
abbrev pub OfFile : List NamedFile → List ℕ → ℕ → Outcome → (List ℕ → Outcome → Type 0) → Outcome → Type 0
OfFile files name limit long IsOwed o =
    IsSomeAnd (file_named name files) (λ bytes. MatchBool (nat_lt limit (length bytes)) (o ≡ long) (IsOwed bytes o))

-- the line of a refusal: of the text alone, or over the names of the package that it is
abbrev pub IsRefusal : List ℕ → Refusal → Outcome → Type 0
IsRefusal text (Read e) o = o ≡ refused (read_text e)
IsRefusal text r o = (pkg : Package) × IsPackage text pkg × (o ≡ refused (refusal_text pkg.names r))

-- of a text: the line of its first refusal up to a stage, or what is due of the package that it is
abbrev pub OfText : Stage → (List ℕ → Package → Outcome → Type 0) → List ℕ → Outcome → Type 0
OfText stage IsOwed text o =
    ((r : Refusal) × IsRefused stage text r × IsRefusal text r o)
    ⊎ ((pkg : Package) × Passes stage text pkg × IsOwed text pkg o)

-- of the package in a file
abbrev pub OfPackage : List NamedFile → List ℕ → Stage → (List ℕ → Package → Outcome → Type 0) → Outcome → Type 0
OfPackage files name stage IsOwed o = OfFile files name package_limit (refused (codes "length")) (OfText stage IsOwed) o

-- of bytes: why they are no image, or what is due of the code that they are an image of
abbrev pub OfCode : (Code → Outcome → Type 0) → Result (Code × List ℕ) ImageErr → Outcome → Type 0
OfCode IsOwed (Err why) o = o ≡ bad_image (image_text why)
OfCode IsOwed (Ok found) o = IsOwed found.0 o

-- of the image in a file
abbrev pub OfImage : List NamedFile → List ℕ → (Code → Outcome → Type 0) → Outcome → Type 0
OfImage files name IsOwed o =
    OfFile files name image_limit (bad_image (codes "size")) (λ bytes o. OfCode IsOwed (image_read bytes) o) o

-- the line of the size of a sandbox that passes its limit
abbrev pub IsSizeRefusal : Sandbox → Outcome → Type 0
IsSizeRefusal s o = (e : GenErr) × (e ≢ Memory) × Refuses s e × (o ≡ refused (size_text e))

-- of a package: that line, or what is due of its sandbox
abbrev pub OfSandbox : (Sandbox → Outcome → Type 0) → Package → Outcome → Type 0
OfSandbox IsOwed pkg o =
    (os : List Obligation) × (s : Sandbox) × AreMadeOf pkg os s × (IsSizeRefusal s o ⊎ (HasRoom s × IsOwed s o))

-- ---- what is due of a text that is a package

abbrev pub IsAccepted : List ℕ → Package → Outcome → Type 0
IsAccepted text pkg o = o ≡ accepted

-- the listing, over the package's obligations and its sandbox
abbrev pub IsListed : List ℕ → Package → Outcome → Type 0
IsListed text pkg o =
    (os : List Obligation) × (s : Sandbox) × AreMadeOf pkg os s × (o ≡ done (listing pkg.names s os))

-- an image
abbrev pub IsCompiled : List ℕ → Package → Outcome → Type 0
IsCompiled text pkg o = OfSandbox (λ s o. (bytes : List ℕ) × IsImageOf text s bytes × (o ≡ done bytes)) pkg o

-- the run of its sandbox over the input
abbrev pub IsRun : List ℕ → List ℕ → Package → Outcome → Type 0
IsRun input text pkg o = OfSandbox (λ s o. o ≡ run_outcome (run (sandbox_of s) input)) pkg o

-- ---- what is due for each command

-- for files and an input: `check` says that the package is accepted, `compile` gives an image of it, `exec`
-- the run of an image's code over the input, `run` that of the package's sandbox, `list` the listing, for
-- which certificates aren't asked, and `demo` an image of the tank
abbrev pub IsDue : List NamedFile → List ℕ → Option Command → Outcome → Type 0
IsDue files input (Some (Check p)) o = OfPackage files p Certified IsAccepted o
IsDue files input (Some (Compile p)) o = OfPackage files p Certified IsCompiled o
IsDue files input (Some (Run p)) o = OfPackage files p Certified (IsRun input) o
IsDue files input (Some (Listing p)) o = OfPackage files p Split IsListed o
IsDue files input (Some Demo) o = OfText Certified IsCompiled tank o
IsDue files input (Some (Exec i)) o = OfImage files i (λ code o. o ≡ run_outcome (run (machine_of code) input)) o
IsDue files input command o = o ≡ usage

-- for some files and some input: those that the store and the source tell, where they do
abbrev pub IsOwed : Option (List NamedFile) → Option (List ℕ) → Option Command → Outcome → Type 0
IsOwed files input command o =
    (fs : List NamedFile) × (bytes : List ℕ) × Tells files fs × Tells input bytes × IsDue fs bytes command o
