-- What is due of a file that holds an image which was written for a package, and of one that holds a text which
-- is accepted.
use Rattle.std.proofs.Common.{◌≡◌, ◌⊎◌, inl, inr, ℕ, ◌+◌, ◌*◌, ◌≤◌, nat_lt, Bool, false, List, [], ◌∷◌, ◌++◌, length, Option, Some, Result, Ok, refl, sym, ap, subst, ◌∙◌, arith}
use Rattle.std.specs.Prelude.{IsSomeAnd, codes}
use Rattle.std.specs.Bool.{MatchBool}
use Rattle.std.specs.List.{flat_map}
use Rattle.std.proofs.lemmas.Bool.{le-ltb}
use Rattle.std.proofs.lemmas.List.{length-append}
use Rattle.sha2.specs.Sha256.{sha256}
use Rattle.sha2.proofs.Facts256.{length-sha256}
use Rattle.vp_isa.specs.Answering.{machine_of}
use Rattle.vp_isa.specs.Encoding.{encoded}
use Rattle.vp_isa.specs.Valid.{IsValid}
use Rattle.vp_isa.specs.declared.code.Code.{Code}
use Rattle.vp_isa.specs.declared.instr.Instr.{Instr}
use Rattle.vp_image.specs.declared.image.ImageErr.{ImageErr}
use Rattle.vp_image.specs.Image.{body, image, image_length, image_read}
use Rattle.vp_outside.specs.Loading.{NamedFile, file_named}
use Rattle.vp_monitor.specs.declared.types.Obligation.{Obligation}
use Rattle.vp_sandbox.specs.Answer.{sandbox_of}
use Rattle.vp_sandbox.specs.declared.sandbox.Sandbox.{Sandbox}
use Rattle.vp_stream.specs.Run.{run}
use Rattle.vp_synth.specs.Accepting.{Accepts, AreMadeOf}
use Rattle.vp_synth.specs.Sandboxes.{SameParts}
use Rattle.vp_synth.specs.Stages.{Certified}
use Rattle.vp_terms.specs.declared.package.Package.{Package}
use Rattle.vp_cmd.specs.declared.status.Status.{Status}
use Rattle.vp_cmd.specs.declared.status.Status.TheVariants.{Done}
use Rattle.vp_cmd.specs.Commands.{Check, Compile, Exec, Run}
use Rattle.vp_cmd.specs.Dues.{IsAccepted, IsCompiled, IsDue, IsRun, IsSizeRefusal, OfCode, OfText, image_limit, package_limit}
use Rattle.vp_cmd.specs.Images.{HasRoom, IsImageOf}
use Rattle.vp_cmd.specs.Outcomes.{Outcome, accepted, bad_image, done, refused, run_outcome}
use Rattle.vp_cmd.proofs.OneDue.{AgreeWhereSame, HasOneSandbox, IsNotRefused, no_room, one_run, same_backwards}

-- ---- images

abbrev pub AreTwelveBytes : Type 0
AreTwelveBytes = (i : Instr) → length (encoded i) ≡ 12

instrs_length : AreTwelveBytes → (instrs : List Instr) → length (flat_map encoded instrs) ≡ 12 * length instrs
instrs_length law [] = refl
instrs_length law (i ∷ is) = omega (arith, length-append (encoded i) (flat_map encoded is), law i, instrs_length law is)

body_size : AreTwelveBytes → (code : Code) (digest : List ℕ) → length digest ≡ 32 → length (body code digest) ≡ 19 + 12 * length code.instrs + 32
body_size law code digest h = omega (arith, h, instrs_length law code.instrs, length-append (flat_map encoded code.instrs) digest)

-- the image of checked code is no longer than the limit of images
image_fits : AreTwelveBytes → (code : Code) (digest : List ℕ) → IsValid code → length digest ≡ 32 → length (image code digest) ≤ image_limit
image_fits law code digest valid h =
    omega (arith, valid.short, body_size law code digest h, length-append (body code digest) (sha256 (body code digest)), length-sha256 (body code digest))

-- what is due of a file that is there, and within its limit, is what is due of its bytes
file_opened : (name bytes : List ℕ) (files : List NamedFile) (limit : ℕ) (long o : Outcome) (P : List ℕ → Outcome → Type 0) → file_named name files ≡ Some bytes → length bytes ≤ limit
    → IsSomeAnd (file_named name files) (λ bytes. MatchBool (nat_lt limit (length bytes)) (o ≡ long) (P bytes o)) → P bytes o
file_opened name bytes files limit long o P there short h =
    let k = subst (λ (found : Option (List ℕ)). IsSomeAnd found (λ bytes. MatchBool (nat_lt limit (length bytes)) (o ≡ long) (P bytes o))) there h in
    subst (λ (b : Bool). MatchBool b (o ≡ long) (P bytes o)) (le-ltb limit (length bytes) short) k

pub written_runs : AreTwelveBytes → (files : List NamedFile) (input name text bytes : List ℕ) (s : Sandbox) (o : Outcome) → IsImageOf text s bytes → file_named name files ≡ Some bytes
    → IsDue files input (Some (Exec name)) o → o ≡ run_outcome (run (sandbox_of s) input)
written_runs law files input name text bytes s o is there h =
    let P : Code → Outcome → Type 0 = λ code o. o ≡ run_outcome (run (machine_of code) input) in
    let short : length bytes ≤ image_limit = subst (λ (b : List ℕ). length b ≤ image_limit) (sym is.is) (image_fits law is.code (sha256 text) is.checked (length-sha256 text)) in
    let k : OfCode P (image_read bytes) o = file_opened name bytes files image_limit (bad_image (codes "size")) o (λ bytes o. OfCode P (image_read bytes) o) there short h in
    let r : o ≡ run_outcome (run (machine_of is.code) input) = subst (λ (read : Result (Code × List ℕ) ImageErr). OfCode P read o) is.read_back k in
    r ∙ ap run_outcome (is.runs_as.runs input)

-- ---- packages

-- of an accepted text what is due of it as a package is
accepted_owed : IsNotRefused → (text : List ℕ) (pkg : Package) (o : Outcome) (P : List ℕ → Package → Outcome → Type 0) → Accepts text pkg → OfText Certified P text o → (p : Package) × Accepts text p × P text p o
accepted_owed apart text pkg o P is (inl h) = absurd (apart Certified text pkg h.0 is h.1)
accepted_owed apart text pkg o P is (inr h) = h

pub accepted_checks : IsNotRefused → (files : List NamedFile) (input name text : List ℕ) (pkg : Package) (o : Outcome) → file_named name files ≡ Some text → length text ≤ package_limit → Accepts text pkg
    → IsDue files input (Some (Check name)) o → o ≡ accepted
accepted_checks apart files input name text pkg o there short is h =
    (accepted_owed apart text pkg o IsAccepted is (file_opened name text files package_limit (refused (codes "length")) o (OfText Certified IsAccepted) there short h)).2

-- a sandbox with room is not refused for its size
sandbox_owed : (s t : Sandbox) (o : Outcome) (P : Sandbox → Outcome → Type 0) → SameParts s t → HasRoom s → IsSizeRefusal t o ⊎ (HasRoom t × P t o) → P t o
sandbox_owed s t o P same room (inl e) = absurd (no_room t s o (same_backwards s t same) e room)
sandbox_owed s t o P same room (inr h) = h.1

pub accepted_compiles : IsNotRefused → HasOneSandbox → (files : List NamedFile) (input name text : List ℕ) (pkg : Package) (os : List Obligation) (s : Sandbox) (o : Outcome)
    → file_named name files ≡ Some text → length text ≤ package_limit → Accepts text pkg → AreMadeOf pkg os s → HasRoom s → IsDue files input (Some (Compile name)) o → o.status ≡ Done
accepted_compiles apart one files input name text pkg os s o there short is made room h =
    let k = accepted_owed apart text pkg o IsCompiled is (file_opened name text files package_limit (refused (codes "length")) o (OfText Certified IsCompiled) there short h) in
    let made_of = k.2 in
    let same : SameParts s made_of.1 = one text pkg k.0 os made_of.0 s made_of.1 is.prepared.is k.1.prepared.is made made_of.2 in
    let i = sandbox_owed s made_of.1 o (λ s o. (bytes : List ℕ) × IsImageOf text s bytes × (o ≡ done bytes)) same room made_of.3 in
    ap (λ (x : Outcome). x.status) i.2

pub accepted_runs : IsNotRefused → HasOneSandbox → AgreeWhereSame → (files : List NamedFile) (input name text : List ℕ) (pkg : Package) (os : List Obligation) (s : Sandbox) (o : Outcome)
    → file_named name files ≡ Some text → length text ≤ package_limit → Accepts text pkg → AreMadeOf pkg os s → HasRoom s → IsDue files input (Some (Run name)) o → o ≡ run_outcome (run (sandbox_of s) input)
accepted_runs apart one agree files input name text pkg os s o there short is made room h =
    let k = accepted_owed apart text pkg o (IsRun input) is (file_opened name text files package_limit (refused (codes "length")) o (OfText Certified (IsRun input)) there short h) in
    let made_of = k.2 in
    let same : SameParts s made_of.1 = one text pkg k.0 os made_of.0 s made_of.1 is.prepared.is k.1.prepared.is made made_of.2 in
    let i = sandbox_owed s made_of.1 o (λ s o. o ≡ run_outcome (run (sandbox_of s) input)) same room made_of.3 in
    sym (one_run agree input s made_of.1 (run_outcome (run (sandbox_of s) input)) o same refl i)
