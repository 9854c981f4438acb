-- What is due once a file was loaded, or could not be.
use Rattle.std.proofs.Common.{◌≡◌, ◌≢◌, ◌⊎◌, inl, inr, ℕ, suc, ◌<◌, ◌≤◌, nat_lt, Bool, true, false, List, [], ◌∷◌, length, Option, None, Some, Result, Ok, Err, refl, sym, ap, subst, ◌∙◌, arith}
use Rattle.std.specs.Prelude.{IfErr, IsSomeAnd, IfSome, replicate, bytes_eq, codes}
use Rattle.std.specs.Bool.{MatchBool}
use Rattle.std.proofs.lemmas.Bool.{lt-ltb, le-ltb}
use Rattle.std.proofs.lemmas.List.{length-replicate}
use Rattle.std.proofs.lemmas.Slice.Eq.{bytes_eq-Decides}
use Rattle.sha2.specs.Sha256.{sha256}
use Rattle.vp_isa.specs.Answering.{machine_of}
use Rattle.vp_isa.specs.declared.code.Code.{Code}
use Rattle.vp_image.specs.declared.image.ImageErr.{ImageErr}
use Rattle.vp_image.specs.declared.image.ImageErr.TheVariants as image
use Rattle.vp_image.specs.Image.{Gives, image_read}
use Rattle.vp_outside.specs.Content.{Tells}
use Rattle.vp_outside.specs.Loading.{NamedFile, file_named, Loads}
use Rattle.vp_outside.specs.declared.store.Loaded.TheVariants.{Whole, TooLong}
use Rattle.vp_monitor.specs.declared.types.Obligation.{Obligation}
use Rattle.vp_sandbox.specs.Answer.{sandbox_of}
use Rattle.vp_sandbox.specs.declared.sandbox.Sandbox.{Sandbox}
use Rattle.vp_stream.specs.Run.{run}
use Rattle.vp_synth.specs.Accepting.{AreMadeOf}
use Rattle.vp_synth.specs.Stages.{Stage, Declared, Split, Certified, IsRefused, Passes, RefusesCertified, RefusesModel, RefusesReading}
use Rattle.vp_synth.specs.declared.refusal.Refusal.{Refusal}
use Rattle.vp_synth.specs.declared.refusal.Refusal.TheVariants.{Read, Monitor, Cert, Extra, Memory}
use Rattle.vp_terms.specs.declared.package.Package.{Package}
use Rattle.vp_cmd.specs.declared.status.Status.{Status}
use Rattle.vp_cmd.specs.declared.status.Status.TheVariants.{Done}
use Rattle.vp_cmd.specs.declared.opening.Halt.{Halt}
use Rattle.vp_cmd.specs.declared.opening.Halt.TheVariants as halt
use Rattle.vp_cmd.specs.declared.opening.Task.TheVariants as task
use Rattle.vp_runner.specs.Sessions.{SessionState, StandsFor}
use Rattle.vp_cmd.specs.Clauses.{HoldsText, IsProvedText, IsUnopened, RunsBy}
use Rattle.vp_cmd.specs.Commands.{Command, Check, Compile, Demo, Exec, Listing, Run}
use Rattle.vp_cmd.specs.Dues.{IsAccepted, IsCompiled, IsDue, IsListed, IsRefusal, IsRun, IsSizeRefusal, OfCode, OfFile, OfSandbox, OfText, image_limit, package_limit}
use Rattle.vp_cmd.specs.Images.{HasRoom, IsImageOf, IsSandboxFor, RunsAs}
use Rattle.vp_cmd.specs.Outcomes.{Outcome, accepted, bad_image, done, image_text, refused, run_outcome}
use Rattle.vp_cmd.specs.Steps.{Halts, ImageIs, ImageRefused, IsNamed, IsOversized, IsShown, IsStored, IsTask, IsTooLong, IsUnrefused, LoadCause, LongRefused, OfStored, PackageRefused}
use Rattle.vp_cmd.specs.Tank.{tank}

-- ---- files

only_file : (name bytes : List ℕ) → file_named name ((name, bytes) ∷ []) ≡ Some bytes
only_file name bytes = let e : bytes_eq name name ≡ true = (bytes_eq-Decides name name).1 refl in rw e refl

-- a file that was loaded whole
pub stored : (files : Option (List NamedFile)) (name bytes : List ℕ) (limit : ℕ) → IfSome files (λ fs. Loads (file_named name fs) limit (Ok Whole) bytes) → length bytes ≤ limit → IsStored files name limit bytes
stored None name bytes limit h short = record { all = (name, bytes) ∷ []; told = tt; there = only_file name bytes; short = short }
stored (Some fs) name bytes limit h short = record { all = fs; told = refl; there = h; short = short }

-- and one that is too long
pub too_long : (files : Option (List NamedFile)) (name into : List ℕ) (limit : ℕ) → IfSome files (λ fs. Loads (file_named name fs) limit (Ok TooLong) into) → IsTooLong files name limit
too_long None name into limit h =
    let bytes = replicate (suc limit) 0 in
    record { all = (name, bytes) ∷ []; bytes = bytes; told = tt; there = only_file name bytes; long = omega (arith, length-replicate {A = ℕ} (suc limit) 0) }
too_long (Some fs) name into limit h = record { all = fs; bytes = h.0; told = refl; there = h.1; long = h.2 }

module _ (fs : List NamedFile) (name bytes : List ℕ) (limit : ℕ) (long : Outcome) (P : List ℕ → Outcome → Type 0) (there : file_named name fs ≡ Some bytes) where
  abbrev Here : Outcome → Bool → Type 0
  Here o b = MatchBool b (o ≡ long) (P bytes o)

  abbrev Found : Outcome → Option (List ℕ) → Type 0
  Found o file = IsSomeAnd file (λ bytes. MatchBool (nat_lt limit (length bytes)) (o ≡ long) (P bytes o))

  -- what is due of its bytes is due of the file
  pub of_file : (o : Outcome) → length bytes ≤ limit → P bytes o → OfFile fs name limit long P o
  of_file o short h = subst (Found o) (sym there) (subst (Here o) (sym (le-ltb limit (length bytes) short)) h)

  pub of_long_file : limit < length bytes → OfFile fs name limit long P long
  of_long_file h = subst (Found long) (sym there) (subst (Here long) (sym (lt-ltb limit (length bytes) h)) refl)

-- what is due of the bytes of a stored file
pub of_stored : (files : Option (List NamedFile)) (name bytes : List ℕ) (limit : ℕ) (long : Outcome) (P : List ℕ → Outcome → Type 0) (o : Outcome) → IsStored files name limit bytes → P bytes o
    → OfStored files (λ fs o. OfFile fs name limit long P o) o
of_stored files name bytes limit long P o s h = (s.all, s.told, of_file s.all name bytes limit long P s.there o s.short h)

-- what is due of one that is too long
pub of_too_long : (files : Option (List NamedFile)) (name : List ℕ) (limit : ℕ) (long o : Outcome) (P : List ℕ → Outcome → Type 0) → IsTooLong files name limit → o ≡ long
    → OfStored files (λ fs o. OfFile fs name limit long P o) o
of_too_long files name limit long o P s e =
    subst (OfStored files (λ fs o. OfFile fs name limit long P o)) (sym e) (s.all, s.told, of_long_file s.all name s.bytes limit long P s.there s.long)

-- what is due by an empty relation of the bytes is due by any
file_wider : (found : Option (List ℕ)) (limit : ℕ) (long o : Outcome) (P Q : List ℕ → Outcome → Type 0) → ((bytes : List ℕ) → P bytes o → Q bytes o)
    → IsSomeAnd found (λ bytes. MatchBool (nat_lt limit (length bytes)) (o ≡ long) (P bytes o))
    → IsSomeAnd found (λ bytes. MatchBool (nat_lt limit (length bytes)) (o ≡ long) (Q bytes o))
file_wider None limit long o P Q wider h = h
file_wider (Some bytes) limit long o P Q wider h = by (nat_lt limit (length bytes)) h
  where
    by : (b : Bool) → MatchBool b (o ≡ long) (P bytes o) → MatchBool b (o ≡ long) (Q bytes o)
    by true h = h
    by false h = wider bytes h

-- ---- halts

pub halts_wider : (h : Halt) (P Q : Outcome → Type 0) → ((o : Outcome) → P o → Q o) → Halts P h → Halts Q h
halts_wider (halt.Due o) P Q wider h = wider o h
halts_wider halt.StoreFault P Q wider h = tt
halts_wider halt.WantOfMemory P Q wider h = tt

-- a call behind a load that went well is no store fault: the store is as it was
pub cause_kept : {T : Type 0} (r : Result T Halt) (name : Option (List ℕ)) (before now : ℕ) (failed_before failed_now : List ℕ) → now ≡ before → failed_now ≡ failed_before → IfErr r (λ h. h ≢ halt.StoreFault)
    → LoadCause r name before now failed_before failed_now
cause_kept (Ok x) name before now failed_before failed_now e f other = (e, f)
cause_kept (Err (halt.Due o)) name before now failed_before failed_now e f other = (e, f)
cause_kept (Err halt.StoreFault) name before now failed_before failed_now e f other = absurd (other refl)
cause_kept (Err halt.WantOfMemory) name before now failed_before failed_now e f other = (e, f)

-- what refuses a file leaves the input unopened
file_status : (found : Option (List ℕ)) (limit : ℕ) (long o : Outcome) (P : List ℕ → Outcome → Type 0) → IsUnopened long.status → ((bytes : List ℕ) → P bytes o → IsUnopened o.status)
    → IsSomeAnd found (λ bytes. MatchBool (nat_lt limit (length bytes)) (o ≡ long) (P bytes o)) → IsUnopened o.status
file_status None limit long o P other each h = absurd h
file_status (Some bytes) limit long o P other each h = by (nat_lt limit (length bytes)) h
  where
    by : (b : Bool) → MatchBool b (o ≡ long) (P bytes o) → IsUnopened o.status
    by true h = subst (λ (x : Outcome). IsUnopened x.status) (sym h) other
    by false h = each bytes h

-- and isn't done
pub unopened_not_done : (status : Status) → IsUnopened status → status ≢ Done
unopened_not_done status h e = subst IsUnopened e h

-- a halt that was passed on
pub passed_on : {T : Type 0} (P : Halt → Type 0) (x : Result T Halt) (r e : Halt) → x ≡ Err r → r ≡ e → P e → IfErr x P
passed_on P x r e h q p = rw h (subst P (sym q) p)

pub passed_wider : {T : Type 0} (P Q : Outcome → Type 0) (x : Result T Halt) → ((o : Outcome) → P o → Q o) → IfErr x (Halts P) → IfErr x (Halts Q)
passed_wider P Q (Ok t) wider h = tt
passed_wider P Q (Err e) wider h = halts_wider e P Q wider h

-- ---- images

-- a code that was read from the named file
pub runs_by : (files : Option (List NamedFile)) (name bytes digest : List ℕ) (code : Code) → IsStored files name image_limit bytes → image_read bytes ≡ Ok (code, digest) → RunsBy files (Some (Exec name)) code
runs_by files name bytes digest code s e = (s.all, s.told, record { bytes = bytes; digest = digest; there = s.there; short = s.short; is_read = e })

gives_other : (why : ImageErr) (read : Result (Code × List ℕ) ImageErr) → Gives {A = Code × List ℕ} (Err why) read → why ≢ image.Memory → Err why ≡ read
gives_other image.Memory read g other = absurd (other refl)
gives_other image.Magic read g other = g
gives_other (image.Version n) read g other = g
gives_other image.Length read g other = g
gives_other image.Digest read g other = g
gives_other (image.Instr at) read g other = g
gives_other (image.Check e) read g other = g

-- bytes that are no image
pub refused_code : (read : Result (Code × List ℕ) ImageErr) (why : ImageErr) (o : Outcome) → Gives (Err why) read → why ≢ image.Memory → o ≡ bad_image (image_text why) → OfCode (λ code o. ⊥) read o
refused_code read why o g other e =
    let P : Result (Code × List ℕ) ImageErr → Type 0 = λ r. OfCode (λ code o. ⊥) r o in
    subst P (gives_other why read g other) e

code_wider : (read : Result (Code × List ℕ) ImageErr) (P : Code → Outcome → Type 0) (o : Outcome) → OfCode (λ code o. ⊥) read o → OfCode P read o
code_wider (Err e) P o h = h
code_wider (Ok found) P o h = absurd h

pub image_halts : (files : Option (List NamedFile)) (name bytes : List ℕ) (h : Halt) → IsStored files name image_limit bytes → Halts (λ o. OfCode (λ code o. ⊥) (image_read bytes) o) h
    → Halts (OfStored files (ImageRefused name)) h
image_halts files name bytes h s k =
    halts_wider h _ (OfStored files (ImageRefused name)) (λ o d. of_stored files name bytes image_limit (bad_image (codes "size")) (λ bytes o. OfCode (λ code o. ⊥) (image_read bytes) o) o s d) k

-- what refuses an image is due for every input
pub image_due : (files : Option (List NamedFile)) (name : List ℕ) (o : Outcome) → OfStored files (ImageRefused name) o → OfStored files (λ fs o. (input : List ℕ) → IsDue fs input (Some (Exec name)) o) o
image_due files name o h = (
  h.0,
  h.1,
  λ input.
      let P : Code → Outcome → Type 0 = λ code o. o ≡ run_outcome (run (machine_of code) input) in
      file_wider (file_named name h.0) image_limit (bad_image (codes "size")) o (λ bytes o. OfCode (λ code o. ⊥) (image_read bytes) o) (λ bytes o. OfCode P (image_read bytes) o) (λ bytes k. code_wider (image_read bytes) P o k) h.2,
)

image_status : (read : Result (Code × List ℕ) ImageErr) (o : Outcome) → OfCode (λ code o. ⊥) read o → IsUnopened o.status
image_status (Err why) o h = subst (λ (x : Outcome). IsUnopened x.status) (sym h) tt
image_status (Ok found) o h = absurd h

pub image_unopened : (files : Option (List NamedFile)) (name : List ℕ) (h : Halt) → Halts (OfStored files (ImageRefused name)) h → Halts (λ o. IsUnopened o.status) h
image_unopened files name h k =
    halts_wider h (OfStored files (ImageRefused name)) (λ o. IsUnopened o.status)
    (λ o d. file_status (file_named name d.0) image_limit (bad_image (codes "size")) o (λ bytes o. OfCode (λ code o. ⊥) (image_read bytes) o) tt (λ bytes i. image_status (image_read bytes) o i) d.2) k

-- ---- packages

-- the refusal that is told of a text is the first up to a stage
pub refusal_due : (stage : Stage) (text : List ℕ) (r : Refusal) (o : Outcome) → IsRefused stage text r → IsRefusal text r o → OfText stage IsUnrefused text o
refusal_due stage text r o h line = inl (r, h, line)

-- a refusal that isn't of the text alone tells of a package
reading_named : (text : List ℕ) (r : Refusal) → RefusesReading text r → IsNamed text r
reading_named text (Read e) h = tt
reading_named text (Monitor e) h = absurd h
reading_named text (Cert part n why) h = absurd h
reading_named text Extra h = absurd h
reading_named text Memory h = absurd h

model_named : (text : List ℕ) (r : Refusal) → RefusesModel text r → IsNamed text r
model_named text (Read e) h = tt
model_named text (Monitor e) h = (h.1, h.2)
model_named text (Cert part n why) h = absurd h
model_named text Extra h = absurd h
model_named text Memory h = absurd h

certified_named : (text : List ℕ) (r : Refusal) → RefusesCertified text r → IsNamed text r
certified_named text (Read e) h = tt
certified_named text (Monitor e) h = (h.1, h.2.is)
certified_named text (Cert part n why) h = (h.1, h.2.is)
certified_named text Extra h = (h.1, h.2.is)
certified_named text Memory h = tt

pub named : (stage : Stage) (text : List ℕ) (r : Refusal) → IsRefused stage text r → IsNamed text r
named Declared text r h = reading_named text r h
named Split text r (inl h) = reading_named text r h
named Split text r (inr h) = model_named text r h
named Certified text r (inl h) = reading_named text r h
named Certified text r (inr (inl h)) = model_named text r h
named Certified text r (inr (inr h)) = certified_named text r h

-- and none is want of memory
pub named_unless : (stage : Stage) (text : List ℕ) (r : Refusal) → (r ≢ Memory → IsRefused stage text r) → IsNamed text r
named_unless stage text (Read e) h = tt
named_unless stage text (Monitor e) h = named stage text (Monitor e) (h (λ e. cc))
named_unless stage text (Cert part n why) h = named stage text (Cert part n why) (h (λ e. cc))
named_unless stage text Extra h = named stage text Extra (h (λ e. cc))
named_unless stage text Memory h = tt

abbrev Owed : Type 1
Owed = List ℕ → Package → Outcome → Type 0

pub package_halts : (stage : Stage) (P : List ℕ → Package → Outcome → Type 0) (files : Option (List NamedFile)) (name text : List ℕ) (h : Halt) → IsStored files name package_limit text → Halts (OfText stage P text) h
    → Halts (OfStored files (PackageRefused stage P name)) h
package_halts stage P files name text h s k =
    halts_wider h _ (OfStored files (PackageRefused stage P name)) (λ o d. of_stored files name text package_limit (refused (codes "length")) (OfText stage P) o s d) k

-- a file that is too long is refused at each stage
pub long_halts : (stage : Stage) (P : List ℕ → Package → Outcome → Type 0) (files : Option (List NamedFile)) (name : List ℕ) (h : Halt) → Halts (OfStored files (LongRefused name)) h → Halts (OfStored files (PackageRefused stage P name)) h
long_halts stage P files name h k =
    halts_wider h _ (OfStored files (PackageRefused stage P name))
    (λ o d. (d.0, d.1, file_wider (file_named name d.0) package_limit (refused (codes "length")) o (λ text o. ⊥) (OfText stage P) (λ text n. absurd n) d.2)) k

-- what refuses a text is due, whatever is due of a package
text_wider : (stage : Stage) (P Q : Owed) (text : List ℕ) (o : Outcome) → ((pkg : Package) → P text pkg o → Q text pkg o) → OfText stage P text o → OfText stage Q text o
text_wider stage P Q text o wider (inl h) = inl h
text_wider stage P Q text o wider (inr h) = inr (h.0, h.1, wider h.0 h.2)

sandbox_wider : (P : Sandbox → Outcome → Type 0) (text : List ℕ) (pkg : Package) (o : Outcome) → IsOversized text pkg o → OfSandbox P pkg o
sandbox_wider P text pkg o h = (h.0, h.1, h.2, of h.3)
  where
    of : IsSizeRefusal h.1 o ⊎ (HasRoom h.1 × ⊥) → IsSizeRefusal h.1 o ⊎ (HasRoom h.1 × P h.1 o)
    of (inl e) = inl e
    of (inr n) = absurd n.1

-- what refuses a text that is accepted for its sandbox's size, and what refuses it before
pub text_halts : (text : List ℕ) (h : Halt) → Halts (OfText Certified IsUnrefused text) h → Halts (OfText Certified IsOversized text) h
text_halts text h k =
    halts_wider h (OfText Certified IsUnrefused text) (OfText Certified IsOversized text) (λ o d. text_wider Certified IsUnrefused IsOversized text o (λ pkg n. absurd n) d) k

pub size_halts : (text : List ℕ) (pkg : Package) (os : List Obligation) (s : Sandbox) (h : Halt) → Passes Certified text pkg → AreMadeOf pkg os s → Halts (IsSizeRefusal s) h → Halts (OfText Certified IsOversized text) h
size_halts text pkg os s h accepts made k =
    halts_wider h (IsSizeRefusal s) (OfText Certified IsOversized text) (λ o e. inr (pkg, accepts, (os, s, made, inl e))) k

pub passed_size : {T : Type 0} (x : Result T Halt) (text : List ℕ) (pkg : Package) (os : List Obligation) (s : Sandbox) → Passes Certified text pkg → AreMadeOf pkg os s → IfErr x (Halts (IsSizeRefusal s))
    → IfErr x (Halts (OfText Certified IsOversized text))
passed_size (Ok t) text pkg os s accepts made h = tt
passed_size (Err e) text pkg os s accepts made h = size_halts text pkg os s e accepts made h

package_wider : (stage : Stage) (P Q : Owed) (files : Option (List NamedFile)) (name : List ℕ) (o : Outcome) → ((text : List ℕ) (pkg : Package) → P text pkg o → Q text pkg o)
    → OfStored files (PackageRefused stage P name) o → OfStored files (PackageRefused stage Q name) o
package_wider stage P Q files name o wider h =
    (h.0, h.1, file_wider (file_named name h.0) package_limit (refused (codes "length")) o (OfText stage P) (OfText stage Q) (λ text k. text_wider stage P Q text o (wider text) k) h.2)

-- what refuses a package is due for every input
pub check_refused : (files : Option (List NamedFile)) (name : List ℕ) (o : Outcome) → OfStored files (PackageRefused Certified IsUnrefused name) o → OfStored files (λ fs o. (input : List ℕ) → IsDue fs input (Some (Check name)) o) o
check_refused files name o h =
    let k = package_wider Certified IsUnrefused IsAccepted files name o (λ text pkg n. absurd n) h in (k.0, k.1, λ input. k.2)

pub list_refused : (files : Option (List NamedFile)) (name : List ℕ) (o : Outcome) → OfStored files (PackageRefused Split IsUnrefused name) o → OfStored files (λ fs o. (input : List ℕ) → IsDue fs input (Some (Listing name)) o) o
list_refused files name o h =
    let k = package_wider Split IsUnrefused IsListed files name o (λ text pkg n. absurd n) h in (k.0, k.1, λ input. k.2)

pub compile_refused : (files : Option (List NamedFile)) (name : List ℕ) (o : Outcome) → OfStored files (PackageRefused Certified IsOversized name) o → OfStored files (λ fs o. (input : List ℕ) → IsDue fs input (Some (Compile name)) o) o
compile_refused files name o h =
    let k = package_wider Certified IsOversized IsCompiled files name o (λ text pkg n. sandbox_wider (λ s o. (bytes : List ℕ) × IsImageOf text s bytes × (o ≡ done bytes)) text pkg o n) h in (k.0, k.1, λ input. k.2)

pub run_refused : (files : Option (List NamedFile)) (name : List ℕ) (o : Outcome) → OfStored files (PackageRefused Certified IsOversized name) o → OfStored files (λ fs o. (input : List ℕ) → IsDue fs input (Some (Run name)) o) o
run_refused files name o h = (
  h.0,
  h.1,
  λ input.
      file_wider (file_named name h.0) package_limit (refused (codes "length")) o (OfText Certified IsOversized) (OfText Certified (IsRun input))
      (λ text k. text_wider Certified IsOversized (IsRun input) text o (λ pkg n. sandbox_wider (λ s o. o ≡ run_outcome (run (sandbox_of s) input)) text pkg o n) k) h.2,
)

some_files : (files : Option (List NamedFile)) → (fs : List NamedFile) × Tells files fs
some_files None = ([], tt)
some_files (Some fs) = (fs, refl)

pub demo_refused : (files : Option (List NamedFile)) (h : Halt) → Halts (OfText Certified IsOversized tank) h → Halts (OfStored files (λ fs o. (input : List ℕ) → IsDue fs input (Some Demo) o)) h
demo_refused files h k =
    halts_wider h (OfText Certified IsOversized tank) (OfStored files (λ fs o. (input : List ℕ) → IsDue fs input (Some Demo) o))
    (λ o d. let fs = some_files files in (fs.0, fs.1, λ input. text_wider Certified IsOversized IsCompiled tank o (λ pkg n. sandbox_wider (λ s o. (bytes : List ℕ) × IsImageOf tank s bytes × (o ≡ done bytes)) tank pkg o n) d)) k

-- a package is accepted
pub check_due : (files : Option (List NamedFile)) (name text : List ℕ) (o : Outcome) → IsStored files name package_limit text → IsProvedText text → o ≡ accepted
    → OfStored files (λ fs o. (input : List ℕ) → IsDue fs input (Some (Check name)) o) o
check_due files name text o s proved e =
    (s.all, s.told, λ input. of_file s.all name text package_limit (refused (codes "length")) (OfText Certified IsAccepted) s.there o s.short (inr (proved.0, proved.1, e)))

-- a package is listed
pub list_due : (files : Option (List NamedFile)) (name text : List ℕ) (o : Outcome) → IsStored files name package_limit text → (pkg : Package) × Passes Split text pkg × IsListed text pkg o
    → OfStored files (λ fs o. (input : List ℕ) → IsDue fs input (Some (Listing name)) o) o
list_due files name text o s listed =
    (s.all, s.told, λ input. of_file s.all name text package_limit (refused (codes "length")) (OfText Split IsListed) s.there o s.short (inr listed))

-- a package is compiled
compiled_text : (text : List ℕ) (o : Outcome) → ImageIs text o → OfText Certified IsCompiled text o
compiled_text text o h = let s = h.1 in inr (s.pkg, s.accepts, (s.obligations, h.0, s.made, inr (s.room, h.2)))

pub compile_due : (files : Option (List NamedFile)) (name text : List ℕ) (o : Outcome) → IsStored files name package_limit text → ImageIs text o
    → OfStored files (λ fs o. (input : List ℕ) → IsDue fs input (Some (Compile name)) o) o
compile_due files name text o s h =
    (s.all, s.told, λ input. of_file s.all name text package_limit (refused (codes "length")) (OfText Certified IsCompiled) s.there o s.short (compiled_text text o h))

pub demo_due : (files : Option (List NamedFile)) (o : Outcome) → ImageIs tank o → OfStored files (λ fs o. (input : List ℕ) → IsDue fs input (Some Demo) o) o
demo_due files o h = let fs = some_files files in (fs.0, fs.1, λ input. compiled_text tank o h)

-- this is so of the text of a stored file
pub holds_text : (files : Option (List NamedFile)) (name text : List ℕ) (Is : List ℕ → Type 0) → IsStored files name package_limit text → Is text → HoldsText files name Is
holds_text files name text Is s h = (s.all, s.told, subst (λ (x : Option (List ℕ)). IsSomeAnd x (λ text. (length text ≤ package_limit) × Is text)) (sym s.there) (s.short, h))

pub holds_proved : (files : Option (List NamedFile)) (name text : List ℕ) → IsStored files name package_limit text → IsProvedText text → HoldsText files name IsProvedText
holds_proved files name text s proved = holds_text files name text IsProvedText s proved

-- the code of an image that was read back
abbrev code_in : Code → Result (Code × List ℕ) ImageErr → Code
code_in other (Ok found) = found.0
code_in other (Err e) = other

same_code : (bytes digest other : List ℕ) (code found : Code) → image_read bytes ≡ Ok (code, digest) → image_read bytes ≡ Ok (found, other) → code ≡ found
same_code bytes digest other code found a b = ap (code_in code) (sym a ∙ b)

pub runs_package : (files : Option (List NamedFile)) (name text bytes digest : List ℕ) (s : Sandbox) (code : Code) → IsStored files name package_limit text → IsSandboxFor text s → IsImageOf text s bytes → image_read bytes ≡ Ok (code, digest)
    → RunsBy files (Some (Run name)) code
runs_package files name text bytes digest s code stored is image read =
    holds_text files name text (λ text. (s : Sandbox) × IsSandboxFor text s × RunsAs code s) stored
    (s, is, subst (λ (c : Code). RunsAs c s) (same_code bytes _ digest image.code code image.read_back read) image.runs_as)

refusal_status : (text : List ℕ) (r : Refusal) (o : Outcome) → IsRefusal text r o → IsUnopened o.status
refusal_status text (Read why) o h = subst (λ (x : Outcome). IsUnopened x.status) (sym h) tt
refusal_status text (Monitor why) o h = subst (λ (x : Outcome). IsUnopened x.status) (sym h.2) tt
refusal_status text (Cert part n why) o h = subst (λ (x : Outcome). IsUnopened x.status) (sym h.2) tt
refusal_status text Extra o h = subst (λ (x : Outcome). IsUnopened x.status) (sym h.2) tt
refusal_status text Memory o h = subst (λ (x : Outcome). IsUnopened x.status) (sym h.2) tt

oversized_status : (text : List ℕ) (pkg : Package) (o : Outcome) → IsOversized text pkg o → IsUnopened o.status
oversized_status text pkg o h = of h.3
  where
    of : IsSizeRefusal h.1 o ⊎ (HasRoom h.1 × ⊥) → IsUnopened o.status
    of (inl e) = subst (λ (x : Outcome). IsUnopened x.status) (sym e.3) tt
    of (inr n) = absurd n.1

text_status : (stage : Stage) (P : Owed) (text : List ℕ) (o : Outcome) → ((pkg : Package) → P text pkg o → IsUnopened o.status) → OfText stage P text o → IsUnopened o.status
text_status stage P text o each (inl h) = refusal_status text h.0 o h.2
text_status stage P text o each (inr h) = each h.0 h.2

package_status : (stage : Stage) (P : Owed) (files : Option (List NamedFile)) (name : List ℕ) (h : Halt) → ((text : List ℕ) (pkg : Package) (o : Outcome) → P text pkg o → IsUnopened o.status)
    → Halts (OfStored files (PackageRefused stage P name)) h → Halts (λ o. IsUnopened o.status) h
package_status stage P files name h each k =
    halts_wider h (OfStored files (PackageRefused stage P name)) (λ o. IsUnopened o.status)
    (λ o d. file_status (file_named name d.0) package_limit (refused (codes "length")) o (OfText stage P) tt (λ text t. text_status stage P text o (λ pkg n. each text pkg o n) t) d.2) k

pub package_unopened : (stage : Stage) (files : Option (List NamedFile)) (name : List ℕ) (h : Halt) → Halts (OfStored files (PackageRefused stage IsUnrefused name)) h → Halts (λ o. IsUnopened o.status) h
package_unopened stage files name h k = package_status stage IsUnrefused files name h (λ text pkg o n. absurd n) k

pub oversized_unopened : (stage : Stage) (files : Option (List NamedFile)) (name : List ℕ) (h : Halt) → Halts (OfStored files (PackageRefused stage IsOversized name)) h → Halts (λ o. IsUnopened o.status) h
oversized_unopened stage files name h k = package_status stage IsOversized files name h oversized_status k

pub demo_unopened : (h : Halt) → Halts (OfText Certified IsOversized tank) h → Halts (λ o. IsUnopened o.status) h
demo_unopened h k =
    halts_wider h (OfText Certified IsOversized tank) (λ o. IsUnopened o.status) (λ o d. text_status Certified IsOversized tank o (λ pkg n. oversized_status tank pkg o n) d) k

-- ---- commands

-- what is due of a package is due of the text that was lent
pub lent_halts : (stage : Stage) (P : List ℕ → Package → Outcome → Type 0) (files : Option (List NamedFile)) (name text lent : List ℕ) (h : Halt) → lent ≡ text → IsStored files name package_limit text → Halts (OfText stage P lent) h
    → Halts (OfStored files (PackageRefused stage P name)) h
lent_halts stage P files name text lent h e s k = package_halts stage P files name lent h (subst (IsStored files name package_limit) (sym e) s) k

abbrev pub HasImage : List ℕ → List ℕ → Type 0
HasImage text bytes = (s : Sandbox) × IsSandboxFor text s × IsImageOf text s bytes

image_is : (text bytes : List ℕ) → HasImage text bytes → ImageIs text (record { status = Done; text = bytes })
image_is text bytes h = (h.0, h.1, (bytes, h.2, refl))

pub compile_task : (files : Option (List NamedFile)) (name text lent bytes : List ℕ) → lent ≡ text → IsStored files name package_limit text → HasImage lent bytes → IsTask files (Some (Compile name)) (task.Print (record { status = Done; text = bytes }))
compile_task files name text lent bytes e s h = (refl, compile_due files name lent (record { status = Done; text = bytes }) (subst (IsStored files name package_limit) (sym e) s) (image_is lent bytes h))

pub compile_shown : (files : Option (List NamedFile)) (name text lent bytes : List ℕ) → lent ≡ text → IsStored files name package_limit text → HasImage lent bytes → IsShown files (Some (Compile name)) (task.Print (record { status = Done; text = bytes }))
compile_shown files name text lent bytes e s h =
    holds_text files name lent (λ text. ImageIs text (record { status = Done; text = bytes })) (subst (IsStored files name package_limit) (sym e) s) (image_is lent bytes h)

pub demo_task : (files : Option (List NamedFile)) (lent bytes : List ℕ) → lent ≡ tank → HasImage lent bytes → IsTask files (Some Demo) (task.Print (record { status = Done; text = bytes }))
demo_task files lent bytes e h = (refl, demo_due files (record { status = Done; text = bytes }) (image_is tank bytes (subst (λ (t : List ℕ). HasImage t bytes) e h)))

pub demo_shown : (lent bytes : List ℕ) → lent ≡ tank → HasImage lent bytes → ImageIs tank (record { status = Done; text = bytes })
demo_shown lent bytes e h = image_is tank bytes (subst (λ (t : List ℕ). HasImage t bytes) e h)

-- an image that was written is read back
pub reads_back : (text bytes lent : List ℕ) → lent ≡ bytes → HasImage text bytes → (code : Code) × (digest : List ℕ) × (image_read lent ≡ Ok (code, digest))
reads_back text bytes lent e h = let is = h.2 in (is.code, sha256 text, subst (λ (b : List ℕ). image_read b ≡ Ok (is.code, sha256 text)) (sym e) is.read_back)

pub run_task : (files : Option (List NamedFile)) (name text lent bytes shown : List ℕ) (s : SessionState) → lent ≡ text → shown ≡ bytes → IsStored files name package_limit text → HasImage lent bytes
    → ((digest : List ℕ) × (image_read shown ≡ Ok (s.code, digest))) × StandsFor s.code [] s → IsTask files (Some (Run name)) (task.Stream s)
run_task files name text lent bytes shown s e f stored h started =
    let read = started.0 in
    (runs_package files name lent bytes read.0 h.0 s.code (subst (IsStored files name package_limit) (sym e) stored) h.1 h.2 (subst (λ (b : List ℕ). image_read b ≡ Ok (s.code, read.0)) f read.1), started.1)

-- what refuses the file of a command's package is due for the command
pub opened_compile : {T : Type 0} (x : Result T Halt) (files : Option (List NamedFile)) (name : List ℕ) (command : Option Command) → command ≡ Some (Compile name) → IfErr x (Halts (OfStored files (PackageRefused Certified IsOversized name)))
    → IfErr x (Halts (OfStored files (λ fs o. (input : List ℕ) → IsDue fs input command o)))
opened_compile x files name command e h =
    subst (λ (k : Option Command). IfErr x (Halts (OfStored files (λ fs o. (input : List ℕ) → IsDue fs input k o)))) (sym e)
    (passed_wider (OfStored files (PackageRefused Certified IsOversized name)) (OfStored files (λ fs o. (input : List ℕ) → IsDue fs input (Some (Compile name)) o)) x (compile_refused files name) h)

pub opened_run : {T : Type 0} (x : Result T Halt) (files : Option (List NamedFile)) (name : List ℕ) (command : Option Command) → command ≡ Some (Run name) → IfErr x (Halts (OfStored files (PackageRefused Certified IsOversized name)))
    → IfErr x (Halts (OfStored files (λ fs o. (input : List ℕ) → IsDue fs input command o)))
opened_run x files name command e h =
    subst (λ (k : Option Command). IfErr x (Halts (OfStored files (λ fs o. (input : List ℕ) → IsDue fs input k o)))) (sym e)
    (passed_wider (OfStored files (PackageRefused Certified IsOversized name)) (OfStored files (λ fs o. (input : List ℕ) → IsDue fs input (Some (Run name)) o)) x (run_refused files name) h)

pub opened_demo : {T : Type 0} (x : Result T Halt) (files : Option (List NamedFile)) (command : Option Command) → command ≡ Some Demo → IfErr x (Halts (OfText Certified IsOversized tank))
    → IfErr x (Halts (OfStored files (λ fs o. (input : List ℕ) → IsDue fs input command o)))
opened_demo (Ok t) files command e h = tt
opened_demo (Err r) files command e h =
    subst (λ (k : Option Command). Halts (OfStored files (λ fs o. (input : List ℕ) → IsDue fs input k o)) r) (sym e) (demo_refused files r h)
