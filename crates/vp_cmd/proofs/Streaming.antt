-- What was printed is what is due.
use Rattle.std.proofs.Common.{◌≡◌, ◌≢◌, inl, inr, ℕ, ◌≤◌, nat_lt, List, [], length, Option, None, Some, Result, refl, sym, ap, ◌∙◌, subst}
use Rattle.std.specs.Prelude.{IsSomeAnd, codes}
use Rattle.std.specs.Bool.{MatchBool}
use Rattle.std.specs.Io.KnownBytes.{Appends}
use Rattle.std.proofs.lemmas.Bool.{le-ltb}
use Rattle.vp_isa.specs.Answering.{machine_of}
use Rattle.vp_isa.specs.declared.code.Code.{Code}
use Rattle.vp_image.specs.declared.image.ImageErr.{ImageErr}
use Rattle.vp_image.specs.Image.{image_read}
use Rattle.vp_outside.specs.Causes.{Rose}
use Rattle.vp_outside.specs.Content.{Tells}
use Rattle.vp_outside.specs.Loading.{NamedFile, file_named}
use Rattle.vp_runner.specs.declared.ends.RunEnd.{RunEnd}
use Rattle.vp_runner.specs.declared.ends.RunEnd.TheVariants as end
use Rattle.vp_runner.specs.Ends.{Ends, EndsOf}
use Rattle.vp_stream.specs.Run.{Run, run}
use Rattle.vp_cmd.specs.declared.status.Status.{Status}
use Rattle.vp_cmd.specs.declared.status.Status.TheVariants.{Done, Usage, Refused, Violation, BadLine, BadImage, ReadFault, WriteFault, StoreFault, WantOfMemory, TooMuch}
use Rattle.vp_sandbox.specs.declared.sandbox.Sandbox.{Sandbox}
use Rattle.vp_synth.specs.Stages.{Certified}
use Rattle.vp_cmd.specs.declared.opening.Task.TheVariants as task
use Rattle.vp_cmd.specs.Clauses.{Answers, Completes, Fulfils, HoldsText, IsAnswered, IsCaused, IsUnopened, NoFault, RunsBy, Shows, WritesImage}
use Rattle.vp_cmd.specs.Commands.{Command, Check, Compile, Demo, Exec, Listing, Log, Run as RunOf, SelfTest}
use Rattle.vp_cmd.specs.Dues.{IsDue, IsOwed, IsRun, OfCode, OfText, image_limit, package_limit}
use Rattle.vp_cmd.specs.Images.{IsSandboxFor, RunsAs}
use Rattle.vp_cmd.specs.Outcomes.{Outcome, bad_image, refused, run_outcome, status_of}
use Rattle.vp_cmd.specs.Printed.{IsPrinted}
use Rattle.vp_cmd.specs.Steps.{ImageIs, IsShown, IsStreamed, OfStored, Prints, RunsOver, status_at}
use Rattle.vp_cmd.specs.Tank.{tank}
use Rattle.vp_cmd.proofs.Files.{of_file}

-- a text that is due was printed under its status
pub fulfils_due : (P : Outcome → Type 0) (o : Outcome) (result : Status) (before now : Option (List ℕ)) → IsPrinted o.status → P o → Prints o result before now → Fulfils P result before now
fulfils_due P o WantOfMemory before now printed owed h = absurd (subst IsPrinted (sym h.0) printed)
fulfils_due P o StoreFault before now printed owed h = absurd (subst IsPrinted (sym h.0) printed)
fulfils_due P o ReadFault before now printed owed h = tt
fulfils_due P o WriteFault before now printed owed h = (o, owed, h)
fulfils_due P o result before now printed owed h = (o, owed, h.0, h.1)

pub fulfils_wider : (P Q : Outcome → Type 0) (result : Status) (before now : Option (List ℕ)) → ((o : Outcome) → P o → Q o) → Fulfils P result before now → Fulfils Q result before now
fulfils_wider P Q WantOfMemory before now wider h = h
fulfils_wider P Q StoreFault before now wider h = h
fulfils_wider P Q ReadFault before now wider h = tt
fulfils_wider P Q WriteFault before now wider h = (h.0, wider h.0 h.1, h.2)
fulfils_wider P Q result before now wider h = (h.0, wider h.0 h.1, h.2, h.3)

run_fulfils : (r : Run) (end : RunEnd) (before now : Option (List ℕ)) → Ends end r before now → Fulfils (λ o. o ≡ run_outcome r) (status_at end) before now
run_fulfils r end.Done before now k = (run_outcome r, refl, ap status_of (sym k.0), k.1)
run_fulfils r end.Violated before now k = (run_outcome r, refl, ap status_of (sym k.0), k.1)
run_fulfils r end.BadLine before now k = (run_outcome r, refl, ap status_of (sym k.0), k.1)
run_fulfils r end.TooMuch before now k = (run_outcome r, refl, ap status_of (sym k.0), k.1)
run_fulfils r end.WriteFault before now k = (run_outcome r, refl, k)
run_fulfils r end.ReadFault before now k = tt

-- a run over the input ended so
pub run_over : (code : Code) (end : RunEnd) (left before now : Option (List ℕ)) → EndsOf (machine_of code) end left before now → RunsOver code (status_at end) left before now
run_over code end left before now h = (h.0, h.1, run_fulfils (run (machine_of code) h.0) end before now h.2)

some_told : {A : Type 0} (o : Option A) → A → (x : A) × Tells o x
some_told None x = (x, tt)
some_told (Some y) x = (y, refl)

-- what is due for every input is due for the input
pub owed_always : (files : Option (List NamedFile)) (left : Option (List ℕ)) (command : Option Command) (o : Outcome) → OfStored files (λ fs o. (input : List ℕ) → IsDue fs input command o) o → IsOwed files left command o
owed_always files left command o h = let b = some_told left [] in (h.0, b.0, h.1, b.1, h.2 b.0)

-- words that are no command are owed the usage line
pub owed_usage : (files : Option (List NamedFile)) (left : Option (List ℕ)) (o : Outcome) → IsDue [] [] None o → IsOwed files left None o
owed_usage files left o h = let fs = some_told files [] in let b = some_told left [] in (fs.0, b.0, fs.1, b.1, h)

-- the run of a code that runs as the package's sandbox is due
package_owed : (fs : List NamedFile) (name : List ℕ) (code : Code) (bytes : List ℕ) (o : Outcome) (found : Option (List ℕ))
    → IsSomeAnd found (λ text. (length text ≤ package_limit) × ((s : Sandbox) × IsSandboxFor text s × RunsAs code s)) → o ≡ run_outcome (run (machine_of code) bytes)
    → IsSomeAnd found (λ text. MatchBool (nat_lt package_limit (length text)) (o ≡ refused (codes "length")) (OfText Certified (IsRun bytes) text o))
package_owed fs name code bytes o None h e = h
package_owed fs name code bytes o (Some text) h e =
    let k = h.1 in
    let is = k.1 in
    subst (λ b. MatchBool b (o ≡ refused (codes "length")) (OfText Certified (IsRun bytes) text o)) (sym (le-ltb package_limit (length text) h.0))
    (inr (is.pkg, is.accepts, (is.obligations, k.0, is.made, inr (is.room, e ∙ ap run_outcome (k.2.runs bytes)))))

run_owed : (files : Option (List NamedFile)) (left : Option (List ℕ)) (command : Option Command) (code : Code) (bytes : List ℕ) (o : Outcome) → RunsBy files command code → Tells left bytes → o ≡ run_outcome (run (machine_of code) bytes)
    → IsOwed files left command o
run_owed files left (Some (Exec i)) code bytes o by told e =
    let file = by.2 in
    let P : Result (Code × List ℕ) ImageErr → Type 0 = λ r. OfCode (λ code o. o ≡ run_outcome (run (machine_of code) bytes)) r o in
    (by.0, bytes, by.1, told, of_file by.0 i file.bytes image_limit (bad_image (codes "size")) (λ bs o. OfCode (λ code o. o ≡ run_outcome (run (machine_of code) bytes)) (image_read bs) o) file.there o file.short (subst P (sym file.is_read) e))
run_owed files left (Some (RunOf p)) code bytes o by told e = (by.0, bytes, by.1, told, package_owed by.0 p code bytes o (file_named p by.0) by.2 e)
run_owed files left None code bytes o by told e = absurd by
run_owed files left (Some (Check p)) code bytes o by told e = absurd by
run_owed files left (Some (Compile p)) code bytes o by told e = absurd by
run_owed files left (Some (Listing p)) code bytes o by told e = absurd by
run_owed files left (Some (Log p c)) code bytes o by told e = absurd by
run_owed files left (Some (SelfTest seed rounds)) code bytes o by told e = absurd by
run_owed files left (Some Demo) code bytes o by told e = absurd by

-- a code that the command answers by was run over the input
pub fulfils_run : (files : Option (List NamedFile)) (left : Option (List ℕ)) (command : Option Command) (code : Code) (result : Status) (before now : Option (List ℕ)) → RunsBy files command code → RunsOver code result left before now
    → Fulfils (IsOwed files left command) result before now
fulfils_run files left command code result before now by h =
    fulfils_wider (λ o. o ≡ run_outcome (run (machine_of code) h.0)) (IsOwed files left command) result before now (λ o e. run_owed files left command code h.0 o by h.1 e) h.2

-- what was printed is under no other fault than that of a write
pub printed_kind : (o : Outcome) (result : Status) (before now : Option (List ℕ)) → IsPrinted o.status → Prints o result before now → (result ≢ StoreFault) × (result ≢ ReadFault)
printed_kind o WantOfMemory before now printed h = absurd (subst IsPrinted (sym h.0) printed)
printed_kind o StoreFault before now printed h = absurd (subst IsPrinted (sym h.0) printed)
printed_kind o ReadFault before now printed h = absurd (subst IsPrinted (sym h.0) printed)
printed_kind o result before now printed h = (λ e. cc, λ e. cc)

-- where no count rose the outcome is one that is due, or memory ran out
complete : (P : Outcome → Type 0) (result : Status) (before now : Option (List ℕ)) (a b c d e f : ℕ) → Fulfils P result before now
    → (result ≡ StoreFault → Rose a b) → (result ≡ ReadFault → Rose c d) → (result ≡ WriteFault → Rose e f) → NoFault a b c d e f → Completes P result before now
complete P WantOfMemory before now a b c d e f h s r w n = inl (refl, h)
complete P StoreFault before now a b c d e f h s r w n = absurd (n.store (s refl))
complete P ReadFault before now a b c d e f h s r w n = absurd (n.source (r refl))
complete P WriteFault before now a b c d e f h s r w n = absurd (n.sink (w refl))
complete P Done before now a b c d e f h s r w n = inr h
complete P Usage before now a b c d e f h s r w n = inr h
complete P Refused before now a b c d e f h s r w n = inr h
complete P Violation before now a b c d e f h s r w n = inr h
complete P BadLine before now a b c d e f h s r w n = inr h
complete P BadImage before now a b c d e f h s r w n = inr h
complete P TooMuch before now a b c d e f h s r w n = inr h

-- the same of what was printed
pub complete_printed : (P : Outcome → Type 0) (o : Outcome) (result : Status) (before now : Option (List ℕ)) (a b c d e f : ℕ) → IsPrinted o.status → P o → Prints o result before now
    → IsCaused WriteFault result e f → NoFault a b c d e f → Completes P result before now
complete_printed P o result before now a b c d e f printed owed h w n =
    let kind = printed_kind o result before now printed h in
    complete P result before now a b c d e f (fulfils_due P o result before now printed owed h) (λ q. absurd (kind.0 q)) (λ q. absurd (kind.1 q)) w.failed n

-- and of a run over the input
pub complete_run : (P : Outcome → Type 0) (result : Status) (before now : Option (List ℕ)) (a b c d e f : ℕ) → IsStreamed result → Fulfils P result before now
    → IsCaused ReadFault result c d → IsCaused WriteFault result e f → NoFault a b c d e f → Completes P result before now
complete_run P result before now a b c d e f streamed h r w n =
    complete P result before now a b c d e f h (λ q. absurd (subst IsStreamed q streamed)) r.failed w.failed n

-- ---- what is shown

-- the image that was printed is shown by the bytes that were written
image_shown : (text : List ℕ) (o : Outcome) (before now : Option (List ℕ)) → ImageIs text o → Appends before now o.text → WritesImage before now text
image_shown text o before now h k = let i = h.2 in (h.0, h.1, (i.0, i.1, subst (λ (x : Outcome). Appends before now x.text) i.2 k))

written : (o : Outcome) (result : Status) (before now : Option (List ℕ)) → Prints o result before now → result ≡ Done → Appends before now o.text
written o Done before now h e = h.1
written o Usage before now h e = cc
written o Refused before now h e = cc
written o Violation before now h e = cc
written o BadLine before now h e = cc
written o BadImage before now h e = cc
written o ReadFault before now h e = cc
written o WriteFault before now h e = cc
written o StoreFault before now h e = cc
written o WantOfMemory before now h e = cc
written o TooMuch before now h e = cc

holds_more : (files : Option (List NamedFile)) (name : List ℕ) (P Q : List ℕ → Type 0) → ((text : List ℕ) → P text → Q text) → HoldsText files name P → HoldsText files name Q
holds_more files name P Q more h = (h.0, h.1, of (file_named name h.0) h.2)
  where
    of : (found : Option (List ℕ)) → IsSomeAnd found (λ text. (length text ≤ package_limit) × P text) → IsSomeAnd found (λ text. (length text ≤ package_limit) × Q text)
    of None k = k
    of (Some text) k = (k.0, more text k.1)

pub shown_printed : (files : Option (List NamedFile)) (command : Option Command) (o : Outcome) (result : Status) (before now : Option (List ℕ)) → IsShown files command (task.Print o) → Prints o result before now → result ≡ Done
    → Shows files command before now
shown_printed files None o result before now h k e = tt
shown_printed files (Some (Check p)) o result before now h k e = h
shown_printed files (Some (Compile p)) o result before now h k e =
    holds_more files p (λ text. ImageIs text o) (WritesImage before now) (λ text i. image_shown text o before now i (written o result before now k e)) h
shown_printed files (Some (Exec i)) o result before now h k e = tt
shown_printed files (Some (RunOf p)) o result before now h k e = tt
shown_printed files (Some (Listing p)) o result before now h k e = tt
shown_printed files (Some (Log p c)) o result before now h k e = tt
shown_printed files (Some (SelfTest seed rounds)) o result before now h k e = tt
shown_printed files (Some Demo) o result before now h k e = image_shown tank o before now h (written o result before now k e)

-- a command that answers an input shows nothing else
pub shown_run : (files : Option (List NamedFile)) (command : Option Command) (code : Code) (before now : Option (List ℕ)) → RunsBy files command code → Shows files command before now
shown_run files None code before now by = tt
shown_run files (Some (Check p)) code before now by = absurd by
shown_run files (Some (Compile p)) code before now by = absurd by
shown_run files (Some (Exec i)) code before now by = tt
shown_run files (Some (RunOf p)) code before now by = tt
shown_run files (Some (Listing p)) code before now by = tt
shown_run files (Some (Log p c)) code before now by = tt
shown_run files (Some (SelfTest seed rounds)) code before now by = tt
shown_run files (Some Demo) code before now by = absurd by

-- what was printed of a file that is refused isn't done, and no run was answered
pub unopened_result : (o : Outcome) (result : Status) (before now : Option (List ℕ)) → IsUnopened o.status → Prints o result before now → (result ≢ Done) × (¬ IsAnswered result)
unopened_result o Done before now u h = absurd (subst IsUnopened (sym h.0) u)
unopened_result o Violation before now u h = absurd (subst IsUnopened (sym h.0) u)
unopened_result o BadLine before now u h = absurd (subst IsUnopened (sym h.0) u)
unopened_result o TooMuch before now u h = absurd (subst IsUnopened (sym h.0) u)
unopened_result o Usage before now u h = (λ e. cc, λ a. a)
unopened_result o Refused before now u h = (λ e. cc, λ a. a)
unopened_result o BadImage before now u h = (λ e. cc, λ a. a)
unopened_result o ReadFault before now u h = (λ e. cc, λ a. a)
unopened_result o WriteFault before now u h = (λ e. cc, λ a. a)
unopened_result o StoreFault before now u h = (λ e. cc, λ a. a)
unopened_result o WantOfMemory before now u h = (λ e. cc, λ a. a)

-- a run that was answered
answered_of : (r : Run) (result : Status) (before now : Option (List ℕ)) (o : Outcome) → o ≡ run_outcome r → result ≡ o.status → Appends before now o.text
    → (result ≡ status_of r.verdict) × Appends before now r.text
answered_of r result before now o e s k = (s ∙ ap (λ (x : Outcome). x.status) e, subst (λ (x : Outcome). Appends before now x.text) e k)

pub answers_run : (files : Option (List NamedFile)) (command : Option Command) (code : Code) (result : Status) (left before now : Option (List ℕ)) → RunsBy files command code → RunsOver code result left before now → IsAnswered result
    → Answers files command result left before now
answers_run files command code Done left before now by h a =
    let k = h.2 in let f = answered_of (run (machine_of code) h.0) Done before now k.0 k.1 k.2 k.3 in (code, by, (h.0, h.1, f.0, f.1))
answers_run files command code Violation left before now by h a =
    let k = h.2 in let f = answered_of (run (machine_of code) h.0) Violation before now k.0 k.1 k.2 k.3 in (code, by, (h.0, h.1, f.0, f.1))
answers_run files command code BadLine left before now by h a =
    let k = h.2 in let f = answered_of (run (machine_of code) h.0) BadLine before now k.0 k.1 k.2 k.3 in (code, by, (h.0, h.1, f.0, f.1))
answers_run files command code TooMuch left before now by h a =
    let k = h.2 in let f = answered_of (run (machine_of code) h.0) TooMuch before now k.0 k.1 k.2 k.3 in (code, by, (h.0, h.1, f.0, f.1))
answers_run files command code Usage left before now by h a = absurd a
answers_run files command code Refused left before now by h a = absurd a
answers_run files command code BadImage left before now by h a = absurd a
answers_run files command code ReadFault left before now by h a = absurd a
answers_run files command code WriteFault left before now by h a = absurd a
answers_run files command code StoreFault left before now by h a = absurd a
answers_run files command code WantOfMemory left before now by h a = absurd a
