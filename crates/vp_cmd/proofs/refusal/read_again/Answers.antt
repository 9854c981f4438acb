use Rattle.std.proofs.Common.{◌≡◌, ◌≢◌, IfErr, Ok, Err, List, ℕ, refl, Result}
use Rattle.vp_read.specs.Reading.{IsPackage, Reads, Refuses}
use Rattle.vp_read.specs.declared.fault.ReadErr.{ReadErr}
use Rattle.vp_read.specs.declared.fault.ReadErr.TheVariants as fault
use Rattle.vp_terms.specs.declared.package.Package.{Package}
use Rattle.vp_cmd.proofs.refusal.read_again.Goals as goal

-- only want of memory refuses a text that is a package
memory_alone : (text : List ℕ) → ((e : ReadErr) → Refuses text e → e ≢ fault.Memory → ⊥) → (r : Result Package ReadErr) → Reads text r → IfErr r (λ e. e ≡ fault.Memory)
memory_alone text apart (Ok pkg) h = tt
memory_alone text apart (Err (fault.Lex at)) h = absurd (apart (fault.Lex at) h (λ e. cc))
memory_alone text apart (Err (fault.Number at)) h = absurd (apart (fault.Number at) h (λ e. cc))
memory_alone text apart (Err (fault.Deep piece)) h = absurd (apart (fault.Deep piece) h (λ e. cc))
memory_alone text apart (Err (fault.Section piece)) h = absurd (apart (fault.Section piece) h (λ e. cc))
memory_alone text apart (Err (fault.Names count)) h = absurd (apart (fault.Names count) h (λ e. cc))
memory_alone text apart (Err (fault.Twice name)) h = absurd (apart (fault.Twice name) h (λ e. cc))
memory_alone text apart (Err (fault.Entries piece count)) h = absurd (apart (fault.Entries piece count) h (λ e. cc))
memory_alone text apart (Err (fault.Undeclared name piece)) h = absurd (apart (fault.Undeclared name piece) h (λ e. cc))
memory_alone text apart (Err fault.Memory) h = refl

-- src/refusal.rt
pub returns-clause-memory : goal.returns-clause-memory
returns-clause-memory c =
    memory_alone c.args.text.now (λ e. c.one_reading.ensures.apart c.args.text.now c.requires.is.0 e c.requires.is.1) c.read_package.result c.read_package.ensures.exact
