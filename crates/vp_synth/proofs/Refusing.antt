-- Refusals of the layers below, as the first of a text.
use Rattle.std.proofs.Common.{◌≡◌, ◌≢◌, inl, inr, ℕ, List, Result, Err, IfErr, sym, subst}
use Rattle.vp_terms.specs.declared.package.Package.{Package}
use Rattle.vp_monitor.specs.declared.error.MonErr.{MonErr}
use Rattle.vp_monitor.specs.declared.error.MonErr.TheVariants as monitor
use Rattle.vp_read.specs.Reading.{IsPackage, Refuses as RefusesText}
use Rattle.vp_read.specs.declared.fault.ReadErr.{ReadErr}
use Rattle.vp_read.specs.declared.fault.ReadErr.TheVariants as read
use Rattle.vp_synth.specs.Errors.{of_monitors, of_read}
use Rattle.vp_synth.specs.Stages.{IsRefused, RefusesModel, RefusesPackage, RefusesReading, Split}
use Rattle.vp_synth.specs.declared.refusal.Refusal.{Refusal}
use Rattle.vp_synth.specs.declared.refusal.Refusal.TheVariants.{Memory}

-- a text that is no package
pub unread : (text : List ℕ) (e : ReadErr) (r : Refusal) → RefusesText text e → r ≡ of_read e → r ≢ Memory → IsRefused Split text r
unread text (read.Lex at) r h q n = inl (subst (RefusesReading text) (sym q) ((λ x. absurd (cc)), h))
unread text (read.Number at) r h q n = inl (subst (RefusesReading text) (sym q) ((λ x. absurd (cc)), h))
unread text (read.Deep k) r h q n = inl (subst (RefusesReading text) (sym q) ((λ x. absurd (cc)), h))
unread text (read.Section k) r h q n = inl (subst (RefusesReading text) (sym q) ((λ x. absurd (cc)), h))
unread text (read.Names k) r h q n = inl (subst (RefusesReading text) (sym q) ((λ x. absurd (cc)), h))
unread text (read.Twice name) r h q n = inl (subst (RefusesReading text) (sym q) ((λ x. absurd (cc)), h))
unread text (read.Entries k c) r h q n = inl (subst (RefusesReading text) (sym q) ((λ x. absurd (cc)), h))
unread text (read.Undeclared name k) r h q n = inl (subst (RefusesReading text) (sym q) ((λ x. absurd (cc)), h))
unread text read.Memory r h q n = absurd (n q)

-- a package without monitors or obligations
pub unmade : (text : List ℕ) (pkg : Package) (e : MonErr) (r : Refusal) → IsPackage text pkg → RefusesPackage pkg e → r ≡ of_monitors e → r ≢ Memory → IsRefused Split text r
unmade text pkg (monitor.Wide place) r is h q n = inr (subst (RefusesModel text) (sym q) ((λ x. absurd (cc)), pkg, is, h))
unmade text pkg (monitor.Paths count) r is h q n = inr (subst (RefusesModel text) (sym q) ((λ x. absurd (cc)), pkg, is, h))
unmade text pkg (monitor.Hidden name) r is h q n = inr (subst (RefusesModel text) (sym q) ((λ x. absurd (cc)), pkg, is, h))
unmade text pkg (monitor.NotLinear name) r is h q n = inr (subst (RefusesModel text) (sym q) ((λ x. absurd (cc)), pkg, is, h))
unmade text pkg (monitor.Cycle names) r is h q n = inr (subst (RefusesModel text) (sym q) ((λ x. absurd (cc)), pkg, is, h))
unmade text pkg (monitor.Fraction name) r is h q n = inr (subst (RefusesModel text) (sym q) ((λ x. absurd (cc)), pkg, is, h))
unmade text pkg (monitor.Cases part count) r is h q n = inr (subst (RefusesModel text) (sym q) ((λ x. absurd (cc)), pkg, is, h))
unmade text pkg monitor.Memory r is h q n = absurd (n q)

-- what an error passed on tells
pub passed_on : {T : Type 0} (P : MonErr → Type 0) (x : Result T MonErr) (r e : MonErr) → x ≡ Err r → r ≡ e → P e → IfErr x P
passed_on P x r e h q p = rw h (subst P (sym q) p)
