-- The line of a refusal that tells of a package.
use Rattle.std.proofs.Common.{◌≡◌, ◌≢◌, ℕ, List, Result, Ok, Err, sym, ap, subst, ◌∙◌}
use Rattle.std.specs.Prelude.{IfOk, OnOk}
use Rattle.vp_monitor.specs.declared.error.MonErr.{MonErr}
use Rattle.vp_read.specs.Reading.{IsPackage}
use Rattle.vp_synth.specs.declared.refusal.Refusal.{Refusal}
use Rattle.vp_synth.specs.declared.refusal.Refusal.TheVariants.{Memory, Monitor}
use Rattle.vp_terms.specs.declared.package.Names.{Names}
use Rattle.vp_terms.specs.declared.package.Package.{Package}
use Rattle.vp_cmd.specs.Dues.{IsRefusal}
use Rattle.vp_cmd.specs.Outcomes.{Outcome, monitor_text, refused}

-- over the names of a package that the text is
pub monitor_line : {E : Type 0} (text : List ℕ) (r : Refusal) (why : MonErr) (names : Names) (out : Result Outcome E) → r ≡ Monitor why → (pkg : Package) × IsPackage text pkg × (names ≡ pkg.names)
    → IfOk out (λ o. o ≡ refused (monitor_text names why)) → IfOk out (λ o. IsRefusal text r o)
monitor_line text r why names (Ok o) is k h = subst (λ (r : Refusal). IsRefusal text r o) (sym is) (k.0, k.1, h ∙ ap (λ (n : Names). refused (monitor_text n why)) k.2)
monitor_line text r why names (Err e) is k h = tt

pub monitor_is : {T E : Type 0} (r : Refusal) (why : MonErr) (out : Result T E) → r ≡ Monitor why → OnOk out (r ≢ Memory)
monitor_is r why (Ok o) is = λ e. cc
monitor_is r why (Err e) is = tt
