-- A text has one verdict at each stage.
use Rattle.std.proofs.Common.{◌≡◌, ◌≢◌, inl, inr, ℕ, List, map, refl, sym, ap, ◌∙◌, subst}
use Rattle.vp_terms.specs.Packages.{PackageTree, cert_tree, package_tree}
use Rattle.vp_terms.specs.WellFormed.{IsWellFormed, places_of}
use Rattle.vp_terms.specs.declared.expr.Places.{Places}
use Rattle.vp_terms.specs.declared.package.Package.{Package}
use Rattle.vp_flow.specs.Sides.{model}
use Rattle.vp_monitor.specs.declared.error.MonErr.{MonErr}
use Rattle.vp_monitor.specs.declared.error.MonErr.TheVariants as monitor
use Rattle.vp_read.specs.Reading.{IsPackage, Refuses as RefusesText}
use Rattle.vp_read.specs.declared.fault.ReadErr.{ReadErr}
use Rattle.vp_read.specs.declared.fault.ReadErr.TheVariants as read
use Rattle.vp_synth.specs.Accepting.{Accepts, IsPrepared}
use Rattle.vp_synth.specs.Certifying.{Certifies, NumberedCase, RefusesCerts, all_cases}
use Rattle.vp_synth.specs.Stages.{Certified, Declared, IsRefused, Passes, RefusesCertified, RefusesModel, RefusesPackage, RefusesReading, Split, Stage}
use Rattle.vp_synth.specs.declared.refusal.Refusal.{Refusal}
use Rattle.vp_synth.specs.declared.refusal.Refusal.TheVariants.{Cert, Extra, Memory, Monitor, Read}
use Rattle.vp_synth.proofs.Judged.{CertLaws, no_refusal, one_refusal}
use Rattle.vp_synth.proofs.Unmade.{MonitorLaws, none_unmade, one_unmade, same_cases, same_obligations}

-- what is known of texts, monitors and certificates
pub record Laws : Type 0 where
  pub one_reading : (text : List ℕ) (e f : ReadErr) → RefusesText text e → RefusesText text f → e ≢ read.Memory → f ≢ read.Memory → e ≡ f
  pub apart : (text : List ℕ) (pkg : Package) (e : ReadErr) → IsPackage text pkg → RefusesText text e → e ≢ read.Memory → ⊥
  pub one_package : (text : List ℕ) (p q : Package) → IsPackage text p → IsPackage text q → package_tree p ≡ package_tree q
  pub good : (text : List ℕ) (pkg : Package) → IsPackage text pkg → IsWellFormed pkg
  pub monitors : MonitorLaws
  pub certs : CertLaws

-- ---- which refusals are of which kind

pub record IsUnread (text : List ℕ) (r : Refusal) : Type 0 where
  pub error : ReadErr
  pub is : r ≡ Read error
  pub told : error ≢ read.Memory
  pub refuses : RefusesText text error

is_unread : (text : List ℕ) (r : Refusal) → RefusesReading text r → IsUnread text r
is_unread text (Read e) h = record { error = e; is = refl; told = h.0; refuses = h.1 }
is_unread text (Monitor e) h = absurd h
is_unread text (Cert part n why) h = absurd h
is_unread text Extra h = absurd h
is_unread text Memory h = absurd h

pub record IsUnmade (text : List ℕ) (r : Refusal) : Type 0 where
  pub error : MonErr
  pub is : r ≡ Monitor error
  pub told : error ≢ monitor.Memory
  pub pkg : Package
  pub read : IsPackage text pkg
  pub refuses : RefusesPackage pkg error

is_unmade : (text : List ℕ) (r : Refusal) → RefusesModel text r → IsUnmade text r
is_unmade text (Read e) h = absurd h
is_unmade text (Monitor e) h = record { error = e; is = refl; told = h.0; pkg = h.1; read = h.2; refuses = h.3 }
is_unmade text (Cert part n why) h = absurd h
is_unmade text Extra h = absurd h
is_unmade text Memory h = absurd h

-- ---- no two kinds at once

package_read : Laws → (text : List ℕ) (pkg : Package) (r : Refusal) → IsPackage text pkg → RefusesReading text r → ⊥
package_read l text pkg r h k = let u = is_unread text r k in l.apart text pkg u.error h u.refuses u.told

prepared_made : Laws → (text : List ℕ) (pkg : Package) (r : Refusal) → IsPrepared text pkg → RefusesModel text r → ⊥
prepared_made l text pkg r h k =
    let u = is_unmade text r k in
    none_unmade l.monitors pkg u.pkg (l.one_package text pkg u.pkg h.is u.read) (l.good text u.pkg u.read) h.obligations u.error u.told h.has u.refuses

model_read : Laws → (text : List ℕ) (r s : Refusal) → RefusesModel text r → RefusesReading text s → ⊥
model_read l text r s h k = let u = is_unmade text r h in package_read l text u.pkg s u.read k

-- ---- one refusal of each kind

one_read : Laws → (text : List ℕ) (r s : Refusal) → RefusesReading text r → RefusesReading text s → r ≡ s
one_read l text r s h k =
    let u = is_unread text r h in
    let v = is_unread text s k in
    u.is ∙ (ap Read (l.one_reading text u.error v.error u.refuses v.refuses u.told v.told) ∙ sym v.is)

one_model : Laws → (text : List ℕ) (r s : Refusal) → RefusesModel text r → RefusesModel text s → r ≡ s
one_model l text r s h k =
    let u = is_unmade text r h in
    let v = is_unmade text s k in
    u.is ∙ (ap Monitor (one_unmade l.monitors u.pkg v.pkg (l.one_package text u.pkg v.pkg u.read v.read) (l.good text v.pkg v.read) u.error v.error u.told v.told u.refuses v.refuses) ∙ sym v.is)

same_model : (p q : Package) → package_tree p ≡ package_tree q → model p ≡ model q
same_model p q e = ap (λ (t : PackageTree). places_of t.names) e

same_certs : (p q : Package) → package_tree p ≡ package_tree q → map cert_tree p.certs ≡ map cert_tree q.certs
same_certs p q e = ap (λ (t : PackageTree). t.certs) e

-- what is said of the places and the cases of a package, said of another with its tree
moved : (P : Places → List NumberedCase → Type 0) → Laws → (text : List ℕ) (p q : Package) (h : IsPrepared text p) (k : IsPrepared text q) → P (model p) (all_cases h.obligations) → P (model q) (all_cases k.obligations)
moved P l text p q h k x =
    let t = l.one_package text p q h.is k.is in
    subst (P (model q)) (same_cases h.obligations k.obligations (same_obligations l.monitors p q t (l.good text q k.is) h.obligations k.obligations h.has k.has))
    (subst (λ (places : Places). P places (all_cases h.obligations)) (same_model p q t) x)

one_certified : Laws → (text : List ℕ) (r s : Refusal) → RefusesCertified text r → RefusesCertified text s → r ≡ s
one_certified l text r s h k =
    one_refusal l.certs (model k.1) (all_cases k.2.obligations) h.1.certs k.1.certs r s (same_certs h.1 k.1 (l.one_package text h.1 k.1 h.2.is k.2.is)) h.0 k.0
    (moved (λ places ds. RefusesCerts places ds h.1.certs r) l text h.1 k.1 h.2 k.2 h.3) k.3

accepted_certified : Laws → (text : List ℕ) (pkg : Package) (r : Refusal) → Accepts text pkg → RefusesCertified text r → ⊥
accepted_certified l text pkg r h k =
    no_refusal l.certs (model k.1) (all_cases k.2.obligations) pkg.certs k.1.certs r (same_certs pkg k.1 (l.one_package text pkg k.1 h.prepared.is k.2.is)) k.0
    (moved (λ places ds. Certifies places ds pkg.certs) l text pkg k.1 h.prepared k.2 h.certified) k.3

-- ---- the verdict

pub refused : Laws → (stage : Stage) (text : List ℕ) (r s : Refusal) → IsRefused stage text r → IsRefused stage text s → r ≡ s
refused l Declared text r s h k = one_read l text r s h k
refused l Split text r s (inl h) (inl k) = one_read l text r s h k
refused l Split text r s (inl h) (inr k) = absurd (model_read l text s r k h)
refused l Split text r s (inr h) (inl k) = absurd (model_read l text r s h k)
refused l Split text r s (inr h) (inr k) = one_model l text r s h k
refused l Certified text r s (inl h) (inl k) = one_read l text r s h k
refused l Certified text r s (inl h) (inr (inl k)) = absurd (model_read l text s r k h)
refused l Certified text r s (inl h) (inr (inr k)) = absurd (package_read l text k.1 r k.2.is h)
refused l Certified text r s (inr (inl h)) (inl k) = absurd (model_read l text r s h k)
refused l Certified text r s (inr (inl h)) (inr (inl k)) = one_model l text r s h k
refused l Certified text r s (inr (inl h)) (inr (inr k)) = absurd (prepared_made l text k.1 r k.2 h)
refused l Certified text r s (inr (inr h)) (inl k) = absurd (package_read l text h.1 s h.2.is k)
refused l Certified text r s (inr (inr h)) (inr (inl k)) = absurd (prepared_made l text h.1 s h.2 k)
refused l Certified text r s (inr (inr h)) (inr (inr k)) = one_certified l text r s h k

pub apart : Laws → (stage : Stage) (text : List ℕ) (pkg : Package) (r : Refusal) → Passes stage text pkg → IsRefused stage text r → ⊥
apart l Declared text pkg r h k = package_read l text pkg r h k
apart l Split text pkg r h (inl k) = package_read l text pkg r h.is k
apart l Split text pkg r h (inr k) = prepared_made l text pkg r h k
apart l Certified text pkg r h (inl k) = package_read l text pkg r h.prepared.is k
apart l Certified text pkg r h (inr (inl k)) = prepared_made l text pkg r h.prepared k
apart l Certified text pkg r h (inr (inr k)) = accepted_certified l text pkg r h k
