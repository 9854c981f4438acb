-- What private calls say to one another while they go through cases and certificates.
use Rattle.std.specs.Prelude.{◌≡◌, ⊤, ◌<◌, ◌≤◌, ◌^◌, false, List, [], ◌∷◌, length, All, IsTrue}
use Rattle.vp_terms.specs.Certificates.{IsCertificate}
use Rattle.vp_terms.specs.WellFormed.{is_good_cert}
use Rattle.vp_terms.specs.declared.expr.Places.{Places}
use Rattle.vp_terms.specs.declared.package.Cert.{Cert}
use Rattle.vp_logic.specs.Cases.{AreWithin, case_holds, lists}
use Rattle.vp_logic.specs.declared.norm.Atom.{Atom}
use Rattle.vp_poly.specs.Poly.{IsPoly, norm}
use Rattle.vp_poly.specs.Value.{Point}
use Rattle.vp_monitor.specs.declared.types.Obligation.{Obligation}
use Rattle.vp_synth.specs.declared.refusal.Refusal.{Refusal}
use Rattle.vp_synth.specs.Certifying.{Certifies, NumberedCase, RefusesCerts}

-- a certificate has its form, and variables that may stand in it
pub record IsGoodCert (p : Places) (c : Cert) : Type 0 where
  pub form : IsCertificate c
  pub good : IsTrue (is_good_cert p c)

-- what is asked of an obligation whose cases are to be refuted
pub record IsSplit (o : Obligation) : Type 0 where
  pub places : AreWithin (length o.atoms) (lists o.cases)
  pub polynomials : All (λ (a : Atom). IsPoly a.poly) o.atoms
  pub small : All (λ (a : Atom). norm a.poly < 2 ^ 62) o.atoms
  pub few : length (lists o.cases) ≤ 256

-- none of these cases holds at the point
abbrev pub NeverHold : Point → List NumberedCase → Type 0
NeverHold x [] = ⊤
NeverHold x (d ∷ ds) = (case_holds d.atoms x d.places ≡ false) × NeverHold x ds

-- the first cases were refuted by the first certificates, and these cases and certificates are left
pub record LeadsTo (p : Places) (all : List NumberedCase) (certs : List Cert) (ds : List NumberedCase) (left : List Cert) : Type 0 where
  pub certifies : Certifies p ds left → Certifies p all certs
  pub refused : (r : Refusal) → RefusesCerts p ds left r → RefusesCerts p all certs r
  pub never : (x : Point) → NeverHold x ds → NeverHold x all
