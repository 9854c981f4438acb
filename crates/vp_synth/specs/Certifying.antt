-- Certificates that stand one for one with the cases of obligations.
use Rattle.std.specs.Prelude.{◌≡◌, ◌⊎◌, ⊤, ℕ, ◌+◌, true, List, [], ◌∷◌, ◌++◌}
use Rattle.vp_terms.specs.declared.expr.Places.{Places}
use Rattle.vp_terms.specs.declared.package.Part.{Part}
use Rattle.vp_terms.specs.declared.package.Cert.{Cert}
use Rattle.vp_logic.specs.declared.norm.Atom.{Atom}
use Rattle.vp_logic.specs.Cases.{Case, lists}
use Rattle.vp_cert.specs.Bounds.{is_within_bounds}
use Rattle.vp_cert.specs.Certificate.{Refutes, labelled}
use Rattle.vp_cert.specs.Refusals.{Refuses}
use Rattle.vp_cert.specs.declared.error.CertErr.{CertErr}
use Rattle.vp_cert.specs.declared.error.CertErr.TheVariants as err
use Rattle.vp_cert.specs.declared.error.CertWhy.TheVariants.{Missing, Wrong}
use Rattle.vp_monitor.specs.declared.types.Obligation.{Obligation}
use Rattle.vp_synth.specs.declared.refusal.Refusal.{Refusal}
use Rattle.vp_synth.specs.declared.refusal.Refusal.TheVariants.{Cert as CertOf, Extra, Memory}

-- ---- the cases in their order

-- a case with its part and its number, and the list of atoms in which it has its places
pub record NumberedCase : Type 0 where
  pub part : Part
  pub number : ℕ
  pub atoms : List Atom
  pub places : Case

-- these cases, with numbers from n on
abbrev pub numbered : Part → List Atom → ℕ → List Case → List NumberedCase
numbered part atoms n [] = []
numbered part atoms n (c ∷ cs) = (record { part = part; number = n; atoms = atoms; places = c }) ∷ numbered part atoms (n + 1) cs

-- the cases of an obligation, and those of all, one obligation after the other
abbrev pub cases_of : Obligation → List NumberedCase
cases_of o = numbered o.part o.atoms 1 (lists o.cases)

abbrev pub all_cases : List Obligation → List NumberedCase
all_cases [] = []
all_cases (o ∷ os) = cases_of o ++ all_cases os

-- ---- what is accepted

-- the certificate bears the part and the number of the case
pub record IsFor (d : NumberedCase) (c : Cert) : Type 0 where
  pub part : c.part ≡ d.part
  pub number : c.number ≡ d.number

-- it does, and refutes the case within the bounds
pub record IsRefuted (p : Places) (d : NumberedCase) (c : Cert) : Type 0 where
  pub is_for : IsFor d c
  pub refutes : Refutes p (labelled d.atoms d.places) c.terms
  pub within : is_within_bounds p (labelled d.atoms d.places) c.terms ≡ true

-- the certificates stand one for one with the cases and refute them
abbrev pub Certifies : Places → List NumberedCase → List Cert → Type 0
Certifies p [] [] = ⊤
Certifies p [] (c ∷ cs) = ⊥
Certifies p (d ∷ ds) [] = ⊥
Certifies p (d ∷ ds) (c ∷ cs) = IsRefuted p d c × Certifies p ds cs

-- ---- what is refused

-- why the certificate of this case is refused; want of memory is no such reason
abbrev pub refused : Part → ℕ → CertErr → Refusal
refused part n err.Label = CertOf part n (Wrong err.Label)
refused part n err.NotStrict = CertOf part n (Wrong err.NotStrict)
refused part n err.Wide = CertOf part n (Wrong err.Wide)
refused part n (err.NotZero m c) = CertOf part n (Wrong (err.NotZero m c))
refused part n err.Memory = Memory

-- the first refusal of certificates: the case's is not the next, or it is and is wrong; and certificates
-- that are left behind all cases
abbrev pub RefusesCerts : Places → List NumberedCase → List Cert → Refusal → Type 0
RefusesCerts p [] [] r = ⊥
RefusesCerts p [] (c ∷ cs) r = r ≡ Extra
RefusesCerts p (d ∷ ds) [] r = r ≡ CertOf d.part d.number Missing
RefusesCerts p (d ∷ ds) (c ∷ cs) r =
    ((¬ IsFor d c) × (r ≡ CertOf d.part d.number Missing))
    ⊎ ((IsFor d c × ((e : CertErr) × Refuses p (labelled d.atoms d.places) c.terms e × (r ≡ refused d.part d.number e)))
    ⊎ (IsRefuted p d c × RefusesCerts p ds cs r))
