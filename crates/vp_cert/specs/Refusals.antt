-- When a certificate is refused, in order.
use Rattle.std.specs.Prelude.{◌≡◌, ◌≢◌, ⊤, true, false, List, ℤ, pos}
use Rattle.std.specs.List.{list_all}
use Rattle.std.specs.declared.cmp.Ordering.TheVariants.{Less}
use Rattle.vp_terms.specs.Rational.{whole, Equals}
use Rattle.vp_terms.specs.declared.expr.Places.{Places}
use Rattle.vp_terms.specs.declared.package.CertTerm.{CertTerm}
use Rattle.vp_poly.specs.declared.mono.Mono.{Mono}
use Rattle.vp_poly.specs.Poly.{mono_cmp}
use Rattle.vp_poly.specs.declared.canonical.PolyErr.{PolyErr}
use Rattle.vp_poly.specs.declared.canonical.PolyErr.TheVariants as poly
use Rattle.vp_cert.specs.Bounds.{is_within_bounds}
use Rattle.vp_cert.specs.Certificate.{LabelAtoms, labels_fit, begins_strict, total_coefficients}
use Rattle.vp_cert.specs.declared.error.CertErr.{CertErr}
use Rattle.vp_cert.specs.declared.error.CertErr.TheVariants.{Label, NotStrict, Wide, NotZero, Memory}

-- c isn't 0, it is the sum's coefficient of m, and those of all monomials before m are 0
pub record IsFirstLeft (p : Places) (h : LabelAtoms) (ts : List CertTerm) (m : Mono) (c : ℤ) : Type 0 where
  pub some : c ≢ pos 0
  pub coefficient : Equals (total_coefficients p h ts m.powers) (whole c)
  pub before : (n : Mono) → mono_cmp n m ≡ Less → Equals (total_coefficients p h ts n.powers) (whole (pos 0))

-- no label is wrong, the first term is strict, and no bound is passed
pub record PassesChecks (p : Places) (h : LabelAtoms) (ts : List CertTerm) : Type 0 where
  pub labels : list_all (labels_fit h) ts ≡ true
  pub strict : begins_strict h ts ≡ true
  pub within : is_within_bounds p h ts ≡ true

-- each refusal comes where nothing before it does
abbrev pub Refuses : Places → LabelAtoms → List CertTerm → CertErr → Type 0
Refuses p h ts Label = list_all (labels_fit h) ts ≡ false
Refuses p h ts NotStrict = (list_all (labels_fit h) ts ≡ true) × (begins_strict h ts ≡ false)
Refuses p h ts Wide = (list_all (labels_fit h) ts ≡ true) × (begins_strict h ts ≡ true) × (is_within_bounds p h ts ≡ false)
Refuses p h ts (NotZero m c) = PassesChecks p h ts × IsFirstLeft p h ts m c
Refuses p h ts Memory = ⊤

-- a refusal of an expression
abbrev pub from_poly : PolyErr → CertErr
from_poly poly.Wide = Wide
from_poly poly.Memory = Memory
