-- What is known of the sum of the first terms of a certificate.
use Rattle.std.specs.Prelude.{◌≡◌, ℕ, ◌<◌, ◌≤◌, ◌^◌, true, List, length, sum_by, nat_le}
use Rattle.std.specs.List.{list_all}
use Rattle.vp_terms.specs.declared.expr.Places.{Places}
use Rattle.vp_terms.specs.declared.package.CertTerm.{CertTerm}
use Rattle.vp_poly.specs.declared.mono.Term.{Term}
use Rattle.vp_poly.specs.Poly.{IsPoly, norm}
use Rattle.vp_poly.specs.Times.{HasCoefficients}
use Rattle.vp_cert.specs.Bounds.{expressions_fit, size_of_term}
use Rattle.vp_cert.specs.Certificate.{LabelAtoms, total_coefficients}

-- the norms of these terms together, and their numbers of terms
abbrev pub norm_total : Places → LabelAtoms → List CertTerm → ℕ
norm_total p h ts = sum_by (λ t. (size_of_term p h t).norm) ts

abbrev pub count_total : Places → LabelAtoms → List CertTerm → ℕ
count_total p h ts = sum_by (λ t. (size_of_term p h t).terms) ts

-- zs is the sum of these terms, n and k are their norms and numbers of terms, and no bound is passed so far
pub record IsPartialSum (p : Places) (h : LabelAtoms) (ts : List CertTerm) (n k : ℕ) (zs : List Term) : Type 0 where
  pub poly : IsPoly zs
  pub coefficients : HasCoefficients 1 zs (total_coefficients p h ts)
  pub norms_are : n ≡ norm_total p h ts
  pub counts_are : k ≡ count_total p h ts
  pub fit : list_all (expressions_fit p) ts ≡ true
  pub low : list_all (λ t. nat_le (size_of_term p h t).degree 48) ts ≡ true
  pub small : n < 2 ^ 126
  pub few : k ≤ 65536
  pub norm_within : norm zs ≤ n
  pub length_within : length zs ≤ k
