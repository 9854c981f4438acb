-- Bounds on the polynomials of a certificate, over unbounded numbers.
use Rattle.std.specs.Prelude.{◌+◌, ◌*◌, ◌^◌, ◌&&◌, Bool, true, max, nat_lt, nat_le, List, map, sum_by}
use Rattle.std.specs.List.{list_all}
use Rattle.vp_terms.specs.declared.expr.Places.{Places}
use Rattle.vp_terms.specs.declared.package.CertTerm.{CertTerm}
use Rattle.vp_terms.specs.declared.package.CertTerm.TheVariants.{Pos, Sum, Eq}
use Rattle.vp_poly.specs.Canonical.{own_weight}
use Rattle.vp_poly.specs.Weights.{fits}
use Rattle.vp_cert.specs.Certificate.{LabelAtoms, Size, combined, factors}

-- of a product of two; norm and number of terms count as 1 where they are below
abbrev pub size_product : Size → Size → Size
size_product a b = record { norm = max a.norm 1 * b.norm; terms = max a.terms 1 * b.terms; degree = a.degree + b.degree }

-- of a product of these
abbrev pub product_size : List Size → Size
product_size zs = combined size_product (record { norm = 1; terms = 1; degree = 0 }) zs

-- of a term
abbrev pub size_of_term : Places → LabelAtoms → CertTerm → Size
size_of_term p h t = product_size (map (λ f. f.size) (factors p h t))

-- no expression of the term is over
abbrev pub expressions_fit : Places → CertTerm → Bool
expressions_fit p (Pos n ls) = true
expressions_fit p (Sum n es ls) = list_all (λ e. fits (own_weight p e)) es
expressions_fit p (Eq l e) = fits (own_weight p e)

-- no expression is over, the norms add to less than 2^126, the numbers of terms to at most 65,536, and each degree is at most 48
abbrev pub is_within_bounds : Places → LabelAtoms → List CertTerm → Bool
is_within_bounds p h ts =
    list_all (expressions_fit p) ts
    && nat_lt (sum_by (λ t. (size_of_term p h t).norm) ts) (2 ^ 126)
    && nat_le (sum_by (λ t. (size_of_term p h t).terms) ts) 65536
    && list_all (λ t. nat_le (size_of_term p h t).degree 48) ts
